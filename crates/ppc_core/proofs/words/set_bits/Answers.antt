use Rattle.std.proofs.Common.{◌≡◌, ◌-◌, ◌*◌, ◌%◌, ◌^◌, ◌<◌, arith}
use Rattle.std.proofs.lemmas.Nat.{one_shl}
use Rattle.ppc_core.proofs.Bounds.{with_bits-lt}
use Rattle.ppc_core.proofs.words.set_bits.Goals as goal

pub overflow_cast-result-4 : goal.overflow_cast-result-4
overflow_cast-result-4 c =
    let lt : c.args.word < 2 ^ 32 = omega arith in
    let h = with_bits-lt c.args.word c.args.first c.args.last c.args.value lt c.requires.order c.requires.end c.requires.below in
    let m : 1 * 2 ^ (31 - c.args.last) % 18446744073709551616 ≡ 2 ^ (31 - c.args.last) = one_shl (31 - c.args.last) 64 (omega arith) in rw m (omega (arith, h))
