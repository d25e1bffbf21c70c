use Rattle.std.proofs.Common.{ℕ, ◌-◌, ◌^◌, ◌≤◌, lit≤, arith}
use Rattle.std.proofs.lemmas.Nat.{one_shl, pow_pos}
use Rattle.std.proofs.Math.Nat.{pow-le-pow_right}
use Rattle.ppc_word.proofs.bits.ones_between.Goals as goal

pow_le : (i j : ℕ) → i ≤ j → 2 ^ i ≤ 2 ^ j
pow_le i j h = pow-le-pow_right (lit≤ tt) h

pub overflow_sub-result : goal.overflow_sub-result
overflow_sub-result c =
    let p = pow_le (31 - c.args.last) (32 - c.args.first) (omega arith) in
    rw (one_shl (31 - c.args.last) 64 (omega arith), one_shl (32 - c.args.first) 64 (omega arith)) p

pub overflow_cast-result : goal.overflow_cast-result
overflow_cast-result c =
    let p = pow_le (32 - c.args.first) 32 (omega arith) in
    let q = pow_pos (31 - c.args.last) in
    rw (one_shl (31 - c.args.last) 64 (omega arith), one_shl (32 - c.args.first) 64 (omega arith)) (omega arith)

pub overflow_sub-result-else-first-last : goal.overflow_sub-result-else-first-last
overflow_sub-result-else-first-last c =
    let p = pow_le (32 - c.args.first) (31 - c.args.last) (omega arith) in
    rw (one_shl (31 - c.args.last) 64 (omega arith), one_shl (32 - c.args.first) 64 (omega arith)) p
