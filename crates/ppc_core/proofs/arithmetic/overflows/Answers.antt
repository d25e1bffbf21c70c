use Rattle.std.proofs.Common.{◌≡◌, ℕ, ◌<◌, ◌^◌, not, ap, ◌∙◌, arith, ℤ, pos, ◌+ℤ◌, to_z, of_z, w64}
use Rattle.std.proofs.lemmas.Int.{ints}
use Rattle.ppc_core.specs.Words.{signed, fits}
use Rattle.ppc_core.proofs.arithmetic.overflows.Goals as goal

same : (a b n : ℕ) (x y z : ℤ) → a < 2 ^ 32 → b < 2 ^ 32 → n < 2 → x ≡ signed a → y ≡ signed b → z ≡ pos n → to_z w64 (of_z w64 (to_z w64 (of_z w64 (to_z w64 (of_z w64 x) +ℤ to_z w64 (of_z w64 y))) +ℤ to_z w64 (of_z w64 z))) ≡ signed a +ℤ signed b +ℤ pos n
same a b n x y z p q r e f g = omega (arith, ints)

pub returns : goal.returns
returns c = ap not (c.is_word.ensures ∙ ap fits (same c.args.x c.args.y c.args.c c.signed_of.result c.signed_of-2.result c.from.result (omega arith) (omega arith) c.requires c.signed_of.ensures c.signed_of-2.ensures c.from.ensures))
