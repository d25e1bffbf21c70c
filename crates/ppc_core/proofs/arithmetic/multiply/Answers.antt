use Rattle.std.proofs.Common.{◌≡◌, refl, ℕ, ◌^◌, ◌<◌, ◌≤◌, arith, rules, lit<, ℤ, ◌*ℤ◌, to_z, of_z, w64, FitsSigned}
use Rattle.std.specs.Prelude.{unsigned_abs}
use Rattle.std.proofs.lemmas.Int.{ints, to_z-of_z, fits_signed_mul}
use Rattle.ppc_core.specs.Words.{signed}
use Rattle.ppc_core.proofs.arithmetic.multiply.Goals as goal

signed-abs : (a : ℕ) → a < 2 ^ 32 → unsigned_abs (signed a) ≤ 2 ^ 31
signed-abs a h = grind (arith, ints)

product : (a b : ℕ) (x y : ℤ) → a < 2 ^ 32 → b < 2 ^ 32 → FitsSigned w64 x → FitsSigned w64 y → x ≡ signed a → y ≡ signed b → to_z w64 (of_z w64 (to_z w64 (of_z w64 x) *ℤ to_z w64 (of_z w64 y))) ≡ signed a *ℤ signed b
product a b x y p q fx fy e f =
    let bx : unsigned_abs x ≤ 2 ^ 31 = rw e (signed-abs a p) in
    let by : unsigned_abs y ≤ 2 ^ 31 = rw f (signed-abs b q) in
    let fp = fits_signed_mul w64 x y (2 ^ 31) (2 ^ 31) bx by (lit< tt) in
    rw (to_z-of_z w64 x fx, to_z-of_z w64 y fy, to_z-of_z w64 (x *ℤ y) fp, e, f) refl

pub returns : goal.returns
returns c =
    let fx : FitsSigned w64 c.signed_of.result = search rules in
    let fy : FitsSigned w64 c.signed_of-2.result = search rules in
    product c.args.x c.args.y _ _ (omega arith) (omega arith) fx fy c.signed_of.ensures c.signed_of-2.ensures
