-- The words of a line.
use Rattle.std.proofs.Common.{◌≡◌, ℕ, ◌^◌, ◌<◌, ◌≤◌, false, cond, not, eqb, ◌&&◌, List, Some, None, length, sym, ap, ◌∙◌, eq-eqb, arith}
use Rattle.std.specs.Str.{IsUtf8}
use Rattle.std.specs.Str.Lossy.{utf8_valid_len}
use Rattle.std.proofs.lemmas.Str.{utf8_valid_len-IsUtf8}
use Rattle.std.proofs.Math.Nat.{pow-le-pow_right}
use Rattle.wind_link.specs.Rows.{name_of}

pub name_is : (w n : List ℕ) → n ≡ w → eqb (length w) 0 ≡ false → IsUtf8 w → Some n ≡ name_of w
name_is w n same some text =
    ap (λ x. Some x) same
    ∙ ap (λ b. cond b (Some w) None) (sym (eq-eqb (utf8_valid_len w) (length w) (utf8_valid_len-IsUtf8 w text)))
    ∙ ap (λ b. cond (not b && eqb (utf8_valid_len w) (length w)) (Some w) None) (sym some)

-- fewer than 8 digits
pub small_value : (v i n : ℕ) → v < 16 ^ i → i < n → n ≡ 8 → v < 268435456
small_value v i n h k e =
    let seven : i ≤ 7 = omega arith in
    let p = pow-le-pow_right {n = 16} (omega arith) seven in
    omega (arith, p)
