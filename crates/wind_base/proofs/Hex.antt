-- Numbers in hexadecimal digits.
use Rattle.std.proofs.Common.{◌≡◌, ℕ, zero, suc, ◌-◌, ◌/◌, ◌%◌, ◌^◌, ◌<◌, ◌≤◌, List, [], ◌∷◌, ◌++◌, true, false, refl, ap, sym, ◌∙◌, arith, append_assoc, subst, inl, inr, lit≤}
use Rattle.std.proofs.lemmas.Bool.{cases_eq}
use Rattle.std.specs.Prelude.{◌==◌, if◌then◌else◌}
use Rattle.std.specs.Fmt.{digit_glyph, digits_onto, digits}
use Rattle.std.proofs.Math.Nat.{pow-suc}
use Rattle.std.proofs.lemmas.Nat.{div_below}
use Rattle.std.proofs.lemmas.Bool.Decides.{nat_tests}
use Rattle.wind_base.specs.Texts.{hex_within}

-- the digits written before others are those written before none, followed by the others
onto_append : (k n : ℕ) (acc : List ℕ) → digits_onto k 16 false n acc ≡ digits_onto k 16 false n [] ++ acc
onto_append zero n acc = refl
onto_append (suc k) n acc =
    let g = digit_glyph false (n % 16) in
    let prefix = digits_onto k 16 false (n / 16) [] in
    let more : digits_onto k 16 false (n / 16) (g ∷ acc) ≡ digits_onto k 16 false (n / 16) (g ∷ []) ++ acc =
    onto_append k (n / 16) (g ∷ acc) ∙ sym (append_assoc prefix (g ∷ []) acc) ∙ ap (λ ds. ds ++ acc) (sym (onto_append k (n / 16) (g ∷ []))) in
    elim (n / 16 == 0) as (λ t. (if t then g ∷ acc else digits_onto k 16 false (n / 16) (g ∷ acc)) ≡ (if t then g ∷ [] else digits_onto k 16 false (n / 16) (g ∷ [])) ++ acc) [
      | true ↦ refl
      | false ↦ more
    ]

-- one digit
one_digit : (k n : ℕ) → n < 16 → hex_within (suc k) n ≡ digit_glyph false n ∷ []
unfolding hex_within
one_digit k n small =
    let none : n / 16 ≡ 0 = omega arith in
    let same : n % 16 ≡ n = omega arith in
    ap (λ q. if q == 0 then digit_glyph false (n % 16) ∷ [] else digits_onto k 16 false q (digit_glyph false (n % 16) ∷ [])) none ∙ ap (λ d. digit_glyph false d ∷ []) same

-- more than one digit
more_digits : (k n : ℕ) → 16 ≤ n → hex_within (suc k) n ≡ hex_within k (n / 16) ++ digit_glyph false (n % 16) ∷ []
unfolding hex_within
more_digits k n big =
    let some : (n / 16 == 0) ≡ false = grind (arith, nat_tests) in
    ap (λ t. if t then digit_glyph false (n % 16) ∷ [] else digits_onto k 16 false (n / 16) (digit_glyph false (n % 16) ∷ [])) some
    ∙ onto_append k (n / 16) (digit_glyph false (n % 16) ∷ [])

pub hex_last : (k n : ℕ) → 0 < k → n < 16 → hex_within k n ≡ digit_glyph false n ∷ []
hex_last zero n some small = absurd (omega arith)
hex_last (suc k) n some small = one_digit k n small

pub hex_more : (k n : ℕ) → 0 < k → 16 ≤ n → hex_within k n ≡ hex_within (k - 1) (n / 16) ++ digit_glyph false (n % 16) ∷ []
hex_more zero n some big = absurd (omega arith)
hex_more (suc k) n some big = let e : suc k - 1 ≡ k = omega arith in rw e (more_digits k n big)

-- a number above 0 has at least one digit
places_left : (k q : ℕ) → q < 16 ^ k → (q ≡ 0 → ⊥) → 0 < k
places_left zero q below some = absurd (some (omega arith))
places_left (suc k) q below some = omega arith

-- more places than a number needs change nothing
onto_wide : (k m n : ℕ) (acc : List ℕ) → k ≤ m → 0 < k → n < 16 ^ k → digits_onto m 16 false n acc ≡ digits_onto k 16 false n acc
onto_wide zero m n acc le some small = absurd (omega arith)
onto_wide (suc k) zero n acc le some small = absurd (omega arith)
onto_wide (suc k) (suc m) n acc le some small =
    let g = digit_glyph false (n % 16) in
    let below : n / 16 < 16 ^ k = div_below n 16 (16 ^ k) (lit≤ tt) (subst (λ w. n < w) (pow-suc 16 k) small) in
    elim (cases_eq (n / 16) 0) [
      | inl none ↦ ap (λ q. if q == 0 then g ∷ acc else digits_onto m 16 false q (g ∷ acc)) none ∙ sym (ap (λ q. if q == 0 then g ∷ acc else digits_onto k 16 false q (g ∷ acc)) none)
      | inr more ↦ ap (λ ds. if n / 16 == 0 then g ∷ acc else ds) (onto_wide k m (n / 16) (g ∷ acc) (omega arith) (places_left k (n / 16) below more) below)
    ]

-- a word has at most 8 digits
pub hex_word : (n : ℕ) → n < 16 ^ 8 → hex_within 8 n ≡ digits 16 false n
unfolding hex_within digits
hex_word n small = sym (onto_wide 8 64 n [] (lit≤ tt) (lit≤ tt) small)
