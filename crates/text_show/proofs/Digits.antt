-- Numbers in digits.
use Rattle.std.proofs.Common.{◌≡◌, ℕ, zero, suc, ◌-◌, ◌/◌, ◌%◌, ◌^◌, ◌<◌, ◌≤◌, Bool, List, [], ◌∷◌, ◌++◌, true, false, refl, ap, sym, ◌∙◌, arith, append_assoc, subst, inl, inr}
use Rattle.std.proofs.lemmas.Bool.{cases_eq}
use Rattle.std.specs.Prelude.{◌==◌, if◌then◌else◌}
use Rattle.std.specs.Fmt.{digit_glyph, digits_onto, digits}
use Rattle.std.proofs.Math.Nat.{pow-suc, pow-zero}
use Rattle.std.proofs.lemmas.Nat.{div_below, le-div}
use Rattle.std.proofs.lemmas.Bool.Decides.{nat_tests}
use Rattle.text_show.specs.Numeral.{digits_within}

module _ (base : ℕ) (upper : Bool) where
  glyph_of : ℕ → List ℕ → List ℕ
  glyph_of n acc = digit_glyph upper (n % base) ∷ acc

  -- the digits before others are those before none
  onto_append : (k n : ℕ) (acc : List ℕ) → digits_onto k base upper n acc ≡ digits_onto k base upper n [] ++ acc
  onto_append zero n acc = refl
  onto_append (suc k) n acc =
      let g = digit_glyph upper (n % base) in
      let prefix = digits_onto k base upper (n / base) [] in
      let more : digits_onto k base upper (n / base) (g ∷ acc) ≡ digits_onto k base upper (n / base) (g ∷ []) ++ acc =
      onto_append k (n / base) (g ∷ acc) ∙ sym (append_assoc prefix (g ∷ []) acc) ∙ ap (λ ds. ds ++ acc) (sym (onto_append k (n / base) (g ∷ []))) in
      elim (n / base == 0) as (λ t. (if t then g ∷ acc else digits_onto k base upper (n / base) (g ∷ acc)) ≡ (if t then g ∷ [] else digits_onto k base upper (n / base) (g ∷ [])) ++ acc) [
        | true ↦ refl
        | false ↦ more
      ]

  none_left : (n : ℕ) → 0 < base → n < base → n / base ≡ 0
  none_left n some small = let below : n / base < 1 = div_below n base 1 some (omega arith) in omega arith

  some_left : (n : ℕ) → 0 < base → base ≤ n → 1 ≤ n / base
  some_left n some big = le-div 1 n base some (omega arith)

  one_digit : (k n : ℕ) → 0 < base → n < base → digits_within base upper (suc k) n ≡ digit_glyph upper (n % base) ∷ []
  unfolding digits_within
  one_digit k n some small =
      ap (λ q. if q == 0 then digit_glyph upper (n % base) ∷ [] else digits_onto k base upper q (digit_glyph upper (n % base) ∷ [])) (none_left n some small)

  more_digits : (k n : ℕ) → 0 < base → base ≤ n → digits_within base upper (suc k) n ≡ digits_within base upper k (n / base) ++ digit_glyph upper (n % base) ∷ []
  unfolding digits_within
  more_digits k n pos big =
      let left = some_left n pos big in
      let some : (n / base == 0) ≡ false = grind (arith, nat_tests) in
      ap (λ t. if t then digit_glyph upper (n % base) ∷ [] else digits_onto k base upper (n / base) (digit_glyph upper (n % base) ∷ [])) some
      ∙ onto_append k (n / base) (digit_glyph upper (n % base) ∷ [])

  pub last_digit : (k n : ℕ) → 0 < k → 0 < base → n < base → digits_within base upper k n ≡ digit_glyph upper (n % base) ∷ []
  last_digit zero n some pos small = absurd (omega arith)
  last_digit (suc k) n some pos small = one_digit k n pos small

  pub leading_digits : (k n : ℕ) → 0 < k → 0 < base → base ≤ n → digits_within base upper k n ≡ digits_within base upper (k - 1) (n / base) ++ digit_glyph upper (n % base) ∷ []
  leading_digits zero n some pos big = absurd (omega arith)
  leading_digits (suc k) n some pos big = let e : suc k - 1 ≡ k = omega arith in rw e (more_digits k n pos big)

  -- a number above 0 has places
  places_left : (k q : ℕ) → q < base ^ k → (q ≡ 0 → ⊥) → 0 < k
  places_left zero q below some = let one : base ^ 0 ≡ 1 = pow-zero base in absurd (some (omega arith))
  places_left (suc k) q below some = omega arith

  pub leading_below : (k n : ℕ) → 0 < k → 0 < base → n < base ^ k → n / base < base ^ (k - 1)
  leading_below zero n some pos small = absurd (omega arith)
  leading_below (suc k) n some pos small =
      let e : suc k - 1 ≡ k = omega arith in
      rw e (div_below n base (base ^ k) pos (subst (λ w. n < w) (pow-suc base k) small))

  pub leading_places : (k n : ℕ) → 0 < k → 0 < base → n < base ^ k → base ≤ n → 0 < k - 1
  leading_places k n some pos small big =
      let left = some_left n pos big in
      places_left (k - 1) (n / base) (leading_below k n some pos small) (λ (none : n / base ≡ 0). omega arith)

  -- more places than a number needs change nothing
  onto_wide : (k m n : ℕ) (acc : List ℕ) → k ≤ m → 0 < k → 0 < base → n < base ^ k → digits_onto m base upper n acc ≡ digits_onto k base upper n acc
  onto_wide zero m n acc le some pos small = absurd (omega arith)
  onto_wide (suc k) zero n acc le some pos small = absurd (omega arith)
  onto_wide (suc k) (suc m) n acc le some pos small =
      let g = digit_glyph upper (n % base) in
      let below : n / base < base ^ k = div_below n base (base ^ k) pos (subst (λ w. n < w) (pow-suc base k) small) in
      elim (cases_eq (n / base) 0) [
        | inl none ↦ ap (λ q. if q == 0 then g ∷ acc else digits_onto m base upper q (g ∷ acc)) none ∙ sym (ap (λ q. if q == 0 then g ∷ acc else digits_onto k base upper q (g ∷ acc)) none)
        | inr more ↦ ap (λ ds. if n / base == 0 then g ∷ acc else ds) (onto_wide k m (n / base) (g ∷ acc) (omega arith) (places_left k (n / base) below more) pos below)
      ]

  pub all_digits : (k n : ℕ) → k ≤ 64 → 0 < k → 0 < base → n < base ^ k → digits_within base upper k n ≡ digits base upper n
  unfolding digits_within digits
  all_digits k n le some pos small = sym (onto_wide k 64 n [] le some pos small)
