-- Each bit of the condition register after fields are moved.
use Rattle.std.proofs.Common.{◌≡◌, ℕ, zero, suc, ◌+◌, ◌-◌, ◌*◌, ◌/◌, ◌%◌, ◌^◌, ◌<◌, ◌≤◌, ◌==◌, Bool, true, false, refl, sym, ap, ◌∙◌, ◌⊎◌, inl, inr, arith}
use Rattle.std.specs.Prelude.{if◌then◌else◌}
use Rattle.std.proofs.lemmas.Nat.{mod_below, pow_pos}
use Rattle.ppc_core.specs.Words.{bits, with_bits}
use Rattle.ppc_core.specs.Fields.{fxm}
use Rattle.ppc_core.specs.Conditions.{moved_fields}
use Rattle.ppc_core.proofs.Bits.{field-bit, one-bit, bits-before, bits-inside, bits-after}

-- the bits of field k of a word
field_bits : (s k : ℕ) → bits s (4 * k) (4 * k + 3) ≡ s / 2 ^ (31 - (4 * k + 3)) % 2 ^ 4
field_bits s k = let e : 4 * k + 3 + 1 - 4 * k ≡ 4 = omega arith in ap (λ n. s / 2 ^ (31 - (4 * k + 3)) % 2 ^ n) e

field-lt : (s k : ℕ) → bits s (4 * k) (4 * k + 3) < 2 ^ (4 * k + 3 + 1 - 4 * k)
field-lt s k = mod_below (s / 2 ^ (31 - (4 * k + 3))) (2 ^ (4 * k + 3 + 1 - 4 * k)) (pow_pos (4 * k + 3 + 1 - 4 * k))

bit-of_field : (s k i : ℕ) → k < 8 → 4 * k ≤ i → i ≤ 4 * k + 3 → bits s (4 * k) (4 * k + 3) / 2 ^ (4 * k + 3 - i) % 2 ≡ bits s i i
bit-of_field s k i lt a b =
    let e : (31 - (4 * k + 3)) + (4 * k + 3 - i) ≡ 31 - i = omega arith in
    ap (λ n. n / 2 ^ (4 * k + 3 - i) % 2) (field_bits s k)
    ∙ field-bit s (31 - (4 * k + 3)) 4 (4 * k + 3 - i) (omega arith)
    ∙ ap (λ n. s / 2 ^ n % 2) e
    ∙ sym (one-bit s i)

-- a word with field k of another, or unchanged
abbrev one_moved : Bool → ℕ → ℕ → ℕ → ℕ
one_moved t before s k = if t then with_bits before (4 * k) (4 * k + 3) (bits s (4 * k) (4 * k + 3)) else before

elsewhere : (t : Bool) (before s k i : ℕ) → k < 8 → i < 32 → (i < 4 * k) ⊎ (4 * k + 3 < i) → bits (one_moved t before s k) i i ≡ bits before i i
elsewhere false before s k i lt h side = refl
elsewhere true before s k i lt h (inl a) = bits-before before (4 * k) (4 * k + 3) (bits s (4 * k) (4 * k + 3)) (omega arith) (omega arith) (field-lt s k) i a
elsewhere true before s k i lt h (inr a) = bits-after before (4 * k) (4 * k + 3) (bits s (4 * k) (4 * k + 3)) (omega arith) (omega arith) (field-lt s k) i a h

here : (t : Bool) (before s k i : ℕ) → k < 8 → 4 * k ≤ i → i ≤ 4 * k + 3 → bits (one_moved t before s k) i i ≡ (if t then bits s i i else bits before i i)
here false before s k i lt a b = refl
here true before s k i lt a b =
    bits-inside before (4 * k) (4 * k + 3) (bits s (4 * k) (4 * k + 3)) (omega arith) (omega arith) (field-lt s k) i a b
    ∙ bit-of_field s k i lt a b

module _ (cr s w : ℕ) where
  -- the fields that aren't reached yet stay
  moved-after : (n i : ℕ) → n ≤ 8 → 4 * n ≤ i → i < 32 → bits (moved_fields cr s w n) i i ≡ bits cr i i
  moved-after zero i le h lt = refl
  moved-after (suc k) i le h lt =
      elsewhere (fxm w k == 1) (moved_fields cr s w k) s k i (omega arith) lt (inr (omega arith))
      ∙ moved-after k i (omega arith) (omega arith) lt

  last_or_before : (k i : ℕ) → i < 4 * suc k → (i < 4 * k) ⊎ ((4 * k ≤ i) × (i ≤ 4 * k + 3))
  last_or_before k i lt = grind arith

  -- each bit of the first n fields is that of the word if FXM names its field
  pub moved-bit : (n i : ℕ) → n ≤ 8 → i < 4 * n → bits (moved_fields cr s w n) i i ≡ (if fxm w (i / 4) == 1 then bits s i i else bits cr i i)
  moved-bit zero i le lt = absurd (omega arith)
  moved-bit (suc k) i le lt =
      elim (last_or_before k i lt) [
        | inl before ↦
            elsewhere (fxm w k == 1) (moved_fields cr s w k) s k i (omega arith) (omega arith) (inl before)
            ∙ moved-bit k i (omega arith) before
        | inr at ↦
            let q : i / 4 ≡ k = omega (arith, at.0, at.1) in
            here (fxm w k == 1) (moved_fields cr s w k) s k i (omega arith) at.0 at.1
            ∙ ap (λ old. if fxm w k == 1 then bits s i i else old) (moved-after k i (omega arith) at.0 (omega (arith, at.1)))
            ∙ ap (λ j. if fxm w j == 1 then bits s i i else bits cr i i) (sym q)
      ]
