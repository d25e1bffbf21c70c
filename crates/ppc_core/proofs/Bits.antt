-- Single bits of words.
use Rattle.std.proofs.Common.{◌≡◌, ℕ, ◌+◌, ◌-◌, ◌*◌, ◌/◌, ◌%◌, ◌^◌, ◌<◌, ◌≤◌, sym, ap, ◌∙◌, arith}
use Rattle.std.proofs.lemmas.Nat.{field_of, shr-shr, pow-add, div-mul-add, mod_below, pow_pos}
use Rattle.std.proofs.Math.Pow.{mod-mod-pow}
use Rattle.std.proofs.Math.Nat.{mul_assoc, add-mul, mul-add-mod_self_right}
use Rattle.ppc_core.specs.Words.{bits, with_bits}

-- the last bit of a number's lowest bits
last_bit : (n width : ℕ) → 0 < width → n % 2 ^ width % 2 ≡ n % 2
last_bit n width some =
    let e : width ≡ (width - 1) + 1 = omega arith in
    ap (λ k. n % 2 ^ k % 2) e ∙ mod-mod-pow n (width - 1) 1

-- bit j of a number's lowest bits
low-bit : (n width j : ℕ) → j < width → n % 2 ^ width / 2 ^ j % 2 ≡ n / 2 ^ j % 2
low-bit n width j lt =
    let e : width ≡ (width - j) + j = omega arith in
    ap (λ k. n % 2 ^ k / 2 ^ j % 2) e
    ∙ ap (λ k. k % 2) (field_of n (width - j) j)
    ∙ last_bit (n / 2 ^ j) (width - j) (omega arith)

-- bit j of a field
pub field-bit : (w low width j : ℕ) → j < width → w / 2 ^ low % 2 ^ width / 2 ^ j % 2 ≡ w / 2 ^ (low + j) % 2
field-bit w low width j lt =
    low-bit (w / 2 ^ low) width j lt ∙ ap (λ k. k % 2) (shr-shr w low j)

-- bit j of the lower of two numbers, one above the other
lower-bit : (high width low j : ℕ) → j < width → (high * 2 ^ width + low) / 2 ^ j % 2 ≡ low / 2 ^ j % 2
lower-bit high width low j lt =
    sym (low-bit (high * 2 ^ width + low) width j lt)
    ∙ ap (λ n. n / 2 ^ j % 2) (mul-add-mod_self_right high (2 ^ width) low)
    ∙ low-bit low width j lt

-- a single bit of a word
pub one-bit : (w n : ℕ) → bits w n n ≡ w / 2 ^ (31 - n) % 2
one-bit w n = let e : n + 1 - n ≡ 1 = omega arith in ap (λ k. w / 2 ^ (31 - n) % 2 ^ k) e

-- a word with another number in some bits: the bits before it and that number are one number, above the bits after it
joined : (w first last value low width high : ℕ) → 31 - last ≡ low → last + 1 - first ≡ width → 32 - first ≡ high → low + width ≡ high → with_bits w first last value ≡ (w / 2 ^ high * 2 ^ width + value) * 2 ^ low + w % 2 ^ low
joined w first last value low width high a b c d =
    let p : 2 ^ high ≡ 2 ^ width * 2 ^ low = let e : high ≡ width + low = omega arith in ap (λ k. 2 ^ k) e ∙ pow-add 2 width low in
    let q : w / 2 ^ high * 2 ^ high ≡ w / 2 ^ high * 2 ^ width * 2 ^ low = ap (λ k. w / 2 ^ high * k) p ∙ sym (mul_assoc (w / 2 ^ high) (2 ^ width) (2 ^ low)) in
    rw (a, c) (ap (λ k. k + value * 2 ^ low + w % 2 ^ low) q ∙ ap (λ k. k + w % 2 ^ low) (sym (add-mul (w / 2 ^ high * 2 ^ width) value (2 ^ low))))

module _ (w first last value : ℕ) (order : first ≤ last) (end : last < 32) (below : value < 2 ^ (last + 1 - first)) where
  is : with_bits w first last value ≡ (w / 2 ^ (32 - first) * 2 ^ (last + 1 - first) + value) * 2 ^ (31 - last) + w % 2 ^ (31 - last)
  is = joined w first last value (31 - last) (last + 1 - first) (32 - first) (omega arith) (omega arith) (omega arith) (omega arith)

  above_low : with_bits w first last value / 2 ^ (31 - last) ≡ w / 2 ^ (32 - first) * 2 ^ (last + 1 - first) + value
  above_low = ap (λ n. n / 2 ^ (31 - last)) is ∙ div-mul-add (w / 2 ^ (32 - first) * 2 ^ (last + 1 - first) + value) (2 ^ (31 - last)) (w % 2 ^ (31 - last)) (mod_below w (2 ^ (31 - last)) (pow_pos (31 - last)))

  -- the bits after the number stay
  pub bits-after : (i : ℕ) → last < i → i < 32 → bits (with_bits w first last value) i i ≡ bits w i i
  bits-after i h lt =
      one-bit (with_bits w first last value) i
      ∙ ap (λ n. n / 2 ^ (31 - i) % 2) is
      ∙ lower-bit (w / 2 ^ (32 - first) * 2 ^ (last + 1 - first) + value) (31 - last) (w % 2 ^ (31 - last)) (31 - i) (omega arith)
      ∙ low-bit w (31 - last) (31 - i) (omega arith)
      ∙ sym (one-bit w i)

  -- those of the number are its own
  pub bits-inside : (i : ℕ) → first ≤ i → i ≤ last → bits (with_bits w first last value) i i ≡ value / 2 ^ (last - i) % 2
  bits-inside i h lt =
      let e : 31 - i ≡ (31 - last) + (last - i) = omega arith in
      one-bit (with_bits w first last value) i
      ∙ ap (λ n. with_bits w first last value / 2 ^ n % 2) e
      ∙ ap (λ n. n % 2) (sym (shr-shr (with_bits w first last value) (31 - last) (last - i)))
      ∙ ap (λ n. n / 2 ^ (last - i) % 2) above_low
      ∙ lower-bit (w / 2 ^ (32 - first)) (last + 1 - first) value (last - i) (omega arith)

  -- the bits before the number stay
  pub bits-before : (i : ℕ) → i < first → bits (with_bits w first last value) i i ≡ bits w i i
  bits-before i h =
      let e : 31 - i ≡ ((31 - last) + (last + 1 - first)) + (first - 1 - i) = omega arith in
      let f : (32 - first) + (first - 1 - i) ≡ 31 - i = omega arith in
      one-bit (with_bits w first last value) i
      ∙ ap (λ n. with_bits w first last value / 2 ^ n % 2) e
      ∙ ap (λ n. n % 2) (sym (shr-shr (with_bits w first last value) ((31 - last) + (last + 1 - first)) (first - 1 - i)))
      ∙ ap (λ n. n / 2 ^ (first - 1 - i) % 2) (sym (shr-shr (with_bits w first last value) (31 - last) (last + 1 - first)))
      ∙ ap (λ n. n / 2 ^ (last + 1 - first) / 2 ^ (first - 1 - i) % 2) above_low
      ∙ ap (λ n. n / 2 ^ (first - 1 - i) % 2) (div-mul-add (w / 2 ^ (32 - first)) (2 ^ (last + 1 - first)) value below)
      ∙ ap (λ n. n % 2) (shr-shr w (32 - first) (first - 1 - i))
      ∙ ap (λ n. w / 2 ^ n % 2) f
      ∙ sym (one-bit w i)
