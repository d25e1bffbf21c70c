-- Ranges of bytes that are all RAM.
use Rattle.std.proofs.Common.{◌≡◌, refl, ℕ, zero, suc, ◌+◌, ◌*◌, ◌<◌, ◌≤◌, Bool, true, false, ◌&&◌, ◌||◌, nat_eq, nat_le, nat_lt, sym, ◌∙◌, subst, ◌⊎◌, inl, inr, arith}
use Rattle.std.proofs.lemmas.Bool.Decides.{nat_tests}
use Rattle.std.specs.Cmp.Derive.{both_true}
use Rattle.ppc_core.specs.Buses.{Meaning, all_ram, IsLawful}

left : (s t : Bool) → (s && t) ≡ true → s ≡ true
left true t h = refl
left false t h = h

right : (s t : Bool) → (s && t) ≡ true → t ≡ true
right true t h = h
right false t h = cc

last_or_below : (i n : ℕ) → i < suc n → (i < n) ⊎ (i ≡ n)
last_or_below i n h = grind arith

next_below : (at n size : ℕ) → ((nat_eq n 0 || nat_le (at + n) size) && nat_lt (at + n) size) ≡ (nat_eq (suc n) 0 || nat_le (at + suc n) size)
next_below at n size = grind (arith, nat_tests)

not_none : (end size n : ℕ) → 0 < n → (nat_eq n 0 || nat_le end size) ≡ nat_le end size
not_none end size n some = grind (arith, nat_tests)

module _ {B : Type 0} (m : Meaning B) (b : B) (at : ℕ) where
  -- each byte of such a range is RAM
  pub all_ram-at : (n i : ℕ) → all_ram m b at n ≡ true → i < n → m.ram b (at + i) ≡ true
  all_ram-at zero i h lt = absurd (omega arith)
  all_ram-at (suc n) i h lt =
      elim (last_or_below i n lt) [
        | inl below ↦ all_ram-at n i (left (all_ram m b at n) (m.ram b (at + n)) h) below
        | inr same ↦ subst (λ k. m.ram b (at + k) ≡ true) (sym same) (right (all_ram m b at n) (m.ram b (at + n)) h)
      ]

  -- and a range is all RAM if each byte is
  pub all_ram-each : (n : ℕ) → ((i : ℕ) → i < n → m.ram b (at + i) ≡ true) → all_ram m b at n ≡ true
  all_ram-each zero each = refl
  all_ram-each (suc n) each = both_true (all_ram-each n (λ i lt. each i (omega arith))) (each n (omega arith))

module _ {B : Type 0} (m : Meaning B) (b : B) where
  -- a part of such a range is all RAM
  pub all_ram-within : (at n k j : ℕ) → k + j ≤ n → all_ram m b at n ≡ true → all_ram m b (at + k) j ≡ true
  all_ram-within at n k j fits h =
      all_ram-each m b (at + k) j
      (λ i lt. let e : at + (k + i) ≡ (at + k) + i = omega arith in
      subst (λ a. m.ram b a ≡ true) e (all_ram-at m b at n (k + i) h (omega arith)))

  -- a bus with the same RAM has the same ranges
  pub all_ram-same : (b' : B) (at n : ℕ) → ((a : ℕ) → m.ram b' a ≡ m.ram b a) → all_ram m b' at n ≡ all_ram m b at n
  all_ram-same b' at zero same = refl
  all_ram-same b' at (suc n) same = rw (all_ram-same b' at n same, same (at + n)) refl

  -- if RAM is all addresses below a size, a range is all RAM if it is empty or ends there
  pub all_ram-below : (size at n : ℕ) → ((a : ℕ) → m.ram b a ≡ nat_lt a size) → all_ram m b at n ≡ (nat_eq n 0 || nat_le (at + n) size)
  all_ram-below size at zero is = refl
  all_ram-below size at (suc n) is = rw (all_ram-below size at n is, is (at + n)) (next_below at n size)

  -- the same for a range that isn't empty
  pub all_ram-some : (size at n : ℕ) → ((a : ℕ) → m.ram b a ≡ nat_lt a size) → 0 < n → all_ram m b at n ≡ nat_le (at + n) size
  all_ram-some size at n is some = all_ram-below size at n is ∙ not_none (at + n) size n some

-- a word in such a range can be accessed
pub word_in_ram : {B : Type 0} (m : Meaning B) → IsLawful m → (b : B) (at k count : ℕ) → all_ram m b at (4 * count) ≡ true → k < count → m.faults b 4 (at + 4 * k) ≡ false
word_in_ram m law b at k count h lt = law.ram_never_faults b 4 (at + 4 * k) (omega arith) (all_ram-within m b at (4 * count) (4 * k) 4 (omega arith) h)
