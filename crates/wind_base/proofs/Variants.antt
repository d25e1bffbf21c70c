-- What a test finds true of each item of a list of all variants is true of each variant.
use Rattle.std.proofs.Common.{◌≡◌, ℕ, suc, ◌+◌, ◌<◌, ◌≤◌, Bool, true, false, ◌&&◌, nat_eq, List, [], ◌∷◌, length, Option, Some, None, ◌⊎◌, inl, inr, ap, ◌∙◌, subst, arith, eqb-true}
use Rattle.std.specs.List.{list_all}
use Rattle.std.proofs.lemmas.Bool.{and_parts}
use denote.Enum.Enum.{tag_below}
use denote.Enum.Bare.{Bare, tag_one}
use denote.Enum.Declared.{Declared, rowss, tag_of}

equal_or_above : (k n : ℕ) → k ≤ n → (k ≡ n) ⊎ (suc k ≤ n)
equal_or_above k n h = grind arith

-- these items have the numbers from k on
abbrev pub ascend : {E : Type 0} → (E → ℕ) → ℕ → List E → Bool
ascend number k [] = true
ascend number k (x ∷ xs) = nat_eq (number x) k && ascend number (suc k) xs

-- an enum whose variants have no fields
module _ (T : Declared) (bare : Bare T.parts) where
  -- these are all variants, in order
  abbrev pub are_variants : List T.D → Bool
  are_variants all = nat_eq (length all) (length (rowss T.parts)) && ascend (tag_of T) 0 all

  true_from : (test : T.D → Bool) (k : ℕ) (all : List T.D) → ascend (tag_of T) k all ≡ true → list_all test all ≡ true → (a : T.D) → k ≤ tag_of T a → tag_of T a < k + length all → test a ≡ true
  true_from test k [] n t a low high = absurd (omega arith)
  true_from test k (x ∷ xs) n t a low high =
      let here = and_parts (nat_eq (tag_of T x) k) (ascend (tag_of T) (suc k) xs) n in
      let tests = and_parts (test x) (list_all test xs) t in
      elim (equal_or_above k (tag_of T a) low) [
        | inl same ↦ subst (λ y. test y ≡ true) (tag_one T bare x a (eqb-true (tag_of T x) k here.0 ∙ same)) tests.0
        | inr above ↦ true_from test (suc k) xs here.1 tests.1 a above (omega arith)
      ]

  pub true_of_each : (test : T.D → Bool) (all : List T.D) → are_variants all ≡ true → list_all test all ≡ true → (a : T.D) → test a ≡ true
  true_of_each test all whole t a =
      let parts = and_parts (nat_eq (length all) (length (rowss T.parts))) (ascend (tag_of T) 0 all) whole in
      let count : length all ≡ length (rowss T.parts) = eqb-true (length all) (length (rowss T.parts)) parts.0 in
      let below : tag_of T a < length (rowss T.parts) = tag_below (rowss T.parts) (T.to a) in
      true_from test 0 all parts.1 t a (omega arith) (omega arith)

  -- what was found is this variant
  abbrev pub is_found : T.D → Option T.D → Bool
  is_found a None = false
  is_found a (Some x) = nat_eq (tag_of T x) (tag_of T a)

  pub found_is : (a : T.D) (found : Option T.D) → is_found a found ≡ true → found ≡ Some a
  found_is a None h = cc
  found_is a (Some x) h = ap Some (tag_one T bare x a (eqb-true (tag_of T x) (tag_of T a) h))

  -- a look-up that finds each item of the list finds each variant
  pub each_found : (look : T.D → Option T.D) (all : List T.D) → are_variants all ≡ true → list_all (λ a. is_found a (look a)) all ≡ true → (a : T.D) → look a ≡ Some a
  each_found look all whole t a = found_is a (look a) (true_of_each (λ x. is_found x (look x)) all whole t a)
