use Rattle.std.proofs.Common.{◌≡◌, ◌⊎◌, ℕ, ◌≤◌, Bool, true, false, if◌then◌else◌, List, [], ◌∷◌, Option, None, Some, inl, inr, refl, sym, subst, ◌∙◌, arith}
use Rattle.std.specs.Prelude.{max, nat_le}
use Rattle.std.specs.List.{All, Contains}
use Rattle.std.proofs.lemmas.Bool.{leb-false, leb-true}
use Rattle.std.proofs.lemmas.List.Elements.{All-cons, All-nil, Contains-append_right}
use Rattle.trace_summary.specs.Holds.{hold_length}
use Rattle.trace_summary.specs.Longest.{longer_by, longest_by}
use Rattle.trace_summary.specs.Stretches.{greatest, length_of}
use Rattle.trace_summary.proofs.laws.longest_law.Goals as goal

here : {X : Type 0} (x : X) (xs : List X) → Contains (x ∷ xs) x
here x xs = (0, omega arith, refl)

later : {X : Type 0} (x y : X) (xs : List X) → Contains xs y → Contains (x ∷ xs) y
later x y xs inside = Contains-append_right (x ∷ []) xs y inside

some_is : {X : Type 0} (x y : X) → Some x ≡ Some y → x ≡ y
some_is x y e = cc

none_some : {X : Type 0} (x : X) → Some x ≡ None → ⊥
none_some x e = absurd (cc)

some_none : {X : Type 0} (x : X) → None ≡ Some x → ⊥
some_none x e = absurd (cc)

module _ {X : Type 0} (size : X → ℕ) where
  -- ---- none
  longer_some : (b : Bool) (s x : X) → (if b then Some x else Some s) ≡ None → ⊥
  longer_some true s x e = none_some x e
  longer_some false s x e = none_some s e

  none_by : (s : X) (o : Option X) → longer_by size s o ≡ None → ⊥
  none_by s None e = none_some s e
  none_by s (Some x) e = longer_some (nat_le (size s) (size x)) s x e

  none_of : (ss : List X) → longest_by size ss ≡ None → ss ≡ []
  none_of [] e = refl
  none_of (s ∷ ss) e = absurd (none_by s (longest_by size ss) e)

  -- ---- one of them
  one_if : (b : Bool) (s x best : X) (ss : List X) → Contains ss x → (if b then Some x else Some s) ≡ Some best → Contains (s ∷ ss) best
  one_if true s x best ss inside e = subst (λ y. Contains (s ∷ ss) y) (some_is x best e) (later s x ss inside)
  one_if false s x best ss inside e = subst (λ y. Contains (s ∷ ss) y) (some_is s best e) (here s ss)

  one_by : (s best : X) (ss : List X) (o : Option X) → ((x : X) → o ≡ Some x → Contains ss x) → longer_by size s o ≡ Some best → Contains (s ∷ ss) best
  one_by s best ss None inside e = subst (λ y. Contains (s ∷ ss) y) (some_is s best e) (here s ss)
  one_by s best ss (Some x) inside e = one_if (nat_le (size s) (size x)) s x best ss (inside x refl) e

  one_of : (ss : List X) (best : X) → longest_by size ss ≡ Some best → Contains ss best
  one_of [] best e = absurd (some_none best e)
  one_of (s ∷ ss) best e = one_by s best ss (longest_by size ss) (one_of ss) e

  -- ---- none is longer
  abbrev Within : X → List X → Type 0
  Within best ss = All (λ s. size s ≤ size best) ss

  most_if : (b : Bool) (s x best : X) (ss : List X) → nat_le (size s) (size x) ≡ b → Within x ss → (if b then Some x else Some s) ≡ Some best → Within best (s ∷ ss)
  most_if true s x best ss is others e =
      subst (λ y. Within y (s ∷ ss)) (some_is x best e) (All-cons (λ y. size y ≤ size x) s ss (leb-true (size s) (size x) is) others)
  most_if false s x best ss is others e =
      let less = leb-false (size s) (size x) is in
      let same : size s ≤ size s = omega arith in
      subst (λ y. Within y (s ∷ ss)) (some_is s best e) (All-cons (λ y. size y ≤ size s) s ss same (λ k d below. omega (arith, less, others k d below)))

  most_by : (s best : X) (ss : List X) (o : Option X) → (o ≡ None → ss ≡ []) → ((x : X) → o ≡ Some x → Within x ss) → longer_by size s o ≡ Some best → Within best (s ∷ ss)
  most_by s best ss None none others e =
      let same : size s ≤ size s = omega arith in
      subst (λ y. Within y (s ∷ ss)) (some_is s best e)
      (subst (λ xs. Within s (s ∷ xs)) (sym (none refl)) (All-cons (λ y. size y ≤ size s) s [] same (All-nil (λ y. size y ≤ size s))))
  most_by s best ss (Some x) none others e = most_if (nat_le (size s) (size x)) s x best ss refl (others x refl) e

  most_of : (ss : List X) (best : X) → longest_by size ss ≡ Some best → Within best ss
  most_of [] best e = All-nil (λ s. size s ≤ size best)
  most_of (s ∷ ss) best e = most_by s best ss (longest_by size ss) (none_of ss) (most_of ss) e

-- ---- numbers
above_of : (ns : List ℕ) → All (λ n. n ≤ greatest ns) ns
above_of [] = All-nil (λ n. n ≤ 0)
above_of (n ∷ ns) =
    let others = above_of ns in
    let first : n ≤ max n (greatest ns) = omega arith in
    All-cons (λ x. x ≤ max n (greatest ns)) n ns first (λ k d below. omega (arith, others k d below))

max_if : (b : Bool) (m n : ℕ) → nat_le m n ≡ b → (max m n ≡ m) ⊎ (max m n ≡ n)
max_if true m n is = let more = leb-true m n is in inr (omega (arith, more))
max_if false m n is = let less = leb-false m n is in inl (omega (arith, less))

max_is : (m n : ℕ) → (max m n ≡ m) ⊎ (max m n ≡ n)
max_is m n = max_if (nat_le m n) m n refl

number_by : (n : ℕ) (ns : List ℕ) (m : ℕ) → (max n m ≡ n) ⊎ (max n m ≡ m) → (m ≡ 0) ⊎ Contains ns m → (max n m ≡ 0) ⊎ Contains (n ∷ ns) (max n m)
number_by n ns m (inl e) others = inr (subst (λ y. Contains (n ∷ ns) y) (sym e) (here n ns))
number_by n ns m (inr e) (inl zero) = inl (e ∙ zero)
number_by n ns m (inr e) (inr inside) = inr (subst (λ y. Contains (n ∷ ns) y) (sym e) (later n m ns inside))

number_of : (ns : List ℕ) → (greatest ns ≡ 0) ⊎ Contains ns (greatest ns)
number_of [] = inl refl
number_of (n ∷ ns) = number_by n ns (greatest ns) (max_is n (greatest ns)) (number_of ns)

pub returns : goal.returns
returns c = record {
  one = one_of length_of;
  most = most_of length_of;
  none = none_of length_of;
  one_hold = one_of hold_length;
  most_hold = most_of hold_length;
  none_hold = none_of hold_length;
  number = number_of;
  above = above_of;
}
