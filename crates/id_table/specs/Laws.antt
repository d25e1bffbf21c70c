-- What a sorted list is, apart from how it is made.
use Rattle.std.specs.Prelude.{◌≡◌, Bool, false, List, Some}
use Rattle.std.specs.Cmp.{IsStrictWeakOrder}
use Rattle.std.specs.List.{AllPairs, Contains}
use Rattle.std.specs.List.Sorted.{IsPermutation}
use Rattle.id_table.specs.Sorting.{sorted, first}

module _ (X : Type 0) where
  -- the sorted list has the same elements, and no element is before an earlier one in the order
  abbrev pub SortedLaw : Type 0
  SortedLaw = (lt : X → X → Bool) → IsStrictWeakOrder lt → (xs : List X) → AllPairs (λ x y. lt y x ≡ false) (sorted lt xs) × IsPermutation xs (sorted lt xs)

  -- the first element of the sorted list is in the list, and no element is before it
  abbrev pub FirstLaw : Type 0
  FirstLaw = (lt : X → X → Bool) → IsStrictWeakOrder lt → (xs : List X) (x : X) → first (sorted lt xs) ≡ Some x
      → Contains xs x × ((y : X) → Contains xs y → lt y x ≡ false)

  -- if only equal elements tie, the sorted list doesn't depend on the order of the elements before
  abbrev pub SameLaw : Type 0
  SameLaw = (lt : X → X → Bool) → IsStrictWeakOrder lt → ((x y : X) → lt x y ≡ false → lt y x ≡ false → x ≡ y)
      → (xs ys : List X) → IsPermutation xs ys → sorted lt xs ≡ sorted lt ys
