-- Sorted lists, and the first of the elements that pass a test.
use Rattle.std.specs.Prelude.{Bool, ◌&&◌, if◌then◌else◌, List, [], ◌∷◌, Option, None, Some}
use Rattle.std.specs.List.{filter}

-- x in its place in a sorted list, before those that tie with it
abbrev pub insert_sorted : {X : Type 0} → (X → X → Bool) → X → List X → List X
insert_sorted lt x [] = x ∷ []
insert_sorted lt x (y ∷ ys) = if lt y x then y ∷ insert_sorted lt x ys else x ∷ y ∷ ys

-- the sorted list; those that tie keep their order
abbrev pub sorted : {X : Type 0} → (X → X → Bool) → List X → List X
sorted lt [] = []
sorted lt (x ∷ xs) = insert_sorted lt x (sorted lt xs)

-- the elements that pass the test, in order
abbrev pub in_line : {X : Type 0} → (X → X → Bool) → (X → Bool) → List X → List X
in_line lt test xs = sorted lt (filter test xs)

-- the first element of a list
abbrev pub first : {X : Type 0} → List X → Option X
first [] = None
first (x ∷ xs) = Some x

-- the better of x and the best so far, if x passes the test; otherwise the best so far
abbrev pub pick : {X : Type 0} → (X → X → Bool) → (X → Bool) → Option X → X → Option X
pick lt test None x = if test x then Some x else None
pick lt test (Some best) x = if test x && lt x best then Some x else Some best
