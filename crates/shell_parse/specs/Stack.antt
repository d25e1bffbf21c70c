-- The first of a list, and the others.
use Rattle.std.specs.Prelude.{List, [], ◌∷◌, Option, Some, None}

-- the first, if there is one
abbrev pub top_of : {X : Type 0} → List X → Option X
top_of [] = None
top_of (x ∷ xs) = Some x

-- the others
abbrev pub rest_of : {X : Type 0} → List X → List X
rest_of [] = []
rest_of (x ∷ xs) = xs
