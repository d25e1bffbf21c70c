-- Lists that are made from a list, element by element.
use Rattle.std.specs.Prelude.{List, [], ◌∷◌, ◌++◌}

-- what each element gives, one after another; it may depend on the elements before it
abbrev pub gather : {A B : Type 0} → (List A → A → List B) → List A → List A → List B
gather f before [] = []
gather f before (x ∷ xs) = f before x ++ gather f (before ++ x ∷ []) xs
