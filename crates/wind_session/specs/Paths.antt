-- Paths of files.
use Rattle.std.specs.Prelude.{ℕ, List, ◌∷◌, ◌++◌}

-- the path of a file in a folder: the folder's name, `/`, and the file's own
abbrev pub path_in : List ℕ → List ℕ → List ℕ
path_in folder file = folder ++ 47 ∷ file
