-- What a step changes of modules, from their ids before and after it.
use Rattle.std.specs.Prelude.{ℕ, Bool, ◌==◌, if◌then◌else◌, List, [], ◌∷◌, ◌++◌}
use Rattle.std.specs.List.{list_any}
use Rattle.board_changes.specs.declared.change.Change.{Change}
use Rattle.board_changes.specs.declared.change.Change.TheVariants as changes

-- an id is in a list
abbrev pub is_in : List ℕ → ℕ → Bool
is_in ids id = list_any (λ other. other == id) ids

-- the modules that are new
abbrev pub loads : List ℕ → List ℕ → List Change
loads before [] = []
loads before (id ∷ ids) = (if is_in before id then [] else changes.Loaded id ∷ []) ++ loads before ids

-- the modules that are gone
abbrev pub unloads : List ℕ → List ℕ → List Change
unloads after [] = []
unloads after (id ∷ ids) = (if is_in after id then [] else changes.Unloaded id ∷ []) ++ unloads after ids

-- what a step changes of modules
abbrev pub module_changes : List ℕ → List ℕ → List Change
module_changes before after = loads before after ++ unloads after before
