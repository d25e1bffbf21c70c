-- A change, if there is one.
use Rattle.std.specs.Prelude.{List, [], ◌∷◌, Option, None, Some}
use Rattle.board_changes.specs.declared.change.Change.{Change}

-- the change, if there is one, as a list
abbrev pub listed : Option Change → List Change
listed None = []
listed (Some change) = change ∷ []
