-- What the board answers if its next step needs a file.
use Rattle.std.specs.Prelude.{ℕ, List, Option, None, Some}
use Rattle.board_player.specs.declared.Step.{Step}
use Rattle.board_player.specs.declared.Step.TheVariants as steps

-- the file that an answer names
abbrev pub needed : Step → Option (List ℕ)
needed (steps.NeedsFile name) = Some name
needed s = None
