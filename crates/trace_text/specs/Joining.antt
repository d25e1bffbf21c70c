-- Instructions that are made in one go, and one more, are one line.
use Rattle.std.specs.Prelude.{◌≡◌, ℕ, ◌+◌, List}
use Rattle.kernel_world.specs.declared.actor.Actor.{Actor}
use Rattle.board_trace.specs.Runs.{Line, with_line}
use Rattle.board_trace.specs.declared.happening.Happening.TheVariants as told

-- one more instruction of the same task or routine makes n instructions n + 1; when it was made doesn't matter
abbrev pub JoiningLaw : Type 0
JoiningLaw =
    (who : Actor) (n : ℕ) (u v : Line) (made : List Line) → with_line (record u { what = told.Instructions who 1 }) (with_line (record v { what = told.Instructions who n }) made)
    ≡ with_line (record v { what = told.Instructions who (n + 1) }) made
