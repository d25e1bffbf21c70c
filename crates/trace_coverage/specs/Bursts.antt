-- A coverage that goes on by several instructions.
use Rattle.std.specs.Prelude.{◌≡◌, ℕ, ◌+◌, List}
use Rattle.wind_machine.specs.State.{State}
use Rattle.wind_machine.specs.Run.{Answers, after}
use Rattle.trace_coverage.specs.Executed.{coverage_after}
use Rattle.trace_coverage.specs.Text.{Holds}
use Rattle.trace_coverage.specs.declared.coverage.Coverage.{Coverage}

-- the coverage gains what k further steps from this state cover
abbrev pub CoversOn : Coverage → Coverage → State → ℕ → Type 0
CoversOn old new u k =
    (given : List ℕ) (said : Answers) (s : State) (i : ℕ) → u ≡ after said s i
    → Holds old given (coverage_after said s i) → Holds new given (coverage_after said s (i + k))
