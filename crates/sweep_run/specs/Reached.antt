-- What the run of a board leaves.
use Rattle.std.specs.Prelude.{◌≡◌, ℕ, List, []}
use Rattle.kept_files.specs.Kept.{Kept}
use Rattle.wind_session.specs.WindMachineState.{State}
use Rattle.again.specs.Libraries.{Library}
use Rattle.again.specs.Reaching.{Agrees}
use Rattle.sweep_run.specs.Outcomes.{outcome_text}
use Rattle.sweep_run.specs.Runs.{Ended, StartState, run_on}

-- the run from this state, whatever the answers about modules are that no run has asked for yet
abbrev pub IsRunFrom : StartState → Kept → State → Ended → Type 0
IsRunFrom start kept s ended = (library : Library) → Agrees start.modules kept library → run_on library start.limit s [] ≡ ended

-- and the outcome of that run
abbrev pub IsOutcomeFrom : StartState → Kept → State → List ℕ → Type 0
IsOutcomeFrom start kept s text = (library : Library) → Agrees start.modules kept library → text ≡ outcome_text start.marks (run_on library start.limit s [])
