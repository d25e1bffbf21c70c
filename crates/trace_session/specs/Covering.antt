-- The coverage of a run that is told.
use Rattle.std.specs.Prelude.{ℕ, ◌≤◌, List, Option}
use Rattle.wind_outside.specs.Appending.{Appended, AppendedPrefix}
use Rattle.wind_machine.specs.State.{State}
use Rattle.wind_machine.specs.Run.{Answers}
use Rattle.wind_session.specs.declared.run.RunEnd.{RunEnd}
use Rattle.trace_coverage.specs.Executed.{coverage_after}
use Rattle.trace_coverage.specs.Text.{Holds, coverage_text}
use Rattle.trace_coverage.specs.declared.coverage.Coverage.{Coverage}
use Rattle.trace_session.specs.Traced.{IsPutOf}

-- of the coverage of the first k steps, this text was put, and the rest is kept
pub record CoversSteps (coverage : Coverage) (first now : Option (List ℕ)) (said : Answers) (s : State) (k : ℕ) : Type 0 where
  pub given : List ℕ
  pub gained : Appended first now given
  pub holds : Holds coverage given (coverage_after said s k)

-- a prefix of the text of the coverage of the first k steps was put
abbrev pub CoversPart : Option (List ℕ) → Option (List ℕ) → Answers → State → ℕ → Type 0
CoversPart first now said s k = AppendedPrefix first now (coverage_text (coverage_after said s k))

-- memory ran out for the coverage: a prefix of the text of that of the first j of k steps was put
abbrev pub TellsCoveragePart : State → Option (List ℕ) → Option (List ℕ) → Answers → ℕ → RunEnd → Type 0
TellsCoveragePart s old new said k end = (j : ℕ) × (j ≤ k) × CoversPart old new said s j

-- the text of the run's coverage was put
abbrev pub TellsCoverage : RunEnd → State → Option (List ℕ) → Option (List ℕ) → Answers → ℕ → RunEnd → Type 0
TellsCoverage result s old new said k end = IsPutOf (coverage_text (coverage_after said s k)) result end old new
