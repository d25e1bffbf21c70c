-- Many instructions in one line.
use Rattle.std.specs.Prelude.{◌≡◌, ℕ, zero, suc, ◌+◌, List, Some}
use Rattle.kernel_world.specs.declared.actor.Actor.{Actor}
use Rattle.wind_machine.specs.State.{State}
use Rattle.wind_machine.specs.Run.{Answers, after}
use Rattle.wind_machine.specs.Silent.{SilentSteps, last_actor}
use Rattle.board_trace.specs.Runs.{Line}
use Rattle.board_trace.specs.Snapshots.{snapshot_of}
use Rattle.board_trace.specs.Subjects.{name_of, subject_actor}
use Rattle.board_trace.specs.declared.happening.Happening.TheVariants as told
use Rattle.trace_session.specs.Choice.{AreAlike, ChoiceState, chosen_lines, is_chosen, with_if}

-- the line of n instructions of this task or routine; the next step is the first of them
abbrev pub instructions_line : State → Actor → ℕ → Line
instructions_line s who n = record { time = s.time; step = s.steps + 1; name = name_of (snapshot_of s.world) (subject_actor who); what = told.Instructions who n }

-- with them, the lines are these, if they are chosen
abbrev pub with_instructions : ChoiceState → ℕ → State → Actor → List Line → List Line
with_instructions c zero s who lines = lines
with_instructions c (suc n) s who lines = with_if (is_chosen c (instructions_line s who 1)) (instructions_line s who (suc n)) lines

-- the lines of a run that goes on by silent steps, all among the steps of a choice or none
abbrev pub SilentLinesLaw : Type 0
SilentLinesLaw =
    (c : ChoiceState) (said : Answers) (s u t : State) (who : Actor) (i k : ℕ) → u ≡ after said s i → last_actor u.world ≡ Some who → SilentSteps k u t
    → AreAlike c u.steps k → chosen_lines c said s (i + k) ≡ with_instructions c k u who (chosen_lines c said s i)
