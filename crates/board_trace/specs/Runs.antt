-- The lines of a run: what happens in it, with consecutive instructions of one task or routine joined.
use Rattle.std.specs.Prelude.{ℕ, zero, suc, ◌+◌, ◌==◌, Bool, true, false, if◌then◌else◌, List, [], ◌∷◌, map, Option, None, Some}
use Rattle.kernel_world.specs.declared.actor.Actor.{Actor}
use Rattle.kernel_world.specs.declared.actor.Actor.TheVariants.{Task as by_task, Interrupt}
use Rattle.wind_machine.specs.LiveLoadingSaid.{FileSaid}
use Rattle.wind_machine.specs.State.{State}
use Rattle.wind_machine.specs.Run.{Answers, after}
use Rattle.board_trace.specs.Snapshots.{snapshot_of}
use Rattle.board_trace.specs.Steps.{happenings}
use Rattle.board_trace.specs.Subjects.{subject_name}
use Rattle.board_trace.specs.declared.happening.Happening.{Happening}
use Rattle.board_trace.specs.declared.happening.Happening.TheVariants as told

-- a line: what happens, board time when its step begins, the number of the step, counted from 1, and the name of the task
-- that it speaks of
pub record Line : Type 0 where
  pub time : ℕ
  pub step : ℕ
  pub name : List ℕ
  pub what : Happening

abbrev pub line_in : State → State → Happening → Line
line_in s t h = record { time = s.time; step = s.steps + 1; name = subject_name (snapshot_of s.world) (snapshot_of t.world) h; what = h }

-- the lines of the step from one state to the next, given what was said of the file that it needs
abbrev pub step_lines : FileSaid → State → State → List Line
step_lines said s t = map (line_in s t) (happenings said s t)

-- it is this task
abbrev pub is_task : Actor → ℕ → Bool
is_task (by_task who) id = who == id
is_task Interrupt id = false

abbrev pub is_interrupt : Actor → Bool
is_interrupt (by_task who) = false
is_interrupt Interrupt = true

-- the same task or routine
abbrev pub same_actor : Actor → Actor → Bool
same_actor (by_task who) other = is_task other who
same_actor Interrupt other = is_interrupt other

-- instructions, and further ones of the same task or routine, are one line
abbrev pub joined : Happening → Happening → Option Happening
joined (told.Instructions who n) (told.Instructions other m) = if same_actor who other then Some (told.Instructions who (n + m)) else None
joined h g = None

-- adds a line to these, newest first: it joins the newest line, or it stands alone
abbrev pub joined_or : Option Happening → Line → Line → List Line → List Line
joined_or None next newest older = next ∷ newest ∷ older
joined_or (Some h) next newest older = record newest { what = h } ∷ older

abbrev pub with_line : Line → List Line → List Line
with_line next [] = next ∷ []
with_line next (newest ∷ older) = joined_or (joined newest.what next.what) next newest older

abbrev pub with_lines : List Line → List Line → List Line
with_lines [] made = made
with_lines (next ∷ others) made = with_lines others (with_line next made)

-- the lines of the first k steps from s, the newest first
abbrev pub lines_of : Answers → State → ℕ → List Line
lines_of said s zero = []
lines_of said s (suc k) = with_lines (step_lines (said k) (after said s k) (after said s (suc k))) (lines_of said s k)
