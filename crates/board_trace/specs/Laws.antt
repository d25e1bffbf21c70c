-- What follows from the definitions of a trace alone.
use Rattle.std.specs.Prelude.{◌≡◌, ℕ, ◌<◌, ◌≤◌, ◌==◌, true, false, if◌then◌else◌, List, [], ◌∷◌, ◌++◌, length, Option, None, Some, IfSome}
use Rattle.std.specs.Option.{option_map}
use Rattle.wind_base.specs.Errno.{errno_number}
use Rattle.wind_base.specs.Limits.{error_word}
use Rattle.wind_base.specs.declared.errno.Errno.{Errno}
use Rattle.tick_file.specs.Laws.{IsEarly}
use Rattle.task_block.specs.declared.task.Task.{Task}
use Rattle.wind_core.specs.Moves.{answered, errno_after}
use Rattle.kernel_world.specs.declared.objects.Objects.{Objects}
use Rattle.kernel_world.specs.declared.reply.Reply.{Reply}
use Rattle.wind_machine.specs.LiveLoadingSaid.{FileSaid}
use Rattle.wind_machine.specs.Events.{next_event}
use Rattle.wind_machine.specs.Good.{Good}
use Rattle.wind_machine.specs.Machine.{machine_step}
use Rattle.wind_machine.specs.State.{State}
use Rattle.wind_machine.specs.Replies.{step_reply}
use Rattle.wind_machine.specs.Run.{Answers}
use Rattle.board_changes.specs.Replay.{Life, life_of, replayed, changes_naming}
use Rattle.board_changes.specs.Spans.{view_of}
use Rattle.board_changes.specs.Tasks.{has_result, wait_changes}
use Rattle.board_changes.specs.declared.awaited.Awaited.{Awaited}
use Rattle.board_changes.specs.declared.change.Change.{Change}
use Rattle.board_changes.specs.declared.change.Change.TheVariants as changes
use Rattle.board_changes.specs.declared.view.TaskView.{TaskView}
use Rattle.board_trace.specs.Before.{before_step}
use Rattle.board_trace.specs.Errors.{errno_named}
use Rattle.board_trace.specs.Runs.{Line, lines_of}
use Rattle.board_trace.specs.Snapshots.{snapshot_of, view_in}
use Rattle.board_trace.specs.Steps.{happenings, is_instruction}
use Rattle.board_trace.specs.declared.happening.Happening.{Happening}
use Rattle.board_trace.specs.declared.happening.Happening.TheVariants as told

-- the reply in the line of a call
abbrev pub reply_in : Happening → List Reply
reply_in (told.Called who c r) = r ∷ []
reply_in h = []

-- the replies in the lines of calls, one for each
abbrev pub replies_in : List Happening → List Reply
replies_in [] = []
replies_in (h ∷ hs) = reply_in h ++ replies_in hs

abbrev pub listed : Option Reply → List Reply
listed None = []
listed (Some r) = r ∷ []

-- a step that makes a call has exactly one line of a call, with the reply of that call, and any other step has none. So a
-- line tells a refusal exactly if the call was refused, with its error
abbrev pub ReplyLaw : Type 0
ReplyLaw = (said : FileSaid) (s t : State) → replies_in (happenings said s t) ≡ listed (step_reply said s)

-- the changes among happenings
abbrev pub change_in : Happening → List Change
change_in (told.Changed c) = c ∷ []
change_in h = []

abbrev pub changes_told : List Happening → List Change
changes_told [] = []
changes_told (h ∷ hs) = change_in h ++ changes_told hs

-- the life of a task in a state; None if it doesn't live
abbrev pub life_in : State → ℕ → Option Life
life_in s who = option_map life_of (view_of (snapshot_of s.world).tasks who)

-- in each step that isn't one instruction, from a state with the invariant, a task's life before the step and the changes
-- that name the task give its life after the step
abbrev pub StepReplayLaw : Type 0
StepReplayLaw = (said : FileSaid) (s t : State) (who : ℕ) → IfSome (next_event s) IsEarly → Good s → machine_step said s ≡ Some t
    → is_instruction (before_step s) t.world.output ≡ false
    → replayed (changes_naming who (changes_told (happenings said s t))) (life_in s who) ≡ life_in t who

-- the time of the newest of some lines
abbrev pub newest_time : List Line → ℕ
newest_time [] = 0
newest_time (l ∷ ls) = l.time

-- the lines of a run, newest first: none has an earlier time than an older one
abbrev pub AreInTime : List Line → Type 0
AreInTime [] = Unit {0}
AreInTime (l ∷ ls) = (newest_time ls ≤ l.time) × AreInTime ls

-- along the lines of a run, board time never decreases
abbrev pub TimeLaw : Type 0
TimeLaw = (said : Answers) (s : State) (k : ℕ) → AreInTime (lines_of said s k)

-- each error is found by its number
abbrev pub ErrorLaw : Type 0
ErrorLaw = (e : Errno) → errno_named (errno_number e) ≡ Some e

-- the end of a task's wait for an object, with this answer; if it is ERROR, with the error number
abbrev pub wait_end : ℕ → Awaited → ℕ → ℕ → Change
wait_end who object answer errno = if answer == error_word then changes.Failed who object errno else changes.Served who object answer

-- if the kernel ends a task's wait with an answer, and an error if there is one, exactly one change of waits is told: its
-- end, with that answer and that error. The wait is one whose end gives the task's call a result
abbrev pub WaitEndLaw : Type 0
WaitEndLaw = (b : TaskView) (t : Task) (o : Objects) (object : Awaited) (answer : ℕ) (e : Option Errno)
    → b.wait ≡ Some object → has_result object ≡ true → 3 < length t.regs.gpr
    → wait_changes true b (view_in o (answered answer e t)) ≡ wait_end t.id object answer (errno_after t.errno e) ∷ []
