-- The figures of a run's lines: each is a sum over them.
use Rattle.std.specs.Prelude.{ℕ, ◌+◌, ◌-◌, ◌*◌, ◌/◌, ◌^◌, ◌==◌, min, Bool, false, if◌then◌else◌, List, [], ◌∷◌}
use Rattle.kernel_world.specs.declared.reply.Reply.{Reply}
use Rattle.kernel_world.specs.declared.reply.Reply.TheVariants as replies
use Rattle.board_trace.specs.Runs.{Line}
use Rattle.board_trace.specs.Subjects.{subject_of}
use Rattle.board_trace.specs.declared.happening.Happening.{Happening}
use Rattle.board_trace.specs.declared.happening.Happening.TheVariants as told
use Rattle.board_trace.specs.declared.who.Subject.{Subject}
use Rattle.board_trace.specs.declared.who.Subject.TheVariants as subjects
use Rattle.trace_summary.specs.declared.counts.TaskCounts.{TaskCounts}

-- ---- what a happening adds
-- one for a tick
abbrev pub ticks_in : Happening → ℕ
ticks_in (told.Tick tick) = 1
ticks_in h = 0

-- one for a call
abbrev pub calls_in : Happening → ℕ
calls_in (told.Called who call reply) = 1
calls_in h = 0

-- one for a refusal
abbrev pub refuses : Reply → ℕ
refuses (replies.Refusal error) = 1
refuses (replies.Answer value) = 0
refuses replies.Later = 0
refuses replies.Gone = 0

-- one for a call that is refused
abbrev pub refusals_in : Happening → ℕ
refusals_in (told.Called who call reply) = refuses reply
refusals_in h = 0

-- one for an exception
abbrev pub exceptions_in : Happening → ℕ
exceptions_in (told.Exception who at cause) = 1
exceptions_in h = 0

-- one for a task that runs after another
abbrev pub switches_in : Happening → ℕ
switches_in (told.Runs who last) = 1
switches_in h = 0

-- the steps of a task or routine: its instructions, and one for a call or an exception
abbrev pub steps_in : Happening → ℕ
steps_in (told.Instructions who n) = n
steps_in (told.Called who call reply) = 1
steps_in (told.Exception who at cause) = 1
steps_in h = 0

-- how long nobody runs in a step that begins at this time
abbrev pub idle_in : ℕ → Happening → ℕ
idle_in time (told.Jump end) = end - time
idle_in time h = 0

-- ---- sums
-- the sum of what lines add
abbrev pub sum_over : (Line → ℕ) → List Line → ℕ
sum_over f [] = 0
sum_over f (l ∷ ls) = f l + sum_over f ls

-- the same; at most 2^64 - 1, the greatest number of a figure
abbrev pub total : (Line → ℕ) → List Line → ℕ
total f lines = min (sum_over f lines) (2 ^ 64 - 1)

-- it is the task with this id
abbrev pub is_task : ℕ → Subject → Bool
is_task id (subjects.Task who) = who == id
is_task id subjects.Board = false
is_task id subjects.Interrupt = false

-- what a line adds if it tells of this task
abbrev pub part_of : ℕ → (Happening → ℕ) → Line → ℕ
part_of id f l = if is_task id (subject_of l.what) then f l.what else 0

-- the figures of this task
abbrev pub counts_of : List Line → ℕ → TaskCounts
counts_of lines id = record {
  steps = total (part_of id steps_in) lines;
  switches = total (part_of id switches_in) lines;
  calls = total (part_of id calls_in) lines;
  refusals = total (part_of id refusals_in) lines;
  exceptions = total (part_of id exceptions_in) lines;
}

-- the share that steps have in all steps, in tenths of a percent, rounded down
abbrev pub share : ℕ → ℕ → ℕ
share steps all = if all == 0 then 0 else min ((steps * 1000) / all) 1000
