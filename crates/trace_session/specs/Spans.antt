-- The spans of a run, and of a part of it.
use Rattle.std.specs.Prelude.{ℕ, zero, suc, ◌+◌, [], if◌then◌else◌}
use Rattle.wind_machine.specs.State.{State}
use Rattle.wind_machine.specs.Run.{Answers, after}
use Rattle.board_trace.specs.Before.{before_step}
use Rattle.board_trace.specs.Running.{running_task}
use Rattle.board_trace.specs.Snapshots.{snapshot_of}
use Rattle.board_trace.specs.Steps.{is_instruction}
use Rattle.board_trace.specs.declared.moment.BeforeStep.{BeforeStep}
use Rattle.board_changes.specs.Spans.{SpanState, closed, observed}
use Rattle.trace_session.specs.Choice.{ChoiceState, is_step}

-- the spans of tasks that are looked at in this state too
abbrev pub observed_in : SpanState → State → SpanState
observed_in spans s = observed spans s.time (snapshot_of s.world).tasks (running_task s.world)

-- no spans
abbrev pub no_spans : SpanState
no_spans = record { going = []; done = [] }

-- the tasks are looked at before the first step
abbrev pub opening_spans : State → SpanState
opening_spans s = observed_in no_spans s

-- after a step that isn't one instruction, the tasks are looked at; an instruction leaves them as they are
abbrev pub looked_at : BeforeStep → SpanState → State → SpanState
looked_at b spans t = if is_instruction b t.world.output then spans else observed_in spans t

-- the spans after the first k steps from s
abbrev pub spans_after : Answers → State → ℕ → SpanState
spans_after said s zero = opening_spans s
spans_after said s (suc k) = looked_at (before_step (after said s k)) (spans_after said s k) (after said s (suc k))

-- the spans of a run that ends after k steps
abbrev pub spans_of : Answers → State → ℕ → SpanState
spans_of said s k = closed (spans_after said s k) (after said s k).time

-- ---- a part of a run
-- before the first step, the tasks are looked at if it is one of the choice
abbrev pub first_spans : ChoiceState → State → SpanState
first_spans c s = if is_step c (s.steps + 1) then opening_spans s else no_spans

-- after a step of the choice, the tasks are looked at; after the last one every span ends
abbrev pub looked_in : ChoiceState → BeforeStep → SpanState → State → SpanState
looked_in c b spans t = if is_step c (b.step + 1) then looked_at b spans t else closed (looked_at b spans t) t.time

-- after another step, they are looked at if the next one is the first of the choice
abbrev pub looked_outside : ChoiceState → BeforeStep → SpanState → State → SpanState
looked_outside c b spans t = if is_step c (b.step + 1) then opening_spans t else spans

abbrev pub looked_by : ChoiceState → BeforeStep → SpanState → State → SpanState
looked_by c b spans t = if is_step c b.step then looked_in c b spans t else looked_outside c b spans t

-- the spans of the steps of a choice among the first k steps from s
abbrev pub part_after : ChoiceState → Answers → State → ℕ → SpanState
part_after c said s zero = first_spans c s
part_after c said s (suc k) = looked_by c (before_step (after said s k)) (part_after c said s k) (after said s (suc k))

-- the spans of the steps of a choice, of a run that ends after k steps
abbrev pub part_of : ChoiceState → Answers → State → ℕ → SpanState
part_of c said s k = closed (part_after c said s k) (after said s k).time
