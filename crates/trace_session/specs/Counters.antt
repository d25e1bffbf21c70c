-- The counters of a trace: how many tasks are ready, and how many messages each queue has.
use Rattle.std.specs.Prelude.{ℕ, Bool, false, not, ◌==◌, ◌+◌, ◌&&◌, ◌||◌, if◌then◌else◌, List, [], ◌∷◌, ◌++◌, map, length, Option, None, Some, is_some}
use Rattle.std.specs.List.{count_by, flat_map, list_any}
use Rattle.kernel_world.specs.State.{WorldState}
use Rattle.wind_machine.specs.State.{State}
use Rattle.board_changes.specs.declared.view.TaskView.{TaskView}
use Rattle.board_trace.specs.Snapshots.{snapshot_of}
use Rattle.board_trace.specs.Steps.{is_instruction}
use Rattle.board_trace.specs.declared.moment.BeforeStep.{BeforeStep}
use Rattle.board_trace.specs.declared.who.Subject.TheVariants as subjects
use Rattle.trace_json.specs.Chrome.{TraceObject, QueueMessages, ReadyTasks}
use Rattle.trace_session.specs.Choice.{ChoiceState, is_among, is_of, is_step}
use Rattle.trace_session.specs.declared.choice.Kind.{Kind}
use Rattle.trace_session.specs.declared.choice.Kind.TheVariants as kinds
use Rattle.trace_session.specs.declared.numbers.Counts.{Counts}
use Rattle.trace_session.specs.declared.numbers.QueueCount.{QueueCount}

-- ---- numbers
-- a task is ready: it isn't suspended, waits for nothing and doesn't sleep
abbrev pub is_ready : TaskView → Bool
is_ready t = not (t.suspended || (is_some t.wait || is_some t.wake))

-- how many tasks are ready; the task that runs is one of them
abbrev pub ready_in : List TaskView → ℕ
ready_in tasks = count_by is_ready tasks

-- each queue with the number of its messages
abbrev pub queue_counts : WorldState → List QueueCount
queue_counts w = map (λ r. record { queue = r.0; messages = length r.1.held }) w.objects.queues.queues

-- how many tasks are ready, if that was counted, and each queue with the number of its messages
pub record CountsState : Type 0 where
  pub ready : Option ℕ
  pub queues : List QueueCount

abbrev pub counted : Option ℕ → List QueueCount → CountsState
counted ready queues = record { ready = ready; queues = queues }

abbrev pub counts_state : Counts → CountsState
counts_state c = counted c.ready c.queues.now

-- those of a state
abbrev pub counts_in : State → CountsState
counts_in s = counted (Some (ready_in (snapshot_of s.world).tasks)) (queue_counts s.world)

-- nothing was counted
abbrev pub no_counts : CountsState
no_counts = counted None []

-- ---- objects
-- this number was there before
abbrev pub was_number : Option ℕ → ℕ → Bool
was_number None n = false
was_number (Some m) n = m == n

-- the counter of ready tasks, if their number isn't the one before
abbrev pub ready_objects : ℕ → Option ℕ → Option ℕ → List TraceObject
ready_objects time before None = []
ready_objects time before (Some n) = if was_number before n then [] else ReadyTasks time n ∷ []

-- two counts are of the same queue and have the same number
abbrev pub is_same_count : QueueCount → QueueCount → Bool
is_same_count p q = p.queue == q.queue && p.messages == q.messages

-- the counter of a queue, if its number isn't the one before
abbrev pub changed_objects : ℕ → List QueueCount → QueueCount → List TraceObject
changed_objects time before q = if list_any (λ p. is_same_count p q) before then [] else QueueMessages time q.queue q.messages ∷ []

-- a queue is among these, or it had no messages
abbrev pub stays_or_is_empty : List QueueCount → QueueCount → Bool
stays_or_is_empty after p = list_any (λ q. q.queue == p.queue) after || p.messages == 0

-- a queue that is deleted has no messages any more
abbrev pub deleted_objects : ℕ → List QueueCount → QueueCount → List TraceObject
deleted_objects time after p = if stays_or_is_empty after p then [] else QueueMessages time p.queue 0 ∷ []

-- the counters of queues whose number changes
abbrev pub queue_objects : ℕ → List QueueCount → List QueueCount → List TraceObject
queue_objects time before after = flat_map (changed_objects time before) after ++ flat_map (deleted_objects time after) before

-- counters of this kind are told; with a choice of tasks, none is
abbrev pub tells_counter : ChoiceState → Kind → Bool
tells_counter c kind = is_of c.tasks subjects.Board && is_among c.kinds kind

-- the counters that are told, if their numbers were these before; tasks that run and messages are their kinds
abbrev pub counter_objects : ChoiceState → ℕ → CountsState → CountsState → List TraceObject
counter_objects c time before after =
    (if tells_counter c kinds.Runs then ready_objects time before.ready after.ready else [])
    ++ (if tells_counter c kinds.Messages then queue_objects time before.queues after.queues else [])

-- ---- steps
-- before the first step: all counters, if that step is one of the choice
abbrev pub first_counters : ChoiceState → State → List TraceObject
first_counters c s = if is_step c (s.steps + 1) then counter_objects c s.time no_counts (counts_in s) else []

-- after a step of the choice that isn't one instruction: those whose number has changed; an instruction changes none
abbrev pub counters_in : ChoiceState → BeforeStep → CountsState → State → List TraceObject
counters_in c b before t = if is_instruction b t.world.output then [] else counter_objects c t.time before (counts_in t)

-- after another step: all, if the next one is the first of the choice
abbrev pub counters_outside : ChoiceState → BeforeStep → State → List TraceObject
counters_outside c b t = if is_step c (b.step + 1) then counter_objects c t.time no_counts (counts_in t) else []

abbrev pub step_counters : ChoiceState → BeforeStep → CountsState → State → List TraceObject
step_counters c b before t = if is_step c b.step then counters_in c b before t else counters_outside c b t
