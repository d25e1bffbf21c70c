-- A run as a list of objects of the trace-event format.
use Rattle.std.specs.Prelude.{◌≡◌, ◌⊎◌, ℕ, zero, suc, ◌+◌, ◌-◌, ◌^◌, ◌≤◌, min, nat_lt, Bool, ◌&&◌, if◌then◌else◌, List, [], ◌∷◌, ◌++◌, Option, None, Some}
use Rattle.std.specs.List.{flat_map}
use Rattle.std.specs.Option.{unwrap_or}
use Rattle.serde_json.specs.Data.{Data}
use Rattle.wind_outside.specs.Appending.{Appended, AppendedPrefix}
use Rattle.wind_machine.specs.LiveLoadingSaid.{FileSaid}
use Rattle.kernel_world.specs.declared.actor.Actor.{Actor}
use Rattle.wind_machine.specs.State.{State}
use Rattle.wind_machine.specs.Next.{is_active}
use Rattle.wind_machine.specs.Run.{Answers, after}
use Rattle.wind_session.specs.declared.run.RunEnd.{RunEnd}
use Rattle.wind_session.specs.declared.run.RunEnd.TheVariants as ends
use Rattle.board_changes.specs.Spans.{SpanState, closed}
use Rattle.board_changes.specs.declared.change.Change.{Change}
use Rattle.board_changes.specs.declared.change.Change.TheVariants as changes
use Rattle.board_changes.specs.declared.spans.Span.{Span}
use Rattle.board_trace.specs.Before.{before_step}
use Rattle.board_trace.specs.Runs.{Line, step_lines}
use Rattle.board_trace.specs.Snapshots.{snapshot_of}
use Rattle.board_trace.specs.Steps.{happenings}
use Rattle.board_trace.specs.Subjects.{subject_actor}
use Rattle.board_trace.specs.Views.{SnapshotState}
use Rattle.board_trace.specs.declared.moment.BeforeStep.{BeforeStep}
use Rattle.board_trace.specs.declared.happening.Happening.{Happening}
use Rattle.board_trace.specs.declared.happening.Happening.TheVariants as told
use Rattle.board_trace.specs.declared.who.Subject.{Subject}
use Rattle.board_trace.specs.declared.who.Subject.TheVariants as subjects
use Rattle.trace_text.specs.Forms.{Gained, Joins}
use Rattle.trace_json.specs.Chrome.{AreMembers, IsLastMember, RoutineSpan, TaskSpan, TraceObject, closing_data, flow_objects, instant_objects, list_opening, name_objects, opening_objects}
use Rattle.trace_json.specs.declared.members.EndedWait.{EndedWait}
use Rattle.trace_session.specs.Choice.{ChoiceState, chosen, is_among, is_chosen, is_of, is_step}
use Rattle.trace_session.specs.Counters.{counts_in, first_counters, queue_counts, step_counters}
use Rattle.trace_session.specs.Shown.{kind_of_standing}
use Rattle.trace_session.specs.Spans.{looked_by, part_after}
use Rattle.trace_session.specs.declared.choice.Kind.TheVariants as kinds
use Rattle.trace_session.specs.declared.numbers.QueueCount.{QueueCount}
use Rattle.trace_session.specs.Traced.{IsPutOf, how_text}

-- ---- objects
-- a span is told: its task is chosen, and the kind of what the task did
abbrev pub tells_span : ChoiceState → Span → Bool
tells_span c s = is_of c.tasks (subjects.Task s.who) && is_among c.kinds (kind_of_standing s.look.standing)

abbrev pub span_objects : ChoiceState → Span → List TraceObject
span_objects c s = if tells_span c s then TaskSpan s ∷ [] else []

-- a line that is chosen is an instant
abbrev pub chosen_objects : ChoiceState → Line → List TraceObject
chosen_objects c l = if is_chosen c l then instant_objects l.time l.step l.what else []

-- the objects of a line: the name of a task that it spawns, and its instant
abbrev pub line_objects : ChoiceState → Line → List TraceObject
line_objects c l = name_objects l.what l.name ++ chosen_objects c l

-- ---- the interrupt level
-- since when an interrupt routine is active
abbrev pub active_since : Option ℕ → State → Option ℕ
active_since since t = if is_active t.world then Some (unwrap_or since t.time) else None

-- the same, if the step that follows this state is one of the choice
abbrev pub level_by : ChoiceState → Option ℕ → State → Option ℕ
level_by c since t = if is_step c (t.steps + 1) then active_since since t else None

-- since when a routine is active after the first k steps from s
abbrev pub level_after : ChoiceState → Answers → State → ℕ → Option ℕ
level_after c said s zero = level_by c None s
level_after c said s (suc k) = level_by c (level_after c said s k) (after said s (suc k))

-- interrupt routines are told
abbrev pub tells_level : ChoiceState → Bool
tells_level c = is_of c.tasks subjects.Interrupt && is_among c.kinds kinds.Routines

abbrev pub routine_objects : ChoiceState → ℕ → ℕ → List TraceObject
routine_objects c from to = if nat_lt from to && tells_level c then RoutineSpan from to ∷ [] else []

-- a routine was active since this time, and none is any more
abbrev pub level_objects : ChoiceState → Option ℕ → Option ℕ → ℕ → List TraceObject
level_objects c None later time = []
level_objects c (Some from) None time = routine_objects c from time
level_objects c (Some from) (Some since) time = []

-- ---- flows
-- the wait that ends
abbrev pub wait_in : Change → Option EndedWait
wait_in (changes.Served who object answer) = Some (record { waiter = who; object = object })
wait_in (changes.Failed who object errno) = Some (record { waiter = who; object = object })
wait_in (changes.GoesOn who object) = Some (record { waiter = who; object = object })
wait_in change = None

abbrev pub wait_of : Happening → Option EndedWait
wait_of (told.Changed change) = wait_in change
wait_of h = None

-- the same, if it is told in the step with this number
abbrev pub chosen_wait : ChoiceState → ℕ → Happening → Option EndedWait
chosen_wait c step h = if chosen c step h then wait_of h else None

-- flows are numbered from 1; from 2 ^ 64 - 1 on they have that number
abbrev pub next_number : ℕ → ℕ
next_number n = min (n + 1) (2 ^ 64 - 1)

-- the number of the last flow, with the one of this wait
abbrev pub numbered : Option EndedWait → ℕ → ℕ
numbered None n = n
numbered (Some wait) n = next_number n

-- the flow of a wait from who ended it
abbrev pub wait_objects : Subject → Option EndedWait → ℕ → ℕ → ℕ → List TraceObject
wait_objects giver None n from to = []
wait_objects giver (Some wait) n from to = flow_objects (next_number n) giver wait from to

-- what happens in a step, which this task or the interrupt level makes and which ends at this time: its flows after the
-- first n, and the number of the last of them
abbrev pub flows_in : ChoiceState → Subject → BeforeStep → ℕ → List Happening → ℕ → List TraceObject
flows_in c giver b to [] n = []
flows_in c giver b to (h ∷ hs) n = wait_objects giver (chosen_wait c b.step h) n b.time to ++ flows_in c giver b to hs (numbered (chosen_wait c b.step h) n)

abbrev pub number_in : ChoiceState → BeforeStep → List Happening → ℕ → ℕ
number_in c b [] n = n
number_in c b (h ∷ hs) n = number_in c b hs (numbered (chosen_wait c b.step h) n)

-- a step that nobody makes, as a tick, has no flow
abbrev pub flows_by : ChoiceState → Option Actor → BeforeStep → ℕ → List Happening → ℕ → List TraceObject
flows_by c None b to hs n = []
flows_by c (Some who) b to hs n = flows_in c (subject_actor who) b to hs n

abbrev pub number_by : ChoiceState → Option Actor → BeforeStep → List Happening → ℕ → ℕ
number_by c None b hs n = n
number_by c (Some who) b hs n = number_in c b hs n

abbrev pub step_flows : ChoiceState → BeforeStep → ℕ → List Happening → ℕ → List TraceObject
step_flows c b to hs n = flows_by c b.actor b to hs n

abbrev pub step_number : ChoiceState → BeforeStep → List Happening → ℕ → ℕ
step_number c b hs n = number_by c b.actor b hs n

-- the number of the last flow of the first k steps from s
abbrev pub flows_after : ChoiceState → Answers → State → ℕ → ℕ
flows_after c said s zero = 0
flows_after c said s (suc k) = step_number c (before_step (after said s k)) (happenings (said k) (after said s k) (after said s (suc k))) (flows_after c said s k)

-- ---- steps
-- what goes on from step to step: the spans of the tasks, since when a routine is active, and the number of the last flow
pub record ChartState : Type 0 where
  pub spans : SpanState
  pub level : Option ℕ
  pub flows : ℕ

abbrev pub charted : SpanState → Option ℕ → ℕ → ChartState
charted spans level flows = record { spans = spans; level = level; flows = flows }

-- that of the first k steps from s
abbrev pub chart_after : ChoiceState → Answers → State → ℕ → ChartState
chart_after c said s k = charted (part_after c said s k) (level_after c said s k) (flows_after c said s k)

-- and one step later
abbrev pub chart_by : ChoiceState → FileSaid → ChartState → State → State → ChartState
chart_by c said x s t = charted (looked_by c (before_step s) x.spans t) (level_by c x.level t) (step_number c (before_step s) (happenings said s t) x.flows)

-- the spans without those that have ended
abbrev pub going_on : SpanState → SpanState
going_on spans = record { going = spans.going; done = [] }

abbrev pub chart_on : ChartState → ChartState
chart_on x = charted (going_on x.spans) x.level x.flows

-- the spans that end with a step
abbrev pub ended_in : ChoiceState → SpanState → State → State → List Span
ended_in c spans s t = (looked_by c (before_step s) (going_on spans) t).done

-- the objects of a step: those of its lines, its flows, the spans that end with it, that of a routine, and its counters
abbrev pub step_objects : ChoiceState → FileSaid → ChartState → State → State → List TraceObject
step_objects c said x s t =
    flat_map (line_objects c) (step_lines said s t)
    ++ (step_flows c (before_step s) t.time (happenings said s t) x.flows
    ++ ((flat_map (span_objects c) (ended_in c x.spans s t) ++ level_objects c x.level (level_by c x.level t) t.time)
    ++ step_counters c (before_step s) (counts_in s) t))

-- the objects before the first step: the names of threads, and the counters
abbrev pub first_objects : ChoiceState → State → List TraceObject
first_objects c s = opening_objects (snapshot_of s.world).tasks ++ first_counters c s

-- the objects of the first k steps from s
abbrev pub objects_after : ChoiceState → Answers → State → ℕ → List TraceObject
objects_after c said s zero = first_objects c s
objects_after c said s (suc k) = objects_after c said s k ++ step_objects c (said k) (chart_after c said s k) (after said s k) (after said s (suc k))

-- the spans that go on when the run ends
abbrev pub left_spans : SpanState → ℕ → List Span
left_spans spans time = (closed (going_on spans) time).done

abbrev pub left_objects : ChoiceState → ChartState → ℕ → List TraceObject
left_objects c x time = flat_map (span_objects c) (left_spans x.spans time) ++ level_objects c x.level None time

-- the objects of a run that ends after k steps
abbrev pub objects_of : ChoiceState → Answers → State → ℕ → List TraceObject
objects_of c said s k = objects_after c said s k ++ left_objects c (chart_after c said s k) (after said s k).time

-- the last object of a run that ended like this in this state
abbrev pub last_object : RunEnd → State → Data
last_object end s = closing_data s.time s.steps (how_text end)

-- ---- texts
-- the text is a bracket and these objects, each followed by others
abbrev pub BeginsList : List TraceObject → List ℕ → Type 0
BeginsList objects text = Gained (AreMembers objects) list_opening text

-- the text is the list of these objects and the last one
abbrev pub IsList : List TraceObject → Data → List ℕ → Type 0
IsList objects last text = Joins (BeginsList objects) (IsLastMember last) text

-- the sink gained a prefix of a text that begins with the first of these objects
pub record HoldsFirst (old new : Option (List ℕ)) (objects : List TraceObject) : Type 0 where
  pub earlier : List TraceObject
  pub later : List TraceObject
  pub objects_are : objects ≡ earlier ++ later
  pub text : List ℕ
  pub begins : BeginsList earlier text
  pub gained : AppendedPrefix old new text

-- the objects of a run were put, and after them how it ended; or a prefix, because a put failed
abbrev pub TellsObjects : ChoiceState → RunEnd → State → Option (List ℕ) → Option (List ℕ) → Answers → ℕ → RunEnd → Type 0
TellsObjects c result s old new said k end =
    ((text : List ℕ) × IsList (objects_of c said s k) (last_object end (after said s k)) text × IsPutOf text result end old new)
    ⊎ ((result ≡ ends.WriteFault) × HoldsFirst old new (objects_after c said s k))

-- memory ran out for the trace: a prefix of the objects of the first j of k steps was put
abbrev pub TellsFirst : ChoiceState → State → Option (List ℕ) → Option (List ℕ) → Answers → ℕ → RunEnd → Type 0
TellsFirst c s old new said k end = (j : ℕ) × (j ≤ k) × HoldsFirst old new (objects_after c said s j)

-- ---- a run under way
-- the sink gained a text, and that text with this one begins with these objects
pub record HoldsObjects (old new : Option (List ℕ)) (text : List ℕ) (objects : List TraceObject) : Type 0 where
  pub given : List ℕ
  pub gained : Appended old new given
  pub begins : BeginsList objects (given ++ text)

-- these are the objects of the first k steps, and this goes on
pub record ChartsSteps (c : ChoiceState) (x : ChartState) (old new : Option (List ℕ)) (text : List ℕ) (said : Answers) (s : State) (k : ℕ) : Type 0 where
  pub holds : HoldsObjects old new text (objects_after c said s k)
  pub going : chart_on x ≡ chart_on (chart_after c said s k)

-- the sink gained a prefix of their text
abbrev pub ChartsPart : ChoiceState → Option (List ℕ) → Option (List ℕ) → Answers → State → ℕ → Type 0
ChartsPart c old new said s k = HoldsFirst old new (objects_after c said s k)

-- the snapshot and the counts of messages are those of this state
pub record IsReadyToChart (before : SnapshotState) (counts : List QueueCount) (u : State) : Type 0 where
  pub snapshot : before ≡ snapshot_of u.world
  pub counts_are : counts ≡ queue_counts u.world
