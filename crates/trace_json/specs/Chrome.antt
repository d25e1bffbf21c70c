-- Objects of the trace-event format. The process is 1; a task's thread is its id, and thread 0 is the board with its
-- interrupt level. A microsecond is a unit of board time.
use Rattle.std.specs.Prelude.{◌≡◌, ℕ, ◌-◌, List, [], ◌∷◌, ◌++◌, map, Option, None, Some, if◌then◌else◌, codes}
use Rattle.std.specs.Fmt.{decimal}
use Rattle.std.specs.List.{flat_map}
use Rattle.serde_json.specs.Data.{Data, boolean, string}
use Rattle.serde_json.specs.Read.{read}
use Rattle.board_changes.specs.declared.awaited.Awaited.{Awaited}
use Rattle.board_changes.specs.declared.change.Change.TheVariants as changes
use Rattle.board_changes.specs.declared.look.Look.{Look}
use Rattle.board_changes.specs.declared.look.Standing.{Standing}
use Rattle.board_changes.specs.declared.look.Standing.TheVariants.{Running, Ready, Waiting, Sleeping, Suspended}
use Rattle.board_changes.specs.declared.spans.Span.{Span}
use Rattle.board_changes.specs.declared.view.TaskView.{TaskView}
use Rattle.board_trace.specs.Subjects.{subject_of}
use Rattle.board_trace.specs.declared.happening.Happening.{Happening}
use Rattle.board_trace.specs.declared.happening.Happening.TheVariants as told
use Rattle.board_trace.specs.declared.who.Subject.{Subject}
use Rattle.board_trace.specs.declared.who.Subject.TheVariants as subjects
use Rattle.trace_text.specs.Changes.{awaited_text}
use Rattle.trace_text.specs.Pages.{is_instructions}
use Rattle.trace_state.specs.Board.{time_shown}
use Rattle.trace_state.specs.Json.{number_of, object_of, text_of}
use Rattle.trace_state.specs.Tasks.{wait_data}
use Rattle.trace_json.specs.Happenings.{event_members, event_word}
use Rattle.trace_json.specs.declared.members.EndedWait.{EndedWait}

-- the thread of a subject
abbrev pub thread_of : Subject → ℕ
thread_of subjects.Board = 0
thread_of subjects.Interrupt = 0
thread_of (subjects.Task id) = id

-- the phase of an object, its name, and its process and thread
abbrev pub place_members : List ℕ → List ℕ → ℕ → List (List ℕ × Data)
place_members phase name thread =
    (codes "ph", string phase) ∷ (codes "name", string name) ∷ (codes "pid", number_of 1) ∷ (codes "tid", number_of thread) ∷ []

-- its `args`: further values
abbrev pub args_members : Data → List (List ℕ × Data)
args_members d = (codes "args", d) ∷ []

-- ---- names
-- a thread has this name
abbrev pub thread_args : List ℕ → Data
thread_args name = object_of ((codes "name", text_of name) ∷ [])

unfoldable pub thread_data : ℕ → List ℕ → Data
thread_data thread name = object_of (place_members (codes "M") (codes "thread_name") thread ++ args_members (thread_args name))

-- ---- spans
-- a task waits, for this if it is known
abbrev pub waiting_name : Option Awaited → List ℕ
waiting_name None = codes "waiting"
waiting_name (Some object) = codes "waiting for " ++ awaited_text object

-- the name of a span: what the task does, and what it waits for if it waits
abbrev pub span_name : Standing → Option Awaited → List ℕ
span_name Running object = codes "running"
span_name Ready object = codes "ready"
span_name Waiting object = waiting_name object
span_name Sleeping object = codes "sleeping"
span_name Suspended object = codes "suspended"

-- what a task waits for, and whether its priority is inherited
abbrev pub look_data : Look → Data
look_data l = object_of ((codes "wait", wait_data l.object) ∷ (codes "inherits", boolean l.inherits) ∷ [])

-- from when, and for how long
abbrev pub times_members : ℕ → ℕ → List (List ℕ × Data)
times_members from to = (codes "ts", number_of (time_shown from)) ∷ (codes "dur", number_of (time_shown (to - from))) ∷ []

-- a span of a task
unfoldable pub span_data : Span → Data
span_data s =
    object_of (place_members (codes "X") (span_name s.look.standing s.look.object) s.who ++ (times_members s.from s.to ++ args_members (look_data s.look)))

-- a span in which an interrupt routine is active
unfoldable pub routine_data : ℕ → ℕ → Data
routine_data from to = object_of (place_members (codes "X") (codes "routine") 0 ++ times_members from to)

-- ---- instants
-- how far an instant reaches, a thread (t) or everything (g); and its time
abbrev pub instant_members : List ℕ → ℕ → List (List ℕ × Data)
instant_members scope time = (codes "s", string scope) ∷ (codes "ts", number_of (time_shown time)) ∷ []

-- the number of a step, and what else is told of a happening in it
abbrev pub detail_data : ℕ → Happening → Data
detail_data step h = object_of ((codes "step", number_of step) ∷ event_members h)

-- a happening in the step with this number, which begins at this time
unfoldable pub instant_data : ℕ → ℕ → Happening → Data
instant_data time step h =
    object_of (place_members (codes "i") (event_word h) (thread_of (subject_of h)) ++ (instant_members (codes "t") time ++ args_members (detail_data step h)))

-- ---- flows
-- the number of a flow, and the time at one of its ends
abbrev pub flow_members : ℕ → ℕ → List (List ℕ × Data)
flow_members number time =
    (codes "cat", string (codes "wait")) ∷ (codes "id", number_of number) ∷ (codes "ts", number_of (time_shown time)) ∷ []

-- a flow begins at this time with whoever ends the wait; its name is what the task waited for
unfoldable pub start_data : ℕ → ℕ → Awaited → Subject → Data
start_data number time object giver = object_of (place_members (codes "s") (awaited_text object) (thread_of giver) ++ flow_members number time)

-- it ends in the span that begins at its time
abbrev pub bind_members : List (List ℕ × Data)
bind_members = (codes "bp", string (codes "e")) ∷ []

-- it ends at this time with the task whose wait ends
unfoldable pub finish_data : ℕ → ℕ → Awaited → ℕ → Data
finish_data number time object waiter = object_of (place_members (codes "f") (awaited_text object) waiter ++ (flow_members number time ++ bind_members))

-- ---- counters
-- the name of a counter, its time, and the number of what it counts
abbrev pub counter_data : List ℕ → ℕ → List ℕ → ℕ → Data
counter_data name time what number =
    object_of (place_members (codes "C") name 0 ++ ((codes "ts", number_of (time_shown time)) ∷ args_members (object_of ((what, number_of number) ∷ []))))

-- the number of ready tasks at this time
unfoldable pub ready_data : ℕ → ℕ → Data
ready_data time number = counter_data (codes "ready") time (codes "tasks") number

-- the number of messages in a queue at this time
unfoldable pub messages_data : ℕ → ℕ → ℕ → Data
messages_data time queue number = counter_data (codes "queue " ++ decimal queue) time (codes "messages") number

-- ---- the end
-- the run ended at this time after this step, like this
abbrev pub ending_args : ℕ → List ℕ → Data
ending_args step how = object_of ((codes "step", number_of step) ∷ (codes "how", text_of how) ∷ [])

unfoldable pub closing_data : ℕ → ℕ → List ℕ → Data
closing_data time step how =
    object_of (place_members (codes "i") (codes "end") 0 ++ (instant_members (codes "g") time ++ args_members (ending_args step how)))

-- ---- objects
-- an object that others follow, before it is JSON
pub data TraceObject : Type 0 where
  -- the name of a thread
  ThreadName : (thread : ℕ) → (name : List ℕ) → TraceObject
  -- a span of a task
  TaskSpan : (span : Span) → TraceObject
  -- a span in which an interrupt routine is active
  RoutineSpan : (from : ℕ) → (to : ℕ) → TraceObject
  -- what happens in the step with this number, which begins at this time
  Instant : (time : ℕ) → (step : ℕ) → (h : Happening) → TraceObject
  -- the beginning of a flow at this time, with whoever ends a wait for this
  FlowStart : (number : ℕ) → (time : ℕ) → (object : Awaited) → (giver : Subject) → TraceObject
  -- its end, with the task that waited
  FlowFinish : (number : ℕ) → (time : ℕ) → (object : Awaited) → (waiter : ℕ) → TraceObject
  -- the counter of ready tasks
  ReadyTasks : (time : ℕ) → (number : ℕ) → TraceObject
  -- the counter of a queue's messages
  QueueMessages : (time : ℕ) → (queue : ℕ) → (number : ℕ) → TraceObject

-- the JSON value of an object
abbrev pub object_data : TraceObject → Data
object_data (ThreadName thread name) = thread_data thread name
object_data (TaskSpan span) = span_data span
object_data (RoutineSpan from to) = routine_data from to
object_data (Instant time step h) = instant_data time step h
object_data (FlowStart number time object giver) = start_data number time object giver
object_data (FlowFinish number time object waiter) = finish_data number time object waiter
object_data (ReadyTasks time number) = ready_data time number
object_data (QueueMessages time queue number) = messages_data time queue number

-- a task's thread has the task's name
abbrev pub task_objects : TaskView → List TraceObject
task_objects t = ThreadName t.id t.name ∷ []

-- the names before the first step: of the board's thread, and of its tasks'
abbrev pub opening_objects : List TaskView → List TraceObject
opening_objects tasks = (ThreadName 0 (codes "board") ∷ []) ++ flat_map task_objects tasks

-- the task that a happening spawns
abbrev pub spawned_task : Happening → Option ℕ
spawned_task (told.Changed (changes.Spawned who pri)) = Some who
spawned_task h = None

-- its thread gets its name
abbrev pub thread_objects : Option ℕ → List ℕ → List TraceObject
thread_objects None name = []
thread_objects (Some who) name = ThreadName who name ∷ []

abbrev pub name_objects : Happening → List ℕ → List TraceObject
name_objects h name = thread_objects (spawned_task h) name

-- each happening is an instant; instructions are not, as the spans show them
abbrev pub instant_objects : ℕ → ℕ → Happening → List TraceObject
instant_objects time step h = if is_instructions h then [] else Instant time step h ∷ []

-- a flow from whoever ends a wait, when the step begins, to the task that waited, when the step has been made
abbrev pub flow_objects : ℕ → Subject → EndedWait → ℕ → ℕ → List TraceObject
flow_objects number giver wait from to = FlowStart number from wait.object giver ∷ FlowFinish number to wait.object wait.waiter ∷ []

-- ---- texts
-- an object that others follow: a comma and a newline come after it
abbrev pub member_text : List ℕ → List ℕ
member_text json = json ++ codes ",\n"

-- the text has these objects, each followed by others; each reads back as its value
pub record AreMembers (objects : List TraceObject) (text : List ℕ) : Type 0 where
  pub jsons : List (List ℕ)
  pub read_back : map read jsons ≡ map (λ o. Some (object_data o)) objects
  pub text_is : text ≡ flat_map member_text jsons

-- the text is the last object and the end of the list; the object reads back as this value
pub record IsLastMember (d : Data) (text : List ℕ) : Type 0 where
  pub json : List ℕ
  pub reads_back : read json ≡ Some d
  pub text_is : text ≡ json ++ codes "\n]\n"

-- how a list begins
abbrev pub list_opening : List ℕ
list_opening = codes "[\n"
