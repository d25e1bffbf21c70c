-- How deep objects of the trace-event format nest.
use Rattle.std.proofs.Common.{◌≡◌, ℕ, suc, ◌≤◌, List, [], ◌∷◌, ◌++◌, sym, subst, arith}
use Rattle.std.specs.Prelude.{codes}
use Rattle.std.specs.Fmt.{decimal}
use Rattle.serde_json.specs.Data.{Data, boolean, depth}
use Rattle.serde_json.specs.Read.{max_depth}
use Rattle.board_changes.specs.declared.awaited.Awaited.{Awaited}
use Rattle.board_changes.specs.declared.look.Look.{Look}
use Rattle.board_changes.specs.declared.spans.Span.{Span}
use Rattle.board_trace.specs.Subjects.{subject_of}
use Rattle.board_trace.specs.declared.happening.Happening.{Happening}
use Rattle.trace_state.specs.Board.{time_shown}
use Rattle.trace_state.specs.Json.{number_of, object_of, text_of}
use Rattle.trace_state.specs.Tasks.{wait_data}
use Rattle.board_trace.specs.declared.who.Subject.{Subject}
use Rattle.trace_json.specs.Chrome.{args_members, bind_members, closing_data, counter_data, detail_data, ending_args, finish_data, flow_members, instant_data, instant_members, look_data, messages_data, place_members, ready_data, routine_data, span_data, span_name, start_data, thread_args, thread_data, thread_of, times_members}
use Rattle.trace_text.specs.Changes.{awaited_text}
use Rattle.trace_json.specs.Happenings.{event_members, event_word}
use Rattle.trace_json.proofs.Depth.{Within, both, event_within, made_within, wait_within}

-- the place of an object nests no further
place_within : (n : ℕ) (phase name : List ℕ) (thread : ℕ) → Within n (place_members phase name thread)
place_within n phase name thread = (omega arith, (omega arith, (omega arith, (omega arith, tt))))

-- its `args` nest no deeper than their value
args_within : (n : ℕ) (args : Data) → depth args ≤ n → Within n (args_members args)
args_within n args h = (h, tt)

-- an object of a place and this, and of a place, more, and this
short_within : (n : ℕ) (phase name : List ℕ) (thread : ℕ) (args : Data) → depth args ≤ n → depth (object_of (place_members phase name thread ++ args_members args)) ≤ suc n
short_within n phase name thread args h =
    made_within n (place_members phase name thread ++ args_members args) (both n (place_members phase name thread) (args_members args) (place_within n phase name thread) (args_within n args h))

long_within : (n : ℕ) (phase name : List ℕ) (thread : ℕ) (more : List (List ℕ × Data)) (args : Data) → Within n more → depth args ≤ n → depth (object_of (place_members phase name thread ++ (more ++ args_members args))) ≤ suc n
long_within n phase name thread more args few h =
    made_within n (place_members phase name thread ++ (more ++ args_members args))
    (both n (place_members phase name thread) (more ++ args_members args) (place_within n phase name thread) (both n more (args_members args) few (args_within n args h)))

-- ---- each object
named_within : (name : List ℕ) → depth (thread_args name) ≤ 1
named_within name = let ms : List (List ℕ × Data) = (codes "name", text_of name) ∷ [] in made_within 0 ms (omega arith, tt)

thread_within : (thread : ℕ) (name : List ℕ) → depth (thread_data thread name) ≤ 2
unfolding thread_data
thread_within thread name = short_within 1 (codes "M") (codes "thread_name") thread (thread_args name) (named_within name)

look_within : (l : Look) → depth (look_data l) ≤ 2
look_within l =
    let ms : List (List ℕ × Data) = (codes "wait", wait_data l.object) ∷ (codes "inherits", boolean l.inherits) ∷ [] in
    made_within 1 ms (wait_within l.object, (omega arith, tt))

times_within : (n : ℕ) (from to : ℕ) → Within n (times_members from to)
times_within n from to = (omega arith, (omega arith, tt))

span_within : (s : Span) → depth (span_data s) ≤ 3
unfolding span_data
span_within s = long_within 2 (codes "X") (span_name s.look.standing s.look.object) s.who (times_members s.from s.to) (look_data s.look) (times_within 2 s.from s.to) (look_within s.look)

-- an object of a place and these members
flat_within : (n : ℕ) (phase name : List ℕ) (thread : ℕ) (more : List (List ℕ × Data)) → Within n more → depth (object_of (place_members phase name thread ++ more)) ≤ suc n
flat_within n phase name thread more few =
    made_within n (place_members phase name thread ++ more) (both n (place_members phase name thread) more (place_within n phase name thread) few)

routine_within : (from to : ℕ) → depth (routine_data from to) ≤ 1
unfolding routine_data
routine_within from to = flat_within 0 (codes "X") (codes "routine") 0 (times_members from to) (times_within 0 from to)

flow_within : (number time : ℕ) → Within 0 (flow_members number time)
flow_within number time = (omega arith, (omega arith, (omega arith, tt)))

start_within : (number time : ℕ) (object : Awaited) (giver : Subject) → depth (start_data number time object giver) ≤ 1
unfolding start_data
start_within number time object giver = flat_within 0 (codes "s") (awaited_text object) (thread_of giver) (flow_members number time) (flow_within number time)

finish_within : (number time : ℕ) (object : Awaited) (waiter : ℕ) → depth (finish_data number time object waiter) ≤ 1
unfolding finish_data
finish_within number time object waiter =
    flat_within 0 (codes "f") (awaited_text object) waiter (flow_members number time ++ bind_members) (both 0 (flow_members number time) bind_members (flow_within number time) (omega arith, tt))

number_within : (what : List ℕ) (number : ℕ) → depth (object_of ((what, number_of number) ∷ [])) ≤ 1
number_within what number = let ms : List (List ℕ × Data) = (what, number_of number) ∷ [] in made_within 0 ms (omega arith, tt)

counter_within : (name : List ℕ) (time : ℕ) (what : List ℕ) (number : ℕ) → depth (counter_data name time what number) ≤ 2
counter_within name time what number =
    let more : List (List ℕ × Data) = (codes "ts", number_of (time_shown time)) ∷ args_members (object_of ((what, number_of number) ∷ [])) in
    flat_within 1 (codes "C") name 0 more (omega arith, (number_within what number, tt))

ready_within : (time number : ℕ) → depth (ready_data time number) ≤ 2
unfolding ready_data
ready_within time number = counter_within (codes "ready") time (codes "tasks") number

messages_within : (time queue number : ℕ) → depth (messages_data time queue number) ≤ 2
unfolding messages_data
messages_within time queue number = counter_within (codes "queue " ++ decimal queue) time (codes "messages") number

at_within : (n : ℕ) (scope : List ℕ) (time : ℕ) → Within n (instant_members scope time)
at_within n scope time = (omega arith, (omega arith, tt))

detail_within : (step : ℕ) (h : Happening) → depth (detail_data step h) ≤ 2
detail_within step h = let ms : List (List ℕ × Data) = (codes "step", number_of step) ∷ event_members h in made_within 1 ms (omega arith, event_within h)

instant_within : (time step : ℕ) (h : Happening) → depth (instant_data time step h) ≤ 3
unfolding instant_data
instant_within time step h =
    long_within 2 (codes "i") (event_word h) (thread_of (subject_of h)) (instant_members (codes "t") time) (detail_data step h) (at_within 2 (codes "t") time) (detail_within step h)

ending_within : (step : ℕ) (how : List ℕ) → depth (ending_args step how) ≤ 1
ending_within step how =
    let ms : List (List ℕ × Data) = (codes "step", number_of step) ∷ (codes "how", text_of how) ∷ [] in
    made_within 0 ms (omega arith, (omega arith, tt))

closing_within : (time step : ℕ) (how : List ℕ) → depth (closing_data time step how) ≤ 2
unfolding closing_data
closing_within time step how = long_within 1 (codes "i") (codes "end") 0 (instant_members (codes "g") time) (ending_args step how) (at_within 1 (codes "g") time) (ending_within step how)

-- so they can be read back
shallow : (d e : Data) (n : ℕ) → d ≡ e → depth e ≤ n → n ≤ max_depth → depth d ≤ max_depth
shallow d e n is low few = let P : Data → Type 0 = λ x. depth x ≤ max_depth in subst P (sym is) (omega (arith, low, few))

pub thread_shallow : (d : Data) (thread : ℕ) (name : List ℕ) → d ≡ thread_data thread name → depth d ≤ max_depth
thread_shallow d thread name is = shallow d (thread_data thread name) 2 is (thread_within thread name) (omega arith)

pub span_shallow : (d : Data) (s : Span) → d ≡ span_data s → depth d ≤ max_depth
span_shallow d s is = shallow d (span_data s) 3 is (span_within s) (omega arith)

pub routine_shallow : (d : Data) (from to : ℕ) → d ≡ routine_data from to → depth d ≤ max_depth
routine_shallow d from to is = shallow d (routine_data from to) 1 is (routine_within from to) (omega arith)

pub start_shallow : (d : Data) (number time : ℕ) (object : Awaited) (giver : Subject) → d ≡ start_data number time object giver → depth d ≤ max_depth
start_shallow d number time object giver is = shallow d (start_data number time object giver) 1 is (start_within number time object giver) (omega arith)

pub finish_shallow : (d : Data) (number time : ℕ) (object : Awaited) (waiter : ℕ) → d ≡ finish_data number time object waiter → depth d ≤ max_depth
finish_shallow d number time object waiter is = shallow d (finish_data number time object waiter) 1 is (finish_within number time object waiter) (omega arith)

pub ready_shallow : (d : Data) (time number : ℕ) → d ≡ ready_data time number → depth d ≤ max_depth
ready_shallow d time number is = shallow d (ready_data time number) 2 is (ready_within time number) (omega arith)

pub messages_shallow : (d : Data) (time queue number : ℕ) → d ≡ messages_data time queue number → depth d ≤ max_depth
messages_shallow d time queue number is = shallow d (messages_data time queue number) 2 is (messages_within time queue number) (omega arith)

pub instant_shallow : (d : Data) (time step : ℕ) (h : Happening) → d ≡ instant_data time step h → depth d ≤ max_depth
instant_shallow d time step h is = shallow d (instant_data time step h) 3 is (instant_within time step h) (omega arith)

pub closing_shallow : (d : Data) (time step : ℕ) (how : List ℕ) → d ≡ closing_data time step how → depth d ≤ max_depth
closing_shallow d time step how is = shallow d (closing_data time step how) 2 is (closing_within time step how) (omega arith)
