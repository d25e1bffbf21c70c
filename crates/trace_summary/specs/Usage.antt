-- How mutexes, queues and device slots were used, by the lines of a run. Lists of lines are the newest first.
use Rattle.std.specs.Prelude.{ℕ, ◌-◌, ◌==◌, ◌&&◌, not, Bool, true, false, if◌then◌else◌, List, [], ◌∷◌, ◌++◌, map, Option, None, Some}
use Rattle.std.specs.List.{list_any}
use Rattle.board_trace.specs.Runs.{Line}
use Rattle.board_trace.specs.declared.happening.Happening.{Happening}
use Rattle.board_trace.specs.declared.happening.Happening.TheVariants as told
use Rattle.trace_summary.specs.Figures.{total}
use Rattle.trace_summary.specs.Holds.{HoldState, ended, held_after, longer_of, longest_hold, unheld}
use Rattle.trace_summary.specs.Stretches.{greatest}
use Rattle.trace_summary.specs.declared.usage.Move.{Move}
use Rattle.trace_summary.specs.declared.usage.Object.{Object}
use Rattle.trace_summary.specs.declared.usage.ObjectKind.{ObjectKind}
use Rattle.trace_summary.specs.declared.usage.ObjectKind.TheVariants as kinds
use Rattle.trace_summary.specs.declared.usage.Usage.{Usage}

-- ---- objects
abbrev pub same_kind : ObjectKind → ObjectKind → Bool
same_kind kinds.Mutex kinds.Mutex = true
same_kind kinds.Mutex kinds.Queue = false
same_kind kinds.Mutex kinds.Slot = false
same_kind kinds.Queue kinds.Mutex = false
same_kind kinds.Queue kinds.Queue = true
same_kind kinds.Queue kinds.Slot = false
same_kind kinds.Slot kinds.Mutex = false
same_kind kinds.Slot kinds.Queue = false
same_kind kinds.Slot kinds.Slot = true

abbrev pub same_object : Object → Object → Bool
same_object one other = same_kind one.kind other.kind && one.id == other.id

-- ---- what comes and goes
abbrev pub coming : ObjectKind → ℕ → Option ℕ → ℕ → Option Move
coming kind id owner time = Some (record { object = record { kind = kind; id = id }; enters = true; owner = owner; time = time })

abbrev pub leaving : ObjectKind → ℕ → Option ℕ → ℕ → Option Move
leaving kind id owner time = Some (record { object = record { kind = kind; id = id }; enters = false; owner = owner; time = time })

-- in a step that begins at this time: an owner comes to a mutex and leaves it, a message comes to a queue and leaves it, and an
-- interrupt of a slot comes when it is raised and leaves when it is delivered
abbrev pub move_of : ℕ → Happening → Option Move
move_of time (told.Owned mutex owner) = coming kinds.Mutex mutex (Some owner) time
move_of time (told.Freed mutex owner) = leaving kinds.Mutex mutex (Some owner) time
move_of time (told.Queued queue sender) = coming kinds.Queue queue None time
move_of time (told.Taken queue receiver) = leaving kinds.Queue queue None time
move_of time (told.Interrupt slot) = coming kinds.Slot slot None time
move_of time (told.Delivery slot) = leaving kinds.Slot slot None time
move_of time h = None

abbrev pub move_in : Line → Option Move
move_in l = move_of l.time l.what

-- one if something comes to this object, or leaves it
abbrev pub entry_in : Object → Option Move → ℕ
entry_in o None = 0
entry_in o (Some m) = if same_object o m.object && m.enters then 1 else 0

abbrev pub exit_in : Object → Option Move → ℕ
exit_in o None = 0
exit_in o (Some m) = if same_object o m.object && not m.enters then 1 else 0

-- ---- figures
-- how much came and how much left
abbrev pub entries : Object → List Line → ℕ
entries o lines = total (λ l. entry_in o (move_in l)) lines

abbrev pub exits : Object → List Line → ℕ
exits o lines = total (λ l. exit_in o (move_in l)) lines

-- how much came and hasn't left
abbrev pub present : Object → List Line → ℕ
present o lines = entries o lines - exits o lines

-- the lines up to each line
abbrev pub moments : List Line → List (List Line)
moments [] = []
moments (l ∷ older) = (l ∷ older) ∷ moments older

-- the most that was there after a line; 0 if nothing was
abbrev pub most : Object → List Line → ℕ
most o lines = greatest (map (present o) (moments lines))

-- ---- holds
-- after a move, if it is one of this object
abbrev pub held_by : Object → Option Move → HoldState → HoldState
held_by o None h = h
held_by o (Some m) h = if same_object o m.object then held_after m h else h

-- the holds of a mutex; other objects have none
abbrev pub holds_of : Object → List Line → HoldState
holds_of o [] = unheld
holds_of o (l ∷ older) = held_by o (move_in l) (holds_of o older)

-- how an object was used
abbrev pub usage_of : List Line → Object → Usage
usage_of lines o = record {
  object = o;
  entries = entries o lines;
  exits = exits o lines;
  most = most o lines;
  holding = (holds_of o lines).holding;
  longest = longest_hold (holds_of o lines).holds;
}

-- ---- the objects of a run
-- adds an object, unless it is among these
abbrev pub with_object : Object → List Object → List Object
with_object o os = if list_any (λ p. same_object p o) os then os else os ++ o ∷ []

-- adds that of a move
abbrev pub with_mover : Option Move → List Object → List Object
with_mover None os = os
with_mover (Some m) os = with_object m.object os

-- the objects to which something comes or which it leaves, in the order in which they appear
abbrev pub objects_in : List Line → List Object
objects_in [] = []
objects_in (l ∷ older) = with_mover (move_in l) (objects_in older)

-- how each was used
abbrev pub usages : List Line → List Usage
usages lines = map (usage_of lines) (objects_in lines)

-- at the end of the run the hold that goes on ends
abbrev pub closed : ℕ → Usage → Usage
closed time u = record u { longest = longer_of (ended u.holding time) u.longest }
