-- The invariant of the queues, of the tasks that wait at them, and of their requests, which every call keeps.
use Rattle.std.specs.Prelude.{◌≡◌, ℕ, ◌<◌, ◌≤◌, ◌⊎◌, true, List, [], length, min, Option, Some, None, IsSome}
use Rattle.std.specs.List.{All, AllPairs, Contains}
use Rattle.id_table.specs.Rows.{object_of, Rises, IdsBelow}
use Rattle.id_table.specs.Sides.{object_side, senders_side}
use Rattle.id_table.specs.declared.ident.Place.{Place}
use Rattle.task_block.specs.Standing.{is_ready}
use Rattle.task_block.specs.declared.task.Task.{Task}
use Rattle.wind_core.specs.State.{KernState, IsKern, task_of}
use Rattle.msg_queue.specs.declared.asks.Ask.{Ask}
use Rattle.msg_queue.specs.State.{QueueState, QueuesState, Scene, ask_of, lies_in}

-- a queue holds at most as many messages as it can, and none is too long
pub record IsQueue (q : QueueState) : Type 0 where
  pub some : 0 < q.max_msgs
  pub fits : length q.held ≤ q.max_msgs
  pub short : All (λ m. length m ≤ q.max_len) q.held

-- a task that waits at a queue has its request there, its bytes are in RAM, and it can't be served now
pub record IsServable (size : ℕ) (asks : List Ask) (t : Task) (place : Place) (q : QueueState) : Type 0 where
  pub ask : Ask
  pub own : ask_of asks t.id ≡ Some ask
  pub there : ask.place ≡ place
  -- if a receiver waits, the queue is empty, and the receiver's buffer is in RAM as far as a message can fill it
  pub receiver : place.side ≡ object_side → (q.held ≡ []) × (lies_in size ask.buffer (min ask.count q.max_len) ≡ true)
  -- if a sender waits, the queue is full, and the sender's message is short enough
  pub sender : place.side ≡ senders_side
      → (length q.held ≡ q.max_msgs) × (ask.count ≤ q.max_len) × (lies_in size ask.buffer ask.count ≡ true)

-- a side of an object at which tasks wait, other than for a deletion or for the console
abbrev pub AtObject : Place → Type 0
AtObject place = place.side ≤ senders_side

-- that holds for each wait at a live queue
abbrev pub WaitsWell : ℕ → QueuesState → Task → Type 0
WaitsWell size qs t = (place : Place) (q : QueueState) → t.wait ≡ Some place → AtObject place
    → object_of qs.queues place.id ≡ Some q → IsServable size qs.asks t place q

-- a wait at the side of senders names a live queue
abbrev pub SendsToLive : QueuesState → Task → Type 0
SendsToLive qs t = (place : Place) → t.wait ≡ Some place → place.side ≡ senders_side
    → IsSome (object_of qs.queues place.id)

-- no task waits at an object that isn't made yet
abbrev pub WaitsForOld : ℕ → Task → Type 0
WaitsForOld next t = (place : Place) → t.wait ≡ Some place → AtObject place → place.id < next

-- the invariant
pub record IsKept (s : Scene) : Type 0 where
  pub kern : IsKern s.kern
  -- ids rise along the queues, and are below the next one
  pub rising : Rises s.queues.queues
  pub ids : IdsBelow s.kern.next_id s.queues.queues
  pub sound : All (λ r. IsQueue r.1) s.queues.queues
  -- no task has two requests
  pub single : AllPairs (λ a b. a.who ≡ b.who → ⊥) s.queues.asks
  pub well : All (WaitsWell (length s.ram) s.queues) s.kern.tasks
  pub live : All (SendsToLive s.queues) s.kern.tasks
  pub old_ids : All (WaitsForOld s.kern.next_id) s.kern.tasks

-- the caller, if it is a task, is ready
abbrev pub IsCaller : KernState → Option ℕ → Type 0
IsCaller k None = Unit {0}
IsCaller k (Some who) = (t : Task) × (task_of k.tasks who ≡ Some t) × (is_ready t ≡ true)

-- ---- everything else that the kernel does
-- the task with this id is among these and waited there
abbrev pub Waited : List Task → ℕ → Place → Type 0
Waited ts who place = (u : Task) × Contains ts u × (u.id ≡ who) × (u.wait ≡ Some place)

-- a wait at a live object that isn't a queue
abbrev pub IsElsewhere : List (ℕ × QueueState) → ℕ → Place → Type 0
IsElsewhere rs next place =
    AtObject place → (place.side ≡ object_side) × (place.id < next) × (object_of rs place.id ≡ None)

-- the task waited at this place before, or the place isn't at a queue
abbrev pub BeginsNone : List (ℕ × QueueState) → KernState → ℕ → Task → Type 0
BeginsNone rs k next t = (place : Place) → t.wait ≡ Some place → Waited k.tasks t.id place ⊎ IsElsewhere rs next place

-- what can happen between two calls on queues: anything that begins no wait at a queue
pub record IsCalm (rs : List (ℕ × QueueState)) (k l : KernState) : Type 0 where
  pub kern : IsKern l
  pub ids : k.next_id ≤ l.next_id
  pub waits : All (BeginsNone rs k l.next_id) l.tasks
