-- What a contract sees of the message queues.
use Rattle.std.specs.Prelude.{ℕ, ◌+◌, Bool, false, ◌||◌, ◌==◌, nat_le, if◌then◌else◌, List, [], ◌∷◌, ◌++◌, length, Option, None, Some}
use Rattle.std.specs.List.{filter, find}
use Rattle.id_table.specs.Rows.{object_of, with_object}
use Rattle.id_table.specs.Sides.{object_side, senders_side}
use Rattle.id_table.specs.declared.ident.Place.{Place}
use Rattle.task_block.specs.declared.task.Task.{Task}
use Rattle.board_mem.specs.Memory.{with_bytes}
use Rattle.wind_core.specs.State.{KernState, task_of}
use Rattle.wind_core.specs.Orders.{waits_at, first_waiter}
use Rattle.wind_core.specs.Moves.{pend, end_wait}
use Rattle.msg_queue.specs.declared.asks.Ask.{Ask}

-- ---- the parts
-- one message queue
pub record QueueState : Type 0 where
  -- whether tasks wait by priority; if not, in order of arrival
  pub by_priority : Bool
  -- the greatest number of its messages, and the greatest length of each in bytes
  pub max_msgs : ℕ
  pub max_len : ℕ
  -- the bytes of each message that it holds, the first one first
  pub held : List (List ℕ)

-- the queues by rising id, and the requests of the waiting calls, the latest last
pub record QueuesState : Type 0 where
  pub queues : List (ℕ × QueueState)
  pub asks : List Ask

-- what a call on a queue reads and changes
pub record Scene : Type 0 where
  pub kern : KernState
  pub queues : QueuesState
  pub ram : List ℕ

-- the kernel, the queues and RAM together
abbrev pub scene : KernState → QueuesState → List ℕ → Scene
scene k qs ram = record { kern = k; queues = qs; ram = ram }

-- the live queue with this id
abbrev pub queue_of : Scene → ℕ → Option QueueState
queue_of s id = object_of s.queues.queues id

-- whether the n bytes from an address on are in a memory of this size: `has`, by the size alone
abbrev pub lies_in : ℕ → ℕ → ℕ → Bool
lies_in size at n = n == 0 || nat_le (at + n) size

-- the size of RAM in bytes
abbrev pub size_of : Scene → ℕ
size_of s = length s.ram

-- ---- a queue
-- a queue holds as many messages as it can
abbrev pub is_full : QueueState → Bool
is_full q = nat_le q.max_msgs (length q.held)

-- a message is added: an urgent one at the front, others at the back
abbrev pub added : Bool → List ℕ → QueueState → QueueState
added urgent m q = record q { held = if urgent then m ∷ q.held else q.held ++ m ∷ [] }

-- ---- which tasks wait
-- the place at which the receivers of a queue wait
abbrev pub receivers : ℕ → Place
receivers id = record { side = object_side; id = id }

-- the place at which the senders of a queue wait
abbrev pub senders : ℕ → Place
senders id = record { side = senders_side; id = id }

-- the request of a task's waiting call
abbrev pub ask_of : List Ask → ℕ → Option Ask
ask_of asks who = find (λ a. a.who == who) asks

-- the same, if there is such a task
abbrev pub asked_by : List Ask → Option Task → Option Ask
asked_by asks None = None
asked_by asks (Some t) = ask_of asks t.id

-- the request of the first task that waits at a place
abbrev pub first_asking : Scene → Place → Option Ask
first_asking s place = asked_by s.queues.asks (first_waiter s.kern.tasks place)

-- the task of a request still waits there
abbrev pub waits_there : Place → Option Task → Bool
waits_there place None = false
waits_there place (Some t) = waits_at place t

-- a request is valid as long as its task waits there
abbrev pub counts : KernState → Ask → Bool
counts k a = waits_there a.place (task_of k.tasks a.who)

-- a new request is added, and those that are no longer valid are removed
abbrev pub with_new_ask : KernState → List Ask → Ask → List Ask
with_new_ask k asks a = filter (counts k) asks ++ a ∷ []

-- ---- what changes
-- the queue with an id is replaced
abbrev pub with_queue : Scene → ℕ → QueueState → Scene
with_queue s id q = record s { queues = record s.queues { queues = with_object s.queues.queues id q } }

-- bytes are written from an address on
abbrev pub stored : Scene → ℕ → List ℕ → Scene
stored s at bytes = record s { ram = with_bytes s.ram at bytes }

-- the wait of a task ends with a result and no error
abbrev pub served : Scene → ℕ → ℕ → Scene
served s who answer = record s { kern = end_wait s.kern who answer None }

-- the caller begins to wait, with this request
abbrev pub waiting : Scene → Ask → Bool → ℕ → Scene
waiting s a fifo timeout = record s {
  kern = pend s.kern a.who a.place fifo timeout;
  queues = record s.queues { asks = with_new_ask s.kern s.queues.asks a };
}
