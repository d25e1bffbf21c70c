-- Creation, deletion and counting of queues (VxWorks 5.4 Reference Manual, msgQCreate, msgQDelete, msgQNumMsgs).
-- The limits and errors are this project's own.
use Rattle.std.specs.Prelude.{◌≡◌, ℕ, ◌+◌, ◌*◌, Bool, not, ◌&&◌, ◌==◌, nat_lt, nat_le, if◌then◌else◌, List, [], ◌∷◌, ◌++◌, length, Option, None, Some, Result, Ok, Err}
use Rattle.wind_base.specs.Limits.{most_queues, greatest_id, error_word}
use Rattle.wind_base.specs.declared.errno.Errno.{Errno}
use Rattle.wind_base.specs.declared.errno.Errno.TheVariants as errors
use Rattle.id_table.specs.Rows.{without}
use Rattle.wind_core.specs.State.{KernState}
use Rattle.wind_core.specs.Moves.{wake_all}
use Rattle.msg_queue.specs.declared.words.MakeErr.{MakeErr}
use Rattle.msg_queue.specs.declared.words.MakeErr.TheVariants as make
use Rattle.msg_queue.specs.State.{QueueState, QueuesState, Scene, scene, queue_of, receivers, senders}

-- ---- create
-- the option MSG_Q_PRIORITY; without it (MSG_Q_FIFO), tasks wait in order of arrival
abbrev pub priority_option : ℕ
priority_option = 1

-- the greatest number of messages of a queue
abbrev pub most_messages : ℕ
most_messages = 4096

-- the greatest length in bytes of a message
abbrev pub longest_message : ℕ
longest_message = 65536

-- the greatest size in bytes of all messages of a queue together
abbrev pub most_queue_bytes : ℕ
most_queue_bytes = 1048576

-- the sizes that a queue can have
abbrev pub is_size : ℕ → ℕ → Bool
is_size max_msgs max_len =
    nat_le 1 max_msgs && (nat_le max_msgs most_messages
    && (nat_le max_len longest_message && nat_le (max_msgs * max_len) most_queue_bytes))

-- no id is left, if this one is next
abbrev pub ids_refusal : ℕ → Option Errno
ids_refusal next_id = if nat_lt greatest_id next_id then Some errors.IdsSpent else None

-- why no queue can be made, from the number of live queues, the next id and the arguments
abbrev pub create_refusal : ℕ → ℕ → ℕ → ℕ → ℕ → Option Errno
create_refusal live next_id max_msgs max_len options =
    if nat_lt priority_option options then Some errors.InvalidOption
    else if not (is_size max_msgs max_len) then Some errors.BadSize
    else if nat_le most_queues live then Some errors.TooMany
    else ids_refusal next_id

-- an empty queue with this size and these options
abbrev pub new_queue : ℕ → ℕ → ℕ → QueueState
new_queue max_msgs max_len options = record {
  by_priority = options == priority_option;
  max_msgs = max_msgs;
  max_len = max_len;
  held = [];
}

-- the queue is added under the next id
abbrev pub created : Scene → QueueState → Scene
created s q = record s {
  kern = record s.kern { next_id = s.kern.next_id + 1 };
  queues = record s.queues { queues = s.queues.queues ++ (s.kern.next_id, q) ∷ [] };
}

-- the property of a refusal; it says nothing if memory ran out
abbrev pub IfRefused : MakeErr → (Errno → Type 0) → Type 0
IfRefused (make.Refused e) P = P e
IfRefused make.NoMemory P = Unit {0}

-- a queue was made, with this id
abbrev pub IsMade : KernState → KernState → QueuesState → QueuesState → ℕ → ℕ → ℕ → ℕ → Type 0
IsMade k l qs us max_msgs max_len options id =
    (create_refusal (length qs.queues) k.next_id max_msgs max_len options ≡ None) × (id ≡ k.next_id)
    × ((ram : List ℕ) → scene l us ram ≡ created (scene k qs ram) (new_queue max_msgs max_len options))

-- no queue was made, and nothing changed; the call was refused for its reason, or memory ran out
abbrev pub IsNotMade : KernState → KernState → QueuesState → QueuesState → ℕ → ℕ → ℕ → MakeErr → Type 0
IsNotMade k l qs us max_msgs max_len options e =
    (l ≡ k) × (us ≡ qs) × IfRefused e (λ r. create_refusal (length qs.queues) k.next_id max_msgs max_len options ≡ Some r)

-- ---- delete
-- the waits at the queue end with ERROR and OBJ_DELETED: those of the receivers, then those of the senders
abbrev pub awakened : KernState → ℕ → KernState
awakened k id =
    wake_all (wake_all k (receivers id) error_word (Some errors.ObjDeleted)) (senders id) error_word (Some errors.ObjDeleted)

-- then the queue is removed
abbrev pub gone : Scene → ℕ → Scene
gone s id = record s {
  kern = awakened s.kern id;
  queues = record s.queues { queues = without s.queues.queues id };
}

-- the same, given the live queue
abbrev pub deleted : Scene → ℕ → Option QueueState → Scene
deleted s id None = s
deleted s id (Some q) = gone s id

-- the state after a deletion; unchanged if there is no such queue
abbrev pub delete : Scene → ℕ → Scene
delete s id = deleted s id (queue_of s id)

-- ---- count
-- the number of messages of a queue
abbrev pub count_of : Option QueueState → Result ℕ Errno
count_of None = Err errors.ObjIdError
count_of (Some q) = Ok (length q.held)
