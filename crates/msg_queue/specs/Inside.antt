-- What is inside a queue, and how the code represents what a call will do.
use Rattle.std.specs.Prelude.{◌≡◌, ℕ, ◌+◌, ◌<◌, ◌≤◌, Bool, not, List, map, length}
use Rattle.std.specs.List.{All}
use Rattle.msg_queue.specs.declared.asks.Ask.{Ask}
use Rattle.msg_queue.specs.declared.plans.SendPlan.{SendPlan}
use Rattle.msg_queue.specs.declared.plans.SendPlan.TheVariants as send
use Rattle.msg_queue.specs.declared.plans.ReceivePlan.{ReceivePlan}
use Rattle.msg_queue.specs.declared.plans.ReceivePlan.TheVariants as receive
use Rattle.msg_queue.specs.declared.words.Sending.{Sending}
use Rattle.msg_queue.specs.declared.words.Receiving.{Receiving}
use Rattle.msg_queue.specs.State.{QueueState, QueuesState}
use Rattle.msg_queue.specs.Sends.{SendDeed, declined, passed_on, queued, blocked, send_ask}
use Rattle.msg_queue.specs.Receives.{ReceiveDeed, denied, taken, starved, receive_ask}

-- ---- a queue's messages, and the empty ones for those that can still be added
-- a message and its room in bytes
pub record Slot : Type 0 where
  pub bytes : List ℕ
  pub room : ℕ

-- the bytes of messages
abbrev pub texts : List Slot → List (List ℕ)
texts ms = map (λ m. m.bytes) ms

-- what a contract sees of a queue, from its parts
abbrev pub queue_in : Bool → ℕ → ℕ → List Slot → QueueState
queue_in by_priority max_msgs max_len ms = record {
  by_priority = by_priority;
  max_msgs = max_msgs;
  max_len = max_len;
  held = texts ms;
}

-- there is an empty message for each that can still be added
pub record IsStocked (max_msgs max_len : ℕ) (held spare : List Slot) : Type 0 where
  pub some : 0 < max_msgs
  pub all : length held + length spare ≡ max_msgs
  pub short : All (λ m. length m.bytes ≤ max_len) held
  pub roomy_held : All (λ m. max_len ≤ m.room) held
  pub roomy_spare : All (λ m. max_len ≤ m.room) spare

-- what a contract sees of the queues, from a table's rows and the requests
abbrev pub queues_in : List (ℕ × QueueState) → List Ask → QueuesState
queues_in rs asks = record { queues = rs; asks = asks }

-- ---- what a call will do, as the code represents it: with the queue's id and the caller's request
-- what a send will do, in the code
abbrev pub send_plan : ℕ → Sending → SendDeed → SendPlan
send_plan id x (declined e) = send.Declined e
send_plan id x (passed_on a) = send.PassedOn a
send_plan id x (queued q) = send.Queued id
send_plan id x (blocked who q) = send.Blocked (send_ask id who x) (not q.by_priority)

-- what a receive will do, in the code
abbrev pub receive_plan : ℕ → Receiving → ReceiveDeed → ReceivePlan
receive_plan id x (denied e) = receive.Denied e
receive_plan id x (taken q m rest) = receive.Taken id
receive_plan id x (starved q) = receive.Starved (receive_ask id x) (not q.by_priority)
