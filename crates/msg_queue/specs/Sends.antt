-- A send (VxWorks 5.4 Reference Manual, msgQSend): what it will do, and what that changes. Its errors are this project's own table.
use Rattle.std.specs.Prelude.{ℕ, Bool, not, ◌&&◌, ◌==◌, nat_lt, min, if◌then◌else◌, List, length, take, Option, None, Some, is_none, Result, Ok, Err}
use Rattle.wind_base.specs.Limits.{no_wait}
use Rattle.wind_base.specs.declared.errno.Errno.{Errno}
use Rattle.wind_base.specs.declared.errno.Errno.TheVariants as errors
use Rattle.board_mem.specs.Memory.{bytes_at}
use Rattle.msg_queue.specs.declared.asks.Ask.{Ask}
use Rattle.msg_queue.specs.declared.words.Sending.{Sending}
use Rattle.wind_core.specs.declared.took.Took.{Took}
use Rattle.wind_core.specs.declared.took.Took.TheVariants as took
use Rattle.msg_queue.specs.State.{QueueState, Scene, queue_of, lies_in, size_of, is_full, added, receivers, senders, first_asking, with_queue, stored, served, waiting}

-- what a send will do
pub data SendDeed : Type 0 where
  -- it is refused
  declined : Errno → SendDeed
  -- the first waiting receiver, whose request this is, gets the bytes
  passed_on : Ask → SendDeed
  -- the bytes are added to the queue
  queued : QueueState → SendDeed
  -- the caller waits for room
  blocked : ℕ → QueueState → SendDeed

-- why a send to a live queue is refused; `size` is the size of RAM in bytes, `stuck` says that it can't be done at once
abbrev pub send_refusal : ℕ → Sending → Bool → QueueState → Option Errno
send_refusal size x stuck q =
    if nat_lt q.max_len x.count then Some errors.InvalidMsgLength
    else if is_none x.caller && not (x.timeout == no_wait) then Some errors.NonZeroTimeout
    else if not (lies_in size x.buffer x.count) then Some errors.BadAddress
    else if stuck && x.timeout == no_wait then Some errors.ObjUnavailable
    else None

-- if no receiver waits, the bytes are added, or the caller waits
abbrev pub queued_or_blocked : QueueState → Option ℕ → SendDeed
queued_or_blocked q None = queued q
queued_or_blocked q (Some who) = if is_full q then blocked who q else queued q

-- what it will do, by whether a receiver waits
abbrev pub sends_to : QueueState → Sending → Option Ask → SendDeed
sends_to q x None = queued_or_blocked q x.caller
sends_to q x (Some a) = passed_on a

-- what a send will do, given the first receiver's request and its refusal
abbrev pub sends_unless : QueueState → Sending → Option Ask → Option Errno → SendDeed
sends_unless q x first None = sends_to q x first
sends_unless q x first (Some e) = declined e

-- what a send will do, given the first receiver's request and the live queue; `size` is the size of RAM in bytes
abbrev pub sends_at : ℕ → Sending → Option Ask → Option QueueState → SendDeed
sends_at size x first None = declined errors.ObjIdError
sends_at size x first (Some q) = sends_unless q x first (send_refusal size x (is_none first && is_full q) q)

-- what a send will do
abbrev pub send_deed : Scene → ℕ → Sending → SendDeed
send_deed s id x = sends_at (size_of s) x (first_asking s (receivers id)) (queue_of s id)

-- the bytes to send
abbrev pub sent_bytes : Scene → Sending → List ℕ
sent_bytes s x = bytes_at s.ram x.buffer x.count

-- the bytes are copied to a receiver's buffer, as many as it has room for; its wait ends with their number as the result
abbrev pub handed : Scene → List ℕ → Ask → Scene
handed s m a = served (stored s a.buffer (take a.count m)) a.who (min (length m) a.count)

-- the request of a sender that waits
abbrev pub send_ask : ℕ → ℕ → Sending → Ask
send_ask id who x = record { who = who; place = senders id; buffer = x.buffer; count = x.count; urgent = x.urgent }

-- the state after what a send does
abbrev pub after_send : Scene → ℕ → Sending → SendDeed → Scene
after_send s id x (declined e) = s
after_send s id x (passed_on a) = handed s (sent_bytes s x) a
after_send s id x (queued q) = with_queue s id (added x.urgent (sent_bytes s x) q)
after_send s id x (blocked who q) = waiting s (send_ask id who x) (not q.by_priority) x.timeout

-- the state after a send
abbrev pub send : Scene → ℕ → Sending → Scene
send s id x = after_send s id x (send_deed s id x)

-- its result: an error, or whether the caller waits
abbrev pub send_answer : SendDeed → Result Took Errno
send_answer (declined e) = Err e
send_answer (passed_on a) = Ok took.Taken
send_answer (queued q) = Ok took.Taken
send_answer (blocked who q) = Ok took.Pended
