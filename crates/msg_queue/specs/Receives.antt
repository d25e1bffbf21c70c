-- A receive (VxWorks 5.4 Reference Manual, msgQReceive): what it will do, and what that changes. Its errors are this project's own table.
use Rattle.std.specs.Prelude.{ℕ, Bool, true, false, not, ◌&&◌, ◌==◌, min, if◌then◌else◌, List, [], ◌∷◌, length, take, Option, None, Some, Result, Ok, Err}
use Rattle.wind_base.specs.Limits.{no_wait, ok_word}
use Rattle.wind_base.specs.declared.errno.Errno.{Errno}
use Rattle.wind_base.specs.declared.errno.Errno.TheVariants as errors
use Rattle.board_mem.specs.Memory.{bytes_at}
use Rattle.msg_queue.specs.declared.asks.Ask.{Ask}
use Rattle.msg_queue.specs.declared.words.Receiving.{Receiving}
use Rattle.msg_queue.specs.declared.words.Got.{Got}
use Rattle.msg_queue.specs.declared.words.Got.TheVariants as got
use Rattle.msg_queue.specs.State.{QueueState, Scene, queue_of, lies_in, size_of, added, receivers, senders, first_asking, with_queue, stored, served, waiting}

-- what a receive will do
pub data ReceiveDeed : Type 0 where
  -- it is refused
  denied : Errno → ReceiveDeed
  -- the first message is taken from the queue, which holds it and then the rest
  taken : QueueState → List ℕ → List (List ℕ) → ReceiveDeed
  -- the caller waits for a message
  starved : QueueState → ReceiveDeed

-- there are no messages
abbrev pub is_empty : List (List ℕ) → Bool
is_empty [] = true
is_empty (m ∷ ms) = false

-- why a receive from a live queue is refused; `size` is the size of RAM in bytes
abbrev pub receive_refusal : ℕ → Receiving → QueueState → Option Errno
receive_refusal size x q =
    if not (lies_in size x.buffer (min x.room q.max_len)) then Some errors.BadAddress
    else if is_empty q.held && x.timeout == no_wait then Some errors.ObjUnavailable
    else None

-- what a receive will do if it isn't refused
abbrev pub takes_from : QueueState → List (List ℕ) → ReceiveDeed
takes_from q [] = starved q
takes_from q (m ∷ rest) = taken q m rest

-- what a receive will do, given its refusal
abbrev pub receives_unless : QueueState → Option Errno → ReceiveDeed
receives_unless q None = takes_from q q.held
receives_unless q (Some e) = denied e

-- what a receive will do, given the live queue; `size` is the size of RAM in bytes
abbrev pub receives_at : ℕ → Receiving → Option QueueState → ReceiveDeed
receives_at size x None = denied errors.ObjIdError
receives_at size x (Some q) = receives_unless q (receive_refusal size x q)

-- what a receive will do
abbrev pub receive_deed : Scene → ℕ → Receiving → ReceiveDeed
receive_deed s id x = receives_at (size_of s) x (queue_of s id)

-- as many bytes of the first message as there is room for are copied to the caller's buffer, and the message is removed
abbrev pub taken_out : Scene → ℕ → Receiving → QueueState → List ℕ → List (List ℕ) → Scene
taken_out s id x q m rest = with_queue (stored s x.buffer (take x.room m)) id (record q { held = rest })

-- the bytes of a waiting sender, as they are in RAM at that moment
abbrev pub waited_bytes : Scene → Ask → List ℕ
waited_bytes s a = bytes_at s.ram a.buffer a.count

-- the bytes of the first waiting sender are added, and its wait ends
abbrev pub refilled : Scene → ℕ → QueueState → Option Ask → Scene
refilled s id q None = s
refilled s id q (Some a) = served (with_queue s id (added a.urgent (waited_bytes s a) q)) a.who ok_word

-- the request of a receiver that waits
abbrev pub receive_ask : ℕ → Receiving → Ask
receive_ask id x = record { who = x.caller; place = receivers id; buffer = x.buffer; count = x.room; urgent = false }

-- the state after what a receive does
abbrev pub after_receive : Scene → ℕ → Receiving → ReceiveDeed → Scene
after_receive s id x (denied e) = s
after_receive s id x (taken q m rest) =
    refilled (taken_out s id x q m rest) id (record q { held = rest }) (first_asking s (senders id))
after_receive s id x (starved q) = waiting s (receive_ask id x) (not q.by_priority) x.timeout

-- the state after a receive
abbrev pub receive : Scene → ℕ → Receiving → Scene
receive s id x = after_receive s id x (receive_deed s id x)

-- its result: an error, the number of bytes copied, or that the caller waits
abbrev pub receive_answer : Receiving → ReceiveDeed → Result Got Errno
receive_answer x (denied e) = Err e
receive_answer x (taken q m rest) = Ok (got.Count (min (length m) x.room))
receive_answer x (starved q) = Ok got.Pended
