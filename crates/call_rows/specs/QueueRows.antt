-- The rows of the calls on message queues.
use Rattle.std.specs.Prelude.{ℕ, ◌<◌, ◌^◌, ◌==◌, length, Option, None, Some, Result, Ok, Err}
use Rattle.wind_base.specs.Limits.{ok_word}
use Rattle.wind_base.specs.declared.errno.Errno.{Errno}
use Rattle.wind_base.specs.declared.errno.Errno.TheVariants as errors
use Rattle.msg_queue.specs.declared.words.Sending.{Sending}
use Rattle.msg_queue.specs.declared.words.Receiving.{Receiving}
use Rattle.wind_core.specs.declared.took.Took.{Took}
use Rattle.msg_queue.specs.declared.words.Got.{Got}
use Rattle.msg_queue.specs.declared.words.Got.TheVariants as got
use Rattle.msg_queue.specs.State.{QueueState, Scene, queue_of}
use Rattle.msg_queue.specs.Kept.{IsKept}
use Rattle.msg_queue.specs.Sends.{send_deed, send_answer, send}
use Rattle.msg_queue.specs.Receives.{receive_deed, receive_answer, receive}
use Rattle.msg_queue.specs.Comings.{create_refusal, new_queue, created, delete, count_of}
use Rattle.kernel_world.specs.Actors.{Acts, MayCall}
use Rattle.kernel_world.specs.declared.actor.Actor.{Actor}
use Rattle.kernel_world.specs.declared.actor.Actor.TheVariants.{Task, Interrupt}
use Rattle.kernel_world.specs.declared.reply.Reply.{Reply}
use Rattle.kernel_world.specs.declared.reply.Reply.TheVariants.{Answer, Refusal, Later}
use Rattle.call_rows.specs.Unless.{unless}
use Rattle.call_rows.specs.SemRows.{took_reply}

-- tasks, queues and RAM after the effect of a call, and how its caller is answered
pub record QueueRow : Type 0 where
  pub scene : Scene
  pub reply : Reply

abbrev pub row_of : Scene → Reply → QueueRow
row_of s r = record { scene = s; reply = r }

-- a caller may send or receive: it is ready if it is a task, the queues' invariant holds, and the counters are far from
-- overflow
abbrev pub MayUseQueues : Scene → Actor → Type 0
MayUseQueues s a = Acts s.kern a × MayCall s.kern a × IsKept s × (s.kern.next_since < 2 ^ 62) × (s.kern.tick < 2 ^ 62)

-- ---- msgQCreate
abbrev pub create_row : Scene → ℕ → ℕ → ℕ → QueueRow
create_row s max_msgs max_len options =
    unless (create_refusal (length s.queues.queues) s.kern.next_id max_msgs max_len options) (λ e. row_of s (Refusal e))
    (row_of (created s (new_queue max_msgs max_len options)) (Answer s.kern.next_id))

-- ---- msgQSend: the caller, if it is a task; priority 1 is urgent, any other is normal
abbrev pub task_in : Actor → Option ℕ
task_in (Task who) = Some who
task_in Interrupt = None

abbrev pub urgent_priority : ℕ
urgent_priority = 1

abbrev pub sending : Actor → ℕ → ℕ → ℕ → ℕ → Sending
sending a buffer count timeout pri =
    record { caller = task_in a; buffer = buffer; count = count; timeout = timeout; urgent = pri == urgent_priority }

abbrev pub send_reply : Result Took Errno → Reply
send_reply (Err e) = Refusal e
send_reply (Ok took) = took_reply took

abbrev pub send_row : Scene → ℕ → Sending → QueueRow
send_row s id x = row_of (send s id x) (send_reply (send_answer (send_deed s id x)))

-- ---- msgQReceive
abbrev pub receive_reply : Result Got Errno → Reply
receive_reply (Err e) = Refusal e
receive_reply (Ok (got.Count n)) = Answer n
receive_reply (Ok got.Pended) = Later

abbrev pub receive_by : Scene → ℕ → Receiving → QueueRow
receive_by s id x = row_of (receive s id x) (receive_reply (receive_answer x (receive_deed s id x)))

abbrev pub receive_row : Scene → Actor → ℕ → ℕ → ℕ → ℕ → QueueRow
receive_row s (Task who) id buffer count timeout = receive_by s id (record { caller = who; buffer = buffer; room = count; timeout = timeout })
receive_row s Interrupt id buffer count timeout = row_of s (Refusal errors.NotIsrCallable)

-- ---- msgQDelete and msgQNumMsgs
abbrev pub delete_reply : Option QueueState → Reply
delete_reply None = Refusal errors.ObjIdError
delete_reply (Some q) = Answer ok_word

abbrev pub delete_row : Scene → ℕ → QueueRow
delete_row s id = row_of (delete s id) (delete_reply (queue_of s id))

abbrev pub count_reply : Result ℕ Errno → Reply
count_reply (Err e) = Refusal e
count_reply (Ok n) = Answer n

abbrev pub count_row : Scene → ℕ → QueueRow
count_row s id = row_of s (count_reply (count_of (queue_of s id)))
