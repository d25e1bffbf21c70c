-- The rows of the calls on watchdogs.
use Rattle.std.specs.Prelude.{ℕ, ◌+◌, length, Option, None, Some}
use Rattle.wind_base.specs.Limits.{ok_word}
use Rattle.wind_base.specs.declared.errno.Errno.TheVariants as errors
use Rattle.wind_core.specs.State.{KernState}
use Rattle.isr_watch.specs.declared.watchdog.Watchdog.{Watchdog}
use Rattle.isr_watch.specs.declared.watchdog.Routine.{Routine}
use Rattle.isr_watch.specs.State.{WatchState, watchdog_of}
use Rattle.isr_watch.specs.Calls.{create_refusal, created, delete, start, cancel}
use Rattle.kernel_world.specs.declared.reply.Reply.{Reply}
use Rattle.kernel_world.specs.declared.reply.Reply.TheVariants.{Answer, Refusal}
use Rattle.call_rows.specs.Unless.{unless}

-- tasks and watchdogs after the effect of a call, and how its caller is answered
pub record WatchRow : Type 0 where
  pub kern : KernState
  pub watch : WatchState
  pub reply : Reply

abbrev pub row_of : KernState → WatchState → Reply → WatchRow
row_of k s r = record { kern = k; watch = s; reply = r }

-- wdCreate: the watchdog has the next id
abbrev pub create_row : KernState → WatchState → WatchRow
create_row k s =
    unless (create_refusal (length s.watchdogs) k.next_id) (λ e. row_of k s (Refusal e))
    (row_of (record k { next_id = k.next_id + 1 }) (created s k.next_id) (Answer k.next_id))

-- the other calls are refused if no watchdog with the id lives
abbrev pub live_reply : Option Watchdog → Reply
live_reply None = Refusal errors.ObjIdError
live_reply (Some w) = Answer ok_word

-- wdStart: the delay counts from this tick
abbrev pub routine_of : ℕ → ℕ → Routine
routine_of entry param = record { entry = entry; param = param }

abbrev pub start_row : KernState → WatchState → ℕ → ℕ → Routine → WatchRow
start_row k s id delay routine = row_of k (start s id k.tick delay routine) (live_reply (watchdog_of s.watchdogs id))

-- wdCancel
abbrev pub cancel_row : KernState → WatchState → ℕ → WatchRow
cancel_row k s id = row_of k (cancel s id) (live_reply (watchdog_of s.watchdogs id))

-- wdDelete
abbrev pub delete_row : KernState → WatchState → ℕ → WatchRow
delete_row k s id = row_of k (delete s id) (live_reply (watchdog_of s.watchdogs id))
