-- The sides of a place at which tasks wait.
use Rattle.std.specs.Prelude.{ℕ}

-- for a semaphore or a mutex, or to receive from a message queue
abbrev pub object_side : ℕ
object_side = 0

-- to send to a message queue
abbrev pub senders_side : ℕ
senders_side = 1

-- for the deletion of a task that is protected from it
abbrev pub deletion_side : ℕ
deletion_side = 2

-- for a console line
abbrev pub console_side : ℕ
console_side = 3
