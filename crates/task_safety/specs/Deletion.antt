-- The deletion of a task (Reference Manual, taskDelete).
use Rattle.std.specs.Prelude.{ℕ, Bool, true, false, ◌==◌, if◌then◌else◌, List, Option, None, Some, Result, Ok, Err}
use Rattle.std.specs.Option.{option_map}
use Rattle.id_table.specs.Idents.{shell_id}
use Rattle.wind_base.specs.Limits.{wait_forever}
use Rattle.wind_base.specs.declared.errno.Errno.{Errno}
use Rattle.wind_base.specs.declared.errno.Errno.TheVariants as errors
use Rattle.task_block.specs.declared.task.Task.{Task}
use Rattle.wind_core.specs.State.{KernState, task_of}
use Rattle.wind_core.specs.Moves.{set_again, pend, remove}
use Rattle.task_safety.specs.declared.deleting.Deed.{Deed}
use Rattle.task_safety.specs.declared.deleting.Deed.TheVariants.{Refuses, EndsItself, Removes, Awaits}
use Rattle.task_safety.specs.declared.deleting.Deleted.{Deleted}
use Rattle.task_safety.specs.declared.deleting.Deleted.TheVariants.{Removed, Pended, SelfEnded}
use Rattle.task_safety.specs.Safety.{deletion, lessen}

-- whether a task's call is a repetition of a call that pended
abbrev pub again_of : Option Task → Bool
again_of None = false
again_of (Some t) = t.again

-- the live task with this number; no task has number 0
abbrev pub target_of : List Task → ℕ → Option Task
target_of ts n = if n == 0 then None else task_of ts n

-- ---- what a call does
-- the error if the target isn't live: it was deleted while the caller waited, or there was no such task
abbrev pub missing : Bool → Errno
missing again = if again then errors.ObjDeleted else errors.ObjIdError

-- the caller deletes itself; a task that isn't in a safe section is removed; one that is, is waited for
abbrev pub deed_on : ℕ → Task → Deed
deed_on caller t =
    if t.id == caller then EndsItself t.safe
    else if t.safe == 0 then Removes t.id
    else Awaits t.id

-- what a call does, given the task with its number
abbrev pub deed_at : ℕ → Bool → Option Task → Deed
deed_at caller again None = Refuses (missing again)
deed_at caller again (Some t) = deed_on caller t

-- the shell's task can't be deleted, whichever task calls
abbrev pub deed_of : List Task → ℕ → ℕ → Deed
deed_of ts caller n =
    if n == shell_id then Refuses errors.InvalidOperation
    else deed_at caller (again_of (task_of ts caller)) (target_of ts n)

-- the caller will repeat its call
abbrev pub is_repeated : Deed → Bool
is_repeated (Refuses e) = false
is_repeated (EndsItself count) = false
is_repeated (Removes who) = false
is_repeated (Awaits who) = true

-- ---- the kernel after the call
-- the caller's mark of a repeated call is cleared
abbrev pub asked : KernState → ℕ → KernState
asked s caller = set_again s caller false

-- a task's safe sections end
abbrev pub unguarded : KernState → ℕ → ℕ → KernState
unguarded s caller count = lessen (asked s caller) caller count

-- the caller waits until the task leaves its last safe section, and will then repeat its call
abbrev pub awaiting : KernState → ℕ → ℕ → KernState
awaiting s caller who = pend (set_again s caller true) caller (deletion who) false wait_forever

-- the kernel after what the call does
abbrev pub after : KernState → ℕ → Deed → KernState
after s caller (Refuses e) = asked s caller
after s caller (EndsItself count) = remove (unguarded s caller count) caller
after s caller (Removes who) = remove (asked s caller) who
after s caller (Awaits who) = awaiting s caller who

-- the caller deletes the task with this number
abbrev pub delete : KernState → ℕ → ℕ → KernState
delete s caller n = after s caller (deed_of s.tasks caller n)

-- ---- what the call returns
-- the record of the task that is removed is returned
abbrev pub handed_on : (Task → Deleted) → KernState → ℕ → Option (Result Deleted Errno)
handed_on as_deleted s who = option_map (λ t. Ok (as_deleted t)) (task_of s.tasks who)

-- the result of what the call does
abbrev pub answer_of : KernState → ℕ → Deed → Option (Result Deleted Errno)
answer_of s caller (Refuses e) = Some (Err e)
answer_of s caller (EndsItself count) = handed_on SelfEnded (unguarded s caller count) caller
answer_of s caller (Removes who) = handed_on Removed (asked s caller) who
answer_of s caller (Awaits who) = Some (Ok Pended)

-- the result of a call to delete the task with this number
abbrev pub delete_answer : KernState → ℕ → ℕ → Option (Result Deleted Errno)
delete_answer s caller n = answer_of s caller (deed_of s.tasks caller n)
