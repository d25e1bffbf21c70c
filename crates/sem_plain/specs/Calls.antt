-- What the calls on binary and counting semaphores return, and the state after them (VxWorks 5.4 Reference Manual, semLib).
use Rattle.std.specs.Prelude.{◌==◌, ℕ, ◌+◌, ◌-◌, not, if◌then◌else◌, [], ◌∷◌, ◌++◌, length, Option, None, Some}
use Rattle.wind_base.specs.Limits.{most_semaphores, greatest_word, error_word, ok_word, no_wait, wait_forever}
use Rattle.wind_base.specs.SemBits.{is_priority}
use Rattle.wind_base.specs.declared.errno.Errno.{Errno}
use Rattle.wind_base.specs.declared.errno.Errno.TheVariants as errors
use Rattle.wind_base.specs.declared.semaphore.SemKind.{SemKind}
use Rattle.wind_base.specs.declared.semaphore.SemKind.TheVariants as kinds
use Rattle.wind_base.specs.declared.semaphore.SemOptions.{SemOptions}
use Rattle.id_table.specs.Rows.{add_refusal, object_of, with_object, without}
use Rattle.task_block.specs.declared.task.Task.{Task}
use Rattle.wind_core.specs.Orders.{first_waiter}
use Rattle.wind_core.specs.Moves.{pend, end_wait, wake_all}
use Rattle.sem_plain.specs.declared.semaphore.Semaphore.{Semaphore}
use Rattle.wind_core.specs.declared.took.Took.{Took}
use Rattle.wind_core.specs.declared.took.Took.TheVariants.{Taken, Pended}
use Rattle.sem_plain.specs.State.{SemState, sem_place}

-- the live semaphore with an id
abbrev pub live : SemState → ℕ → Option Semaphore
live s id = object_of s.semaphores id

-- the semaphore with an id is replaced by another
abbrev pub written : SemState → ℕ → Semaphore → SemState
written s id v = record s { semaphores = with_object s.semaphores id v }

-- ---- create
-- a semaphore of this kind, with these options and this count
abbrev pub new_semaphore : SemKind → SemOptions → ℕ → Semaphore
new_semaphore kind options count = record { kind = kind; options = options; count = count }

-- the limit of live semaphores is reached, otherwise no id is left
abbrev pub create_refusal : SemState → Option Errno
create_refusal s = add_refusal most_semaphores (length s.semaphores) s.kern.next_id

-- the semaphore gets the next id, and goes last, since ids rise
abbrev pub create : SemState → Semaphore → SemState
create s v = record {
  kern = record s.kern { next_id = s.kern.next_id + 1 };
  semaphores = s.semaphores ++ (s.kern.next_id, v) ∷ [];
}

-- ---- take
-- what a take does
pub data TakeDeed : Type 0 where
  -- it is refused
  declined : Errno → TakeDeed
  -- it gets the semaphore
  taken : Semaphore → TakeDeed
  -- the caller waits for the semaphore
  starved : Semaphore → TakeDeed

-- what a take with this timeout does, given the live semaphore: if its count is 0, the caller waits or is refused
abbrev pub take_deed : ℕ → Option Semaphore → TakeDeed
take_deed n None = declined errors.ObjIdError
take_deed n (Some v) =
    if v.count == 0 then (if n == no_wait then declined errors.ObjUnavailable else starved v)
    else taken v

-- the error of a take that is refused
abbrev pub take_error : TakeDeed → Option Errno
take_error (declined e) = Some e
take_error (taken v) = None
take_error (starved v) = None

-- why a take with this timeout is refused
abbrev pub take_refusal : SemState → ℕ → ℕ → Option Errno
take_refusal s id n = take_error (take_deed n (live s id))

-- whether it gets the semaphore; otherwise the caller waits
abbrev pub took_by : TakeDeed → Took
took_by (declined e) = Pended
took_by (taken v) = Taken
took_by (starved v) = Pended

-- whether a take that may wait gets the semaphore or waits
abbrev pub took : SemState → ℕ → Took
took s id = took_by (take_deed wait_forever (live s id))

-- the semaphore's count is one lower
abbrev pub counted_down : Semaphore → Semaphore
counted_down v = record v { count = v.count - 1 }

-- the task begins to wait for it: by priority or in order of arrival, as its options say
abbrev pub awaited : SemState → ℕ → ℕ → ℕ → Semaphore → SemState
awaited s who id n v = record s { kern = pend s.kern who (sem_place id) (not (is_priority v.options)) n }

-- the state after what a take by this task with this timeout does
abbrev pub after_take : SemState → ℕ → ℕ → ℕ → TakeDeed → SemState
after_take s who id n (declined e) = s
after_take s who id n (taken v) = written s id (counted_down v)
after_take s who id n (starved v) = awaited s who id n v

-- the state after this task's take with this timeout
abbrev pub take : SemState → ℕ → ℕ → ℕ → SemState
take s who id n = after_take s who id n (take_deed n (live s id))

-- ---- give
-- what a give does
pub data GiveDeed : Type 0 where
  -- it is refused
  denied : Errno → GiveDeed
  -- the first waiting task gets the semaphore
  passed_on : Task → GiveDeed
  -- no task waits, and the count rises
  counted : Semaphore → GiveDeed

-- what a give does to a live semaphore, given the first waiting task: without one, the greatest count can't rise
abbrev pub give_to : Semaphore → Option Task → GiveDeed
give_to v (Some t) = passed_on t
give_to v None = if v.count == greatest_word then denied errors.CountOver else counted v

-- what a give does, given the first waiting task and the live semaphore
abbrev pub give_deed : Option Task → Option Semaphore → GiveDeed
give_deed next None = denied errors.ObjIdError
give_deed next (Some v) = give_to v next

-- the task that gets the semaphore next
abbrev pub next_of : SemState → ℕ → Option Task
next_of s id = first_waiter s.kern.tasks (sem_place id)

-- the error of a give that is refused
abbrev pub give_error : GiveDeed → Option Errno
give_error (denied e) = Some e
give_error (passed_on t) = None
give_error (counted v) = None

-- why a give is refused
abbrev pub give_refusal : SemState → ℕ → Option Errno
give_refusal s id = give_error (give_deed (next_of s id) (live s id))

-- the count after a give: 1 for a binary semaphore, one more for a counting one
abbrev pub count_after_give : SemKind → ℕ → ℕ
count_after_give kinds.Binary n = 1
count_after_give kinds.Counting n = n + 1
count_after_give kinds.Mutex n = n + 1

-- the semaphore after a give that no task waits for
abbrev pub counted_up : Semaphore → Semaphore
counted_up v = record v { count = count_after_give v.kind v.count }

-- the state after what a give does: a task that gets the semaphore goes on with the result 0
abbrev pub after_give : SemState → ℕ → GiveDeed → SemState
after_give s id (denied e) = s
after_give s id (passed_on t) = record s { kern = end_wait s.kern t.id ok_word None }
after_give s id (counted v) = written s id (counted_up v)

-- the state after a give
abbrev pub give : SemState → ℕ → SemState
give s id = after_give s id (give_deed (next_of s id) (live s id))

-- ---- flush and delete
-- there is no such semaphore
abbrev pub missing : Option Semaphore → Option Errno
missing None = Some errors.ObjIdError
missing (Some v) = None

-- why a flush is refused
abbrev pub flush_refusal : SemState → ℕ → Option Errno
flush_refusal s id = missing (live s id)

-- the waits for it end with the result 0, in their order
abbrev pub flush : SemState → ℕ → SemState
flush s id = record s { kern = wake_all s.kern (sem_place id) ok_word None }

-- why a deletion is refused
abbrev pub delete_refusal : SemState → ℕ → Option Errno
delete_refusal s id = missing (live s id)

-- the waits for it end with ERROR and OBJ_DELETED, in their order, and the semaphore is removed
abbrev pub delete : SemState → ℕ → SemState
delete s id = record {
  kern = wake_all s.kern (sem_place id) error_word (Some errors.ObjDeleted);
  semaphores = without s.semaphores id;
}
