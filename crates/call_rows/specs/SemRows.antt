-- The rows of the calls on semaphores and mutexes, and of taskPrioritySet, whose priority the owners of mutexes
-- inherit, under profile 1 at once.
use Rattle.std.specs.Prelude.{◌≡◌, ℕ, List, Bool, false, nat_le, if◌then◌else◌, Option, None, Some, is_some}
use Rattle.wind_base.specs.Limits.{least_urgent, ok_word}
use Rattle.wind_base.specs.SemBits.{read_options}
use Rattle.call_rows.specs.Unless.{unless}
use Rattle.wind_base.specs.declared.errno.Errno.{Errno}
use Rattle.wind_base.specs.declared.errno.Errno.TheVariants as errors
use Rattle.wind_base.specs.declared.semaphore.SemKind.TheVariants as kinds
use Rattle.wind_base.specs.declared.semaphore.SemOptions.{SemOptions}
use Rattle.id_table.specs.Rows.{IdsBelow, object_of}
use Rattle.wind_core.specs.State.{KernState}
use Rattle.wind_core.specs.declared.took.Took.{Took}
use Rattle.wind_core.specs.declared.took.Took.TheVariants.{Taken, Pended}
use Rattle.kernel_world.specs.SemPlainSemaphore.{Semaphore}
use Rattle.kernel_world.specs.SemPlainState.{SemState, both as with_semaphores}
use Rattle.kernel_world.specs.SemPlainCalls as plain
use Rattle.kernel_world.specs.InheritanceMutexes.{MutexState, LiveMutexes, both as with_mutexes}
use Rattle.kernel_world.specs.SemMutexCalls as mutex
use Rattle.kernel_world.specs.SemMutexMaking as making
use Rattle.kernel_world.specs.declared.objects.Objects.{Objects}
use Rattle.kernel_world.specs.declared.actor.Actor.{Actor}
use Rattle.kernel_world.specs.declared.actor.Actor.TheVariants.{Task, Interrupt}
use Rattle.kernel_world.specs.declared.reply.Reply.{Reply}
use Rattle.kernel_world.specs.declared.reply.Reply.TheVariants.{Answer, Refusal, Later}

-- the kernel and its objects after the effect of a call, and how its caller is answered
pub record ObjectRow : Type 0 where
  pub kern : KernState
  pub objects : Objects
  pub reply : Reply

abbrev pub row_of : KernState → Objects → Reply → ObjectRow
row_of k o r = record { kern = k; objects = o; reply = r }

abbrev pub refused : KernState → Objects → Errno → ObjectRow
refused k o e = row_of k o (Refusal e)

-- only the semaphores change, or only the mutexes
abbrev pub by_semaphores : Objects → SemState → Reply → ObjectRow
by_semaphores o s reply = row_of s.kern (record o { semaphores = s.semaphores }) reply

abbrev pub live_in : MutexState → LiveMutexes
live_in s = record { profile = s.profile; rows = s.mutexes }

abbrev pub by_mutexes : Objects → MutexState → Reply → ObjectRow
by_mutexes o s reply = row_of s.kern (record o { mutexes = live_in s }) reply

abbrev pub sems : KernState → Objects → SemState
sems k o = with_semaphores k o.semaphores

abbrev pub mutexes : KernState → Objects → MutexState
mutexes k o = with_mutexes k o.mutexes

-- the number is the id of a live mutex
abbrev pub is_mutex : Objects → ℕ → Bool
is_mutex o id = is_some (object_of o.mutexes.rows id)

-- a call that only a task may make
abbrev pub of_task : KernState → Objects → Actor → (ℕ → ObjectRow) → ObjectRow
of_task k o (Task who) f = f who
of_task k o Interrupt f = refused k o errors.NotIsrCallable

-- ---- a semaphore is made
-- the next id is a new one: the kernel has its ids, and the id of each of these objects is below the next
abbrev pub IdsAreNew : {T : Type 0} → KernState → List (ℕ × T) → Type 0
IdsAreNew k rows = (k.lent ≡ false) × IdsBelow k.next_id rows

abbrev pub made : KernState → Objects → Semaphore → ObjectRow
made k o v =
    unless (plain.create_refusal (sems k o)) (refused k o)
    (by_semaphores o (plain.create (sems k o) v) (Answer k.next_id))

-- semBCreate: initially empty or full
abbrev pub binary_with : KernState → Objects → ℕ → Option SemOptions → ObjectRow
binary_with k o state None = refused k o errors.InvalidOption
binary_with k o state (Some options) =
    if nat_le state 1 then made k o (plain.new_semaphore kinds.Binary options state) else refused k o errors.InvalidState

abbrev pub binary_row : KernState → Objects → ℕ → ℕ → ObjectRow
binary_row k o options state = binary_with k o state (read_options options kinds.Binary)

-- semCCreate
abbrev pub counting_with : KernState → Objects → ℕ → Option SemOptions → ObjectRow
counting_with k o count None = refused k o errors.InvalidOption
counting_with k o count (Some options) = made k o (plain.new_semaphore kinds.Counting options count)

abbrev pub counting_row : KernState → Objects → ℕ → ℕ → ObjectRow
counting_row k o options count = counting_with k o count (read_options options kinds.Counting)

-- semMCreate
abbrev pub mutex_with : KernState → Objects → Option SemOptions → ObjectRow
mutex_with k o None = refused k o errors.InvalidOption
mutex_with k o (Some options) =
    unless (making.create_refusal (mutexes k o)) (refused k o)
    (by_mutexes o (making.create (mutexes k o) (making.new_mutex options)) (Answer k.next_id))

abbrev pub mutex_row : KernState → Objects → ℕ → ObjectRow
mutex_row k o options = mutex_with k o (read_options options kinds.Mutex)

-- a call that is done is answered with OK; one that waits is answered at the end of its wait
abbrev pub took_reply : Took → Reply
took_reply Taken = Answer ok_word
took_reply Pended = Later

-- ---- semTake
abbrev pub plain_take : KernState → Objects → ℕ → ℕ → ℕ → ObjectRow
plain_take k o who id n =
    unless (plain.take_refusal (sems k o) id n) (refused k o)
    (by_semaphores o (plain.take (sems k o) who id n) (took_reply (plain.took (sems k o) id)))

abbrev pub mutex_take : KernState → Objects → ℕ → ℕ → ℕ → ObjectRow
mutex_take k o who id n =
    unless (mutex.take_refusal who n (object_of o.mutexes.rows id)) (refused k o)
    (by_mutexes o (mutex.take (mutexes k o) who id n) (took_reply (mutex.took who (object_of o.mutexes.rows id))))

abbrev pub take_row : KernState → Objects → Actor → ℕ → ℕ → ObjectRow
take_row k o a id n = of_task k o a (λ who. if is_mutex o id then mutex_take k o who id n else plain_take k o who id n)

-- ---- semGive: an interrupt routine may not give a mutex
abbrev pub plain_give : KernState → Objects → ℕ → ObjectRow
plain_give k o id =
    unless (plain.give_refusal (sems k o) id) (refused k o)
    (by_semaphores o (plain.give (sems k o) id) (Answer ok_word))

abbrev pub mutex_give : KernState → Objects → ℕ → ℕ → ObjectRow
mutex_give k o who id =
    unless (mutex.give_refusal who (object_of o.mutexes.rows id)) (refused k o)
    (by_mutexes o (mutex.give (mutexes k o) who id) (Answer ok_word))

abbrev pub give_row : KernState → Objects → Actor → ℕ → ObjectRow
give_row k o a id = if is_mutex o id then of_task k o a (λ who. mutex_give k o who id) else plain_give k o id

-- ---- semFlush: a mutex can't be flushed
abbrev pub plain_flush : KernState → Objects → ℕ → ObjectRow
plain_flush k o id =
    unless (plain.flush_refusal (sems k o) id) (refused k o)
    (by_semaphores o (plain.flush (sems k o) id) (Answer ok_word))

abbrev pub flush_row : KernState → Objects → ℕ → ObjectRow
flush_row k o id = if is_mutex o id then refused k o errors.InvalidOperation else plain_flush k o id

-- ---- semDelete
abbrev pub plain_delete : KernState → Objects → ℕ → ObjectRow
plain_delete k o id =
    unless (plain.delete_refusal (sems k o) id) (refused k o)
    (by_semaphores o (plain.delete (sems k o) id) (Answer ok_word))

abbrev pub delete_row : KernState → Objects → ℕ → ObjectRow
delete_row k o id =
    if is_mutex o id then by_mutexes o (mutex.delete (mutexes k o) id) (Answer ok_word)
    else plain_delete k o id

-- ---- taskPrioritySet
abbrev pub priority_row : KernState → Objects → ℕ → Option ℕ → ObjectRow
priority_row k o pri None = refused k o errors.ObjIdError
priority_row k o pri (Some id) =
    if nat_le pri least_urgent then by_mutexes o (mutex.priority_set (mutexes k o) id pri) (Answer ok_word)
    else refused k o errors.IllegalPriority
