-- The row of a kernel call changes the owner of no mutex, except of the one that the call names.
use Rattle.std.proofs.Common.{◌≡◌, ℕ, ◌+◌, ◌-◌, List, Option, None, Some, refl, ap}
use Rattle.std.specs.Prelude.{slice_index}
use Rattle.wind_base.specs.declared.errno.Errno.{Errno}
use Rattle.wind_base.specs.declared.gate.Gate.{Gate}
use Rattle.wind_base.specs.declared.gate.Gate.TheVariants as gates
use Rattle.wind_base.specs.declared.semaphore.SemKind.TheVariants as kinds
use Rattle.id_table.specs.Rows.{object_of}
use Rattle.task_block.specs.declared.task.Task.{Task as TaskRecord}
use Rattle.wind_core.specs.State.{KernState}
use Rattle.wind_core.specs.Orders.{first_waiter}
use Rattle.inheritance.specs.declared.mutex.Mutex.{Mutex}
use Rattle.inheritance.specs.Mutexes.{mutex_place}
use Rattle.sem_plain.specs.declared.semaphore.Semaphore.{Semaphore}
use Rattle.sem_plain.specs.Calls as plain
use Rattle.sem_mutex.specs.Calls as mutex
use Rattle.sem_mutex.specs.Making as making
use Rattle.kernel_world.specs.State.{WorldState}
use Rattle.kernel_world.specs.Actors.{target}
use Rattle.kernel_world.specs.CallWords.{call_of}
use Rattle.kernel_world.specs.declared.objects.Objects.{Objects}
use Rattle.kernel_world.specs.declared.actor.Actor.{Actor}
use Rattle.kernel_world.specs.declared.actor.Actor.TheVariants.{Task as by_task, Interrupt}
use Rattle.call_rows.specs.SemRows.{ObjectRow, refused, mutexes, made, binary_row, counting_row, mutex_row, take_row, give_row, flush_row, delete_row, priority_row}
use Rattle.call_rows.proofs.RowWalks.{on_made, on_binary, on_counting, on_mutex, on_plain_take, on_mutex_take, on_take, on_plain_give, on_mutex_give, on_give, on_flush, on_delete, on_priority}
use Rattle.wind_machine.specs.KernelCallsCalls.{row_of}
use Rattle.board_trace.specs.Mutexes.{mutex_named, owner_in}
use Rattle.wind_owners.proofs.Lists.{owner_among, made as made_among, taken_out, written}

module _ (id : ℕ) where
  -- ---- rows of semaphores and mutexes
  module _ (k : KernState) (o : Objects) where
    abbrev Same : ObjectRow → Type 0
    Same r = owner_among id r.objects.mutexes.rows ≡ owner_among id o.mutexes.rows

    stays : (e : Errno) → Same (refused k o e)
    stays e = refl

    making_one : (v : Semaphore) → Same (made k o v)
    making_one v = on_made k o Same stays v (λ fine. refl)

    binaries : (options state : ℕ) → Same (binary_row k o options state)
    binaries options state = on_binary k o Same stays options state (λ v low. making_one (plain.new_semaphore kinds.Binary v state))

    countings : (options count : ℕ) → Same (counting_row k o options count)
    countings options count = on_counting k o Same stays options count (λ v. making_one (plain.new_semaphore kinds.Counting v count))

    creations : (options : ℕ) → Same (mutex_row k o options)
    creations options = on_mutex k o Same stays options (λ v fine. made_among id o.mutexes.rows k.next_id (making.new_mutex v) refl)

    module _ (n : ℕ) (other : n ≡ id → ⊥) where
      taken : (who m : ℕ) (d : mutex.TakeDeed) → owner_among id (mutex.after_take (mutexes k o) who n m d).mutexes ≡ owner_among id o.mutexes.rows
      taken who m (mutex.declined e) = refl
      taken who m (mutex.taken v) = written id o.mutexes.rows n (mutex.owned who v) other
      taken who m (mutex.retaken v) = written id o.mutexes.rows n (record v { depth = v.depth + 1 }) other
      taken who m (mutex.starved v) = refl

      takes : (a : Actor) (m : ℕ) → Same (take_row k o a n m)
      takes a m =
          on_take k o Same stays a n m
          (λ who is there. on_mutex_take k o Same stays who n m (λ fine. taken who m (mutex.take_deed who m (object_of o.mutexes.rows n))))
          (λ who none. on_plain_take k o Same stays who n m (λ fine. refl))

      passed : (v : Mutex) (next : Option TaskRecord) → owner_among id (mutex.pass_on (mutexes k o) n v next).mutexes ≡ owner_among id o.mutexes.rows
      passed v None = written id o.mutexes.rows n (mutex.freed v) other
      passed v (Some t) = written id o.mutexes.rows n (mutex.owned t.id v) other

      given : (who : ℕ) (d : mutex.GiveDeed) → owner_among id (mutex.after_give (mutexes k o) who n d).mutexes ≡ owner_among id o.mutexes.rows
      given who (mutex.denied e) = refl
      given who (mutex.lowered v) = written id o.mutexes.rows n (record v { depth = v.depth - 1 }) other
      given who (mutex.given_up v) = passed v (first_waiter k.tasks (mutex_place n))

      gives : (a : Actor) → Same (give_row k o a n)
      gives a =
          on_give k o Same stays a n
          (λ who is there. on_mutex_give k o Same stays who n (λ fine. given who (mutex.give_deed who (object_of o.mutexes.rows n))))
          (λ none. on_plain_give k o Same stays n (λ fine. refl))

      deleted : (v : Option Mutex) → owner_among id (mutex.delete_alone (mutexes k o) n v).mutexes ≡ owner_among id o.mutexes.rows
      deleted None = refl
      deleted (Some v) = taken_out id o.mutexes.rows n other

      deletes : Same (delete_row k o n)
      deletes = on_delete k o Same stays n (λ there. deleted (object_of o.mutexes.rows n)) (λ none fine. refl)

    flushes : (n : ℕ) → Same (flush_row k o n)
    flushes n = on_flush k o Same stays n (λ none fine. refl)

    priorities : (pri : ℕ) (who : Option ℕ) → Same (priority_row k o pri who)
    priorities pri who = on_priority k o Same stays pri who (λ n. refl)

  -- ---- the row of each gate
  module _ (w : WorldState) (ram r : List ℕ) where
    pub row_keeps : (a : Actor) (g : Gate) → (mutex_named (call_of g ram r) ≡ Some id → ⊥) → owner_in (row_of (call_of g ram r) w a).world id ≡ owner_in w id
    row_keeps a gates.TaskPrioritySet other = priorities w.kern w.objects (slice_index r 4) (target w.kern a (slice_index r 3))
    row_keeps a gates.SemBCreate other = binaries w.kern w.objects (slice_index r 3) (slice_index r 4)
    row_keeps a gates.SemCCreate other = countings w.kern w.objects (slice_index r 3) (slice_index r 4)
    row_keeps a gates.SemMCreate other = creations w.kern w.objects (slice_index r 3)
    row_keeps a gates.SemTake other = takes w.kern w.objects (slice_index r 3) (λ q. other (ap Some q)) a (slice_index r 4)
    row_keeps a gates.SemGive other = gives w.kern w.objects (slice_index r 3) (λ q. other (ap Some q)) a
    row_keeps a gates.SemFlush other = flushes w.kern w.objects (slice_index r 3)
    row_keeps a gates.SemDelete other = deletes w.kern w.objects (slice_index r 3) (λ q. other (ap Some q))
    row_keeps (by_task who) g other = refl
    row_keeps Interrupt g other = refl
