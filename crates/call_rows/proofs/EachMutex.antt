-- What holds of each mutex after each row of semaphores and mutexes.
use Rattle.std.proofs.Common.{◌≡◌, ℕ, ◌+◌, ◌-◌, true, not, eqb, List, Option, None, Some, refl}
use Rattle.std.specs.List.{All}
use Rattle.std.proofs.lemmas.List.Elements.{All-push, All-filter}
use Rattle.wind_base.specs.declared.errno.Errno.{Errno}
use Rattle.wind_base.specs.declared.semaphore.SemKind.TheVariants as kinds
use Rattle.wind_base.specs.declared.semaphore.SemOptions.{SemOptions}
use Rattle.id_table.specs.Rows.{object_of, with_object}
use Rattle.id_table.proofs.Lookups.{All-write}
use Rattle.task_block.specs.declared.task.Task.{Task as TaskRecord}
use Rattle.wind_core.specs.State.{KernState}
use Rattle.wind_core.specs.Orders.{first_waiter}
use Rattle.kernel_world.specs.SemPlainCalls as plain
use Rattle.kernel_world.specs.InheritanceMutex.{Mutex}
use Rattle.kernel_world.specs.InheritanceMutexes.{mutex_place}
use Rattle.kernel_world.specs.SemMutexCalls as mutex
use Rattle.kernel_world.proofs.SemMutexDeeds.{TakeIs, take_is, GiveIs, give_is}
use Rattle.kernel_world.specs.SemMutexMaking as making
use Rattle.call_rows.specs.SemRows.{ObjectRow, refused, mutexes, is_mutex, binary_row, counting_row, mutex_row, take_row, give_row, flush_row, delete_row, priority_row}
use Rattle.kernel_world.specs.declared.objects.Objects.{Objects}
use Rattle.kernel_world.specs.declared.actor.Actor.{Actor}
use Rattle.kernel_world.specs.declared.actor.Actor.TheVariants.{Task}
use Rattle.call_rows.proofs.RowWalks.{on_made, on_binary, on_counting, on_mutex, on_plain_take, on_mutex_take, on_take, on_plain_give, on_mutex_give, on_give, on_flush, on_delete, on_priority}

-- what a row may do to one mutex leaves it with R, if each that may take it has L
pub record MayChange (k : KernState) (o : Objects) (L : ℕ → Type 0) (R : Mutex → Type 0) : Type 0 where
  pub all : All (λ r. R r.1) o.mutexes.rows
  pub fresh : (options : SemOptions) → R (making.new_mutex options)
  pub taken : (who : ℕ) (v : Mutex) → L who → R (mutex.owned who v)
  pub passed : (id : ℕ) (v : Mutex) (t : TaskRecord) → first_waiter k.tasks (mutex_place id) ≡ Some t → R (mutex.owned t.id v)
  pub freed : (v : Mutex) → R (mutex.freed v)
  pub deeper : (id : ℕ) (v : Mutex) → object_of o.mutexes.rows id ≡ Some v → R (record v { depth = v.depth + 1 })
  pub less : (id : ℕ) (v : Mutex) → object_of o.mutexes.rows id ≡ Some v → R (record v { depth = v.depth - 1 })

module _ (k : KernState) (o : Objects) (L : ℕ → Type 0) (R : Mutex → Type 0) (may : MayChange k o L R) where
  abbrev Each : List (ℕ × Mutex) → Type 0
  Each ms = All (λ r. R r.1) ms

  abbrev After : ObjectRow → Type 0
  After r = Each r.objects.mutexes.rows

  stays : (e : Errno) → After (refused k o e)
  stays e = may.all

  -- one mutex is written
  written : (id : ℕ) (v : Mutex) → R v → Each (with_object o.mutexes.rows id v)
  written id v own = All-write (λ (r : ℕ × Mutex). R r.1) o.mutexes.rows id v may.all (λ r h. own)

  -- ---- one is made
  pub each-binary : (options state : ℕ) → After (binary_row k o options state)
  each-binary options state = on_binary k o After stays options state (λ v low. on_made k o After stays (plain.new_semaphore kinds.Binary v state) (λ fine. may.all))

  pub each-counting : (options count : ℕ) → After (counting_row k o options count)
  each-counting options count = on_counting k o After stays options count (λ v. on_made k o After stays (plain.new_semaphore kinds.Counting v count) (λ fine. may.all))

  pub each-mutex : (options : ℕ) → After (mutex_row k o options)
  each-mutex options = on_mutex k o After stays options (λ v fine. All-push (λ (r : ℕ × Mutex). R r.1) o.mutexes.rows (k.next_id, making.new_mutex v) may.all (may.fresh v))

  -- ---- semTake: the caller may become an owner
  taken_each : (who id m : ℕ) → L who → (d : mutex.TakeDeed) → TakeIs o.mutexes.rows who id m d → Each (mutex.after_take (mutexes k o) who id m d).mutexes
  taken_each who id m live (mutex.declined e) said = may.all
  taken_each who id m live (mutex.taken v) said = written id (mutex.owned who v) (may.taken who v live)
  taken_each who id m live (mutex.retaken v) said = written id (record v { depth = v.depth + 1 }) (may.deeper id v said.0)
  taken_each who id m live (mutex.starved v) said = may.all

  pub each-take : (a : Actor) (id m : ℕ) → ((who : ℕ) → a ≡ Task who → is_mutex o id ≡ true → L who) → After (take_row k o a id m)
  each-take a id m live =
      on_take k o After stays a id m
      (λ who is there. on_mutex_take k o After stays who id m (λ fine. taken_each who id m (live who is there) (mutex.take_deed who m (object_of o.mutexes.rows id)) (take_is o.mutexes.rows who id m)))
      (λ who other. on_plain_take k o After stays who id m (λ fine. may.all))

  -- ---- semGive: the first waiter may become an owner
  passed_each : (id : ℕ) (v : Mutex) (next : Option TaskRecord) → first_waiter k.tasks (mutex_place id) ≡ next → Each (mutex.pass_on (mutexes k o) id v next).mutexes
  passed_each id v None first = written id (mutex.freed v) (may.freed v)
  passed_each id v (Some t) first = written id (mutex.owned t.id v) (may.passed id v t first)

  given_each : (who id : ℕ) (d : mutex.GiveDeed) → GiveIs o.mutexes.rows who id d → Each (mutex.after_give (mutexes k o) who id d).mutexes
  given_each who id (mutex.denied e) said = may.all
  given_each who id (mutex.lowered v) said = written id (record v { depth = v.depth - 1 }) (may.less id v said.0)
  given_each who id (mutex.given_up v) said = passed_each id v (first_waiter k.tasks (mutex_place id)) refl

  pub each-give : (a : Actor) (id : ℕ) → After (give_row k o a id)
  each-give a id =
      on_give k o After stays a id
      (λ who is there. on_mutex_give k o After stays who id (λ fine. given_each who id (mutex.give_deed who (object_of o.mutexes.rows id)) (give_is o.mutexes.rows who id)))
      (λ other. on_plain_give k o After stays id (λ fine. may.all))

  -- ---- semFlush, semDelete and taskPrioritySet
  pub each-flush : (id : ℕ) → After (flush_row k o id)
  each-flush id = on_flush k o After stays id (λ other fine. may.all)

  delete_alone : (id : ℕ) (v : Option Mutex) → Each (mutex.delete_alone (mutexes k o) id v).mutexes
  delete_alone id None = may.all
  delete_alone id (Some v) = All-filter (λ (r : ℕ × Mutex). not (eqb r.0 id)) (λ (r : ℕ × Mutex). R r.1) o.mutexes.rows may.all

  pub each-delete : (id : ℕ) → After (delete_row k o id)
  each-delete id = on_delete k o After stays id (λ there. delete_alone id (object_of o.mutexes.rows id)) (λ other fine. may.all)

  pub each-priority : (pri : ℕ) (target : Option ℕ) → After (priority_row k o pri target)
  each-priority pri target = on_priority k o After stays pri target (λ id. may.all)
