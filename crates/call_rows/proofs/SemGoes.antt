-- How far the rows of semaphores and mutexes take the kernel's counters.
use Rattle.std.proofs.Common.{◌≡◌, ℕ, ◌+◌, ◌-◌, ◌<◌, ◌≤◌, true, false, not, cond, eqb, List, length, Option, None, Some, refl, arith}
use Rattle.std.proofs.lemmas.Bool.{eqb-false}
use Rattle.wind_base.specs.SemBits.{is_priority}
use Rattle.wind_base.specs.declared.errno.Errno.{Errno}
use Rattle.wind_base.specs.declared.errno.Errno.TheVariants as errors
use Rattle.wind_base.specs.declared.semaphore.SemKind.TheVariants as kinds
use Rattle.id_table.specs.Rows.{object_of}
use Rattle.task_block.specs.declared.task.Task.{Task as TaskRecord}
use Rattle.wind_core.specs.State.{KernState, IsKern, task_of}
use Rattle.wind_core.specs.Orders.{first_waiter}
use Rattle.wind_core.specs.Moves.{end_wait, wake_all, change_pri, set_held, set_normal}
use Rattle.wind_core.specs.Move.{Pend, EndWait, WakeAll, ChangePri, Set}
use Rattle.wind_core.specs.declared.settings.Setting.TheVariants as settings
use Rattle.kernel_world.specs.TaskSafetySafety.{make_safe, lessen}
use Rattle.kernel_world.specs.SemPlainSemaphore.{Semaphore}
use Rattle.kernel_world.specs.SemPlainState.{sem_place}
use Rattle.kernel_world.specs.SemPlainCalls as plain
use Rattle.kernel_world.proofs.SemPlainDeeds.{TakeIs, take_is}
use Rattle.kernel_world.specs.InheritanceMutex.{Mutex}
use Rattle.kernel_world.specs.InheritanceMutexes.{MutexState, mutex_place}
use Rattle.kernel_world.specs.InheritanceReach.{raised_kern}
use Rattle.kernel_world.specs.SemMutexCalls as mutex
use Rattle.kernel_world.proofs.SemMutexDeeds.{TakeIs as MutexTakeIs, take_is as mutex_take_is}
use Rattle.kernel_world.specs.Kept.{CountsWithin, call_sinces}
use Rattle.call_rows.specs.SemRows.{ObjectRow, refused, sems, mutexes, made, binary_row, counting_row, mutex_row, take_row, give_row, flush_row, delete_row, priority_row}
use Rattle.call_rows.proofs.RowWalks.{on_made, on_binary, on_counting, on_mutex, on_plain_take, on_mutex_take, on_take, on_plain_give, on_mutex_give, on_give, on_flush, on_delete, on_priority}
use Rattle.kernel_world.specs.declared.objects.Objects.{Objects}
use Rattle.kernel_world.specs.declared.actor.Actor.{Actor}
use Rattle.wind_base.specs.declared.profile.Profile.{Profile}
use Rattle.wind_base.specs.declared.profile.Profile.TheVariants.{One, Two}
use Rattle.kernel_world.proofs.Goes.{Goes, id_left, drawn, goes-draw, goes_nowhere, goes_on, goes_further, goes-move, goes-raised, goes-make_safe, goes-lessen}

-- ---- what a mutex is for its owner
module _ (k : KernState) (n : ℕ) (is : IsKern k) (within : CountsWithin n k) where
  goes-holding : (who : ℕ) (m : Mutex) → Goes k (mutex.holding k who m) n 0
  goes-holding who m =
      elim m.inversion_safe as (λ b. Goes k (cond b (set_held k who (mutex.held_of (task_of k.tasks who) + 1)) k) n 0) [
        | true ↦ goes-move k n is within (Set who (settings.Held (mutex.held_of (task_of k.tasks who) + 1))) tt
        | false ↦ goes_nowhere k n is within
      ]

  goes-guarded : (who : ℕ) (m : Mutex) → Goes k (mutex.guarded k who m) (n + 1) 0
  goes-guarded who m =
      elim m.delete_safe as (λ b. Goes k (cond b (make_safe k who) k) (n + 1) 0) [
        | true ↦ goes-make_safe k n is within who
        | false ↦ goes_further k k n (n + 1) 0 0 (omega arith) (omega arith) (goes_nowhere k n is within)
      ]

  goes-eased : (who : ℕ) (m : Mutex) (count : ℕ) → Goes k (mutex.eased k who m count) n 256
  goes-eased who m count =
      elim m.delete_safe as (λ b. Goes k (cond b (lessen k who count) k) n 256) [
        | true ↦ goes-lessen k n is within who count
        | false ↦ goes_further k k n n 0 256 (omega arith) (omega arith) (goes_nowhere k n is within)
      ]

  goes-restored : (p : Profile) (who : ℕ) (o : Option TaskRecord) → Goes k (mutex.restored p k who o) n 1
  goes-restored Two who o = goes_further k k n n 0 1 (omega arith) (omega arith) (goes_nowhere k n is within)
  goes-restored One who None = goes_further k k n n 0 1 (omega arith) (omega arith) (goes_nowhere k n is within)
  goes-restored One who (Some t) =
      elim (eqb t.held 0) as (λ b. Goes k (cond b (change_pri k who t.normal) k) n 1) [
        | true ↦ goes-move k n is within (ChangePri who t.normal) tt
        | false ↦ goes_further k k n n 0 1 (omega arith) (omega arith) (goes_nowhere k n is within)
      ]

module _ (k : KernState) (n : ℕ) (is : IsKern k) (within : CountsWithin n k) where
  goes-letting_go : (p : Profile) (who : ℕ) (m : Mutex) → Goes k (mutex.letting_go p k who m) n 1
  goes-letting_go p who m =
      let less : KernState = mutex.less_held k who in
      let one = goes-move k n is within (Set who (settings.Held (mutex.held_of (task_of k.tasks who) - 1))) tt in
      elim m.inversion_safe as (λ b. Goes k (cond b (mutex.dropped p k who) k) n 1) [
        | true ↦ goes_on k less (mutex.dropped p k who) n n 0 1 one (goes-restored less n one.kern one.counts p who (task_of less.tasks who))
        | false ↦ goes_further k k n n 0 1 (omega arith) (omega arith) (goes_nowhere k n is within)
      ]

  -- the task becomes the owner
  goes-hand : (who : ℕ) (m : Mutex) → Goes k (mutex.guarded (mutex.holding k who m) who m) (n + 1) 0
  goes-hand who m =
      let one = goes-holding k n is within who m in
      let j : KernState = mutex.holding k who m in
      goes_on k j (mutex.guarded j who m) n (n + 1) 0 0 one (goes-guarded j n one.kern one.counts who m)

module _ (k : KernState) (n : ℕ) (is : IsKern k) (within : CountsWithin n k) where
  -- the owner gives it up, and has this many safe sections
  goes-left : (p : Profile) (who : ℕ) (m : Mutex) (count : ℕ) → Goes k (mutex.eased (mutex.letting_go p k who m) who m count) n 257
  goes-left p who m count =
      let one = goes-letting_go k n is within p who m in
      let j : KernState = mutex.letting_go p k who m in
      goes_on k j (mutex.eased j who m count) n n 1 256 one (goes-eased j n one.kern one.counts who m count)

-- a call that is not refused waits for some ticks at least
above : (m : ℕ) (e : Errno) → cond (eqb m 0) (Some e) None ≡ None → 0 < m
above m e none =
    elim (eqb m 0) as (λ b. eqb m 0 ≡ b → cond b (Some e) None ≡ None → 0 < m) [
      | true ↦ λ b q. absurd (cc)
      | false ↦ λ b q. let some = eqb-false m 0 b in omega arith
    ] refl none

module _ (k : KernState) (o : Objects) (n : ℕ) (is : IsKern k) (within : CountsWithin n k) where
  -- what one call leads to from k
  abbrev GoesTo : KernState → Type 0
  GoesTo j = Goes k j (n + 1) call_sinces

  within_call : (j : KernState) (d : ℕ) → d ≤ 1024 → Goes k j n d → GoesTo j
  within_call j d few g = goes_further k j n (n + 1) d call_sinces (omega arith) few g

  stays : GoesTo k
  stays = within_call k 0 (omega arith) (goes_nowhere k n is within)

  abbrev RowGoes : ObjectRow → Type 0
  RowGoes r = GoesTo r.kern

  none : (e : Errno) → RowGoes (refused k o e)
  none e = stays

  -- under profile 1 all are raised then
  then_raised : (p : Profile) (j : KernState) (d : ℕ) → d ≤ 768 → Goes k j (n + 1) d → (ms : List (ℕ × Mutex)) → GoesTo (mutex.at_once p j ms)
  then_raised One j d few g ms =
      goes_further k (raised_kern One j ms) (n + 1) (n + 1) (d + 256) call_sinces (omega arith) (omega (arith, few))
      (goes_on k j (raised_kern One j ms) (n + 1) (n + 1) d 256 g (goes-raised j (n + 1) g.kern g.counts One ms))
  then_raised Two j d few g ms = goes_further k j (n + 1) (n + 1) d call_sinces (omega arith) (omega (arith, few)) g

  -- ---- one is made
  made_goes : (v : Semaphore) → GoesTo (made k o v).kern
  made_goes v = on_made k o RowGoes none v (λ fine.
      within_call (drawn k) 0 (omega arith) (goes-draw k n is within (id_left 1024 (length o.semaphores) k.next_id errors.TooMany errors.IdsSpent fine)))

  pub binary_goes : (options state : ℕ) → GoesTo (binary_row k o options state).kern
  binary_goes options state = on_binary k o RowGoes none options state (λ v low. made_goes (plain.new_semaphore kinds.Binary v state))

  pub counting_goes : (options count : ℕ) → GoesTo (counting_row k o options count).kern
  counting_goes options count = on_counting k o RowGoes none options count (λ v. made_goes (plain.new_semaphore kinds.Counting v count))

  pub mutex_goes : (options : ℕ) → GoesTo (mutex_row k o options).kern
  mutex_goes options = on_mutex k o RowGoes none options (λ v fine.
      within_call (drawn k) 0 (omega arith) (goes-draw k n is within (id_left 1024 (length o.mutexes.rows) k.next_id errors.TooMany errors.IdsSpent fine)))

  -- ---- semTake
  plain_taken : (who id m : ℕ) (d : plain.TakeDeed) → TakeIs (sems k o) id m d → GoesTo (plain.after_take (sems k o) who id m d).kern
  plain_taken who id m (plain.declined e) said = stays
  plain_taken who id m (plain.taken v) said = stays
  plain_taken who id m (plain.starved v) said =
      within_call (plain.awaited (sems k o) who id m v).kern 1 (omega arith) (goes-move k n is within (Pend who (sem_place id) (not (is_priority v.options)) m) said.2)

  mutex_taken : (who id m : ℕ) (d : mutex.TakeDeed) → MutexTakeIs o.mutexes.rows who id m d → Goes k (mutex.after_take (mutexes k o) who id m d).kern (n + 1) 1
  mutex_taken who id m (mutex.declined e) said = goes_further k k n (n + 1) 0 1 (omega arith) (omega arith) (goes_nowhere k n is within)
  mutex_taken who id m (mutex.taken v) said = goes_further k (mutex.hand (mutexes k o) who id v).kern (n + 1) (n + 1) 0 1 (omega arith) (omega arith) (goes-hand k n is within who v)
  mutex_taken who id m (mutex.retaken v) said = goes_further k (mutex.deepen (mutexes k o) who id v).kern (n + 1) (n + 1) 0 1 (omega arith) (omega arith) (goes-guarded k n is within who v)
  mutex_taken who id m (mutex.starved v) said =
      goes_further k (mutex.await (mutexes k o) who id m v).kern n (n + 1) 1 1 (omega arith) (omega arith)
      (goes-move k n is within (Pend who (mutex_place id) (not v.by_priority) m) said.4)

  pub take_goes : (a : Actor) (id m : ℕ) → GoesTo (take_row k o a id m).kern
  take_goes a id m =
      on_take k o RowGoes none a id m
      (λ who is there. on_mutex_take k o RowGoes none who id m (λ fine.
      let deed = mutex.take_deed who m (object_of o.mutexes.rows id) in
      let alone : MutexState = mutex.after_take (mutexes k o) who id m deed in
      then_raised alone.profile alone.kern 1 (omega arith) (mutex_taken who id m deed (mutex_take_is o.mutexes.rows who id m)) alone.mutexes))
      (λ who other. on_plain_take k o RowGoes none who id m (λ fine. plain_taken who id m (plain.take_deed m (plain.live (sems k o) id)) (take_is (sems k o) id m)))

  -- ---- semGive
  plain_given : (id : ℕ) (d : plain.GiveDeed) → GoesTo (plain.after_give (sems k o) id d).kern
  plain_given id (plain.denied e) = stays
  plain_given id (plain.passed_on t) = within_call (end_wait k t.id 0 None) 1 (omega arith) (goes-move k n is within (EndWait t.id 0 None) tt)
  plain_given id (plain.counted v) = stays

  passed_goes : (id : ℕ) (v : Mutex) (next : Option TaskRecord) → Goes k (mutex.pass_on (mutexes k o) id v next).kern (n + 1) 1
  passed_goes id v None = goes_further k k n (n + 1) 0 1 (omega arith) (omega arith) (goes_nowhere k n is within)
  passed_goes id v (Some t) =
      let j : KernState = (mutex.hand (mutexes k o) t.id id v).kern in
      let one = goes-hand k n is within t.id v in
      goes_on k j (end_wait j t.id 0 None) (n + 1) (n + 1) 0 1 one (goes-move j (n + 1) one.kern one.counts (EndWait t.id 0 None) tt)

  given_up : (who id : ℕ) (v : Mutex) → Goes k (mutex.give_up (mutexes k o) who id v).kern (n + 1) 258
  given_up who id v =
      let next = first_waiter k.tasks (mutex_place id) in
      let j : KernState = (mutex.pass_on (mutexes k o) id v next).kern in
      let one = passed_goes id v next in
      goes_on k j (mutex.eased (mutex.letting_go o.mutexes.profile j who v) who v 1) (n + 1) (n + 1) 1 257 one (goes-left j (n + 1) one.kern one.counts o.mutexes.profile who v 1)

  mutex_given : (who id : ℕ) (d : mutex.GiveDeed) → Goes k (mutex.after_give (mutexes k o) who id d).kern (n + 1) 258
  mutex_given who id (mutex.denied e) = goes_further k k n (n + 1) 0 258 (omega arith) (omega arith) (goes_nowhere k n is within)
  mutex_given who id (mutex.lowered v) = goes_further k (mutex.eased k who v 1) n (n + 1) 256 258 (omega arith) (omega arith) (goes-eased k n is within who v 1)
  mutex_given who id (mutex.given_up v) = given_up who id v

  pub give_goes : (a : Actor) (id : ℕ) → GoesTo (give_row k o a id).kern
  give_goes a id =
      on_give k o RowGoes none a id
      (λ who is there. on_mutex_give k o RowGoes none who id (λ fine.
      let deed = mutex.give_deed who (object_of o.mutexes.rows id) in
      let alone : MutexState = mutex.after_give (mutexes k o) who id deed in
      then_raised alone.profile alone.kern 258 (omega arith) (mutex_given who id deed) alone.mutexes))
      (λ other. on_plain_give k o RowGoes none id (λ fine. plain_given id (plain.give_deed (plain.next_of (sems k o) id) (plain.live (sems k o) id))))

  -- ---- semFlush
  pub flush_goes : (id : ℕ) → GoesTo (flush_row k o id).kern
  flush_goes id = on_flush k o RowGoes none id (λ other fine. within_call (wake_all k (sem_place id) 0 None) 256 (omega arith) (goes-move k n is within (WakeAll (sem_place id) 0 None) tt))

  -- ---- semDelete
  mutex_delete_alone : (id : ℕ) (v : Option Mutex) → Goes k (mutex.delete_alone (mutexes k o) id v).kern (n + 1) 513
  mutex_delete_alone id None = goes_further k k n (n + 1) 0 513 (omega arith) (omega arith) (goes_nowhere k n is within)
  mutex_delete_alone id (Some v) =
      let j : KernState = wake_all k (mutex_place id) 4294967295 (Some errors.ObjDeleted) in
      let one = goes-move k n is within (WakeAll (mutex_place id) 4294967295 (Some errors.ObjDeleted)) tt in
      let still : Goes j j n 257 = goes_further j j n n 0 257 (omega arith) (omega arith) (goes_nowhere j n one.kern one.counts) in
      let ended : (who : ℕ) (t : Option TaskRecord) → Goes j (mutex.ended o.mutexes.profile j who v t) n 257 =
      λ who t. elim t as (λ t. Goes j (mutex.ended o.mutexes.profile j who v t) n 257) [ None ↦ still | Some t ↦ goes-left j n one.kern one.counts o.mutexes.profile who v v.depth ] in
      let by_owner : Goes j (mutex.owner_ended o.mutexes.profile j v v.owner) n 257 = elim v.owner as (λ w. Goes j (mutex.owner_ended o.mutexes.profile j v w) n 257) [ None ↦ still | Some who ↦ ended who (task_of j.tasks who) ] in
      goes_further k (mutex.owner_ended o.mutexes.profile j v v.owner) n (n + 1) 513 513 (omega arith) (omega arith) (goes_on k j (mutex.owner_ended o.mutexes.profile j v v.owner) n n 256 257 one by_owner)

  mutex_delete_goes : (id : ℕ) → GoesTo (mutex.delete (mutexes k o) id).kern
  mutex_delete_goes id =
      let alone : MutexState = mutex.delete_alone (mutexes k o) id (object_of o.mutexes.rows id) in
      then_raised alone.profile alone.kern 513 (omega arith) (mutex_delete_alone id (object_of o.mutexes.rows id)) alone.mutexes

  pub delete_goes : (id : ℕ) → GoesTo (delete_row k o id).kern
  delete_goes id =
      on_delete k o RowGoes none id (λ there. mutex_delete_goes id) (λ other fine.
      within_call (wake_all k (sem_place id) 4294967295 (Some errors.ObjDeleted)) 256 (omega arith) (goes-move k n is within (WakeAll (sem_place id) 4294967295 (Some errors.ObjDeleted)) tt))

  -- ---- taskPrioritySet
  followed_goes : (p : Profile) (j : KernState) (who now : ℕ) → IsKern j → CountsWithin n j → Goes j (mutex.followed p j who now) n 1
  followed_goes One j who now is within = goes-move j n is within (ChangePri who now) tt
  followed_goes Two j who now is within = goes_further j j n n 0 1 (omega arith) (omega arith) (goes_nowhere j n is within)

  priority_alone : (who pri : ℕ) → Goes k (mutex.priority_alone (mutexes k o) who pri).kern (n + 1) 1
  priority_alone who pri =
      let j : KernState = set_normal k who pri in
      let one = goes-move k n is within (Set who (settings.Normal pri)) tt in
      let now : ℕ = mutex.pri_after pri (task_of k.tasks who) in
      let last : KernState = mutex.followed o.mutexes.profile j who now in
      goes_further k last n (n + 1) 1 1 (omega arith) (omega arith) (goes_on k j last n n 0 1 one (followed_goes o.mutexes.profile j who now one.kern one.counts))

  pub priority_goes : (pri : ℕ) (who : Option ℕ) → GoesTo (priority_row k o pri who).kern
  priority_goes pri who = on_priority k o RowGoes none pri who (λ id.
      then_raised o.mutexes.profile (mutex.priority_alone (mutexes k o) id pri).kern 1 (omega arith) (priority_alone id pri) o.mutexes.rows)
