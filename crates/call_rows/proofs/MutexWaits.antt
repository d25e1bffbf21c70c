-- What the calls on mutexes do to the kernel keeps its invariant and that of waits.
use Rattle.std.proofs.Common.{◌≡◌, ℕ, ◌+◌, ◌-◌, ◌<◌, true, false, cond, not, eqb, List, Option, None, Some, is_some, refl, ap, arith}
use Rattle.wind_base.specs.declared.board_kind.BoardKind.{BoardKind}
use Rattle.wind_base.specs.declared.errno.Errno.{Errno}
use Rattle.wind_base.specs.declared.errno.Errno.TheVariants as errors
use Rattle.id_table.specs.Rows.{object_of, ids}
use Rattle.id_table.specs.declared.ident.Place.{Place}
use Rattle.wind_base.specs.declared.profile.Profile.{Profile}
use Rattle.wind_base.specs.declared.profile.Profile.TheVariants.{One, Two}
use Rattle.task_block.specs.declared.task.Task.{Task}
use Rattle.wind_core.specs.State.{KernState, IsKern, task_of}
use Rattle.wind_core.specs.Orders.{first_waiter}
use Rattle.wind_core.specs.Moves.{end_wait, wake_all, change_pri, set_held, set_normal}
use Rattle.wind_core.specs.Move.{Move, Pend, EndWait, WakeAll, ChangePri, Set, apply, IsAllowed}
use Rattle.wind_core.specs.declared.settings.Setting.TheVariants as settings
use Rattle.kernel_world.specs.SemPlainState.{both as with_semaphores}
use Rattle.kernel_world.specs.SemPlainLaws.{MayBegin}
use Rattle.kernel_world.specs.TaskSafetySafety.{safe_of, make_safe, lessen}
use Rattle.kernel_world.specs.InheritanceMutex.{Mutex}
use Rattle.kernel_world.specs.InheritanceMutexes.{MutexState, mutex_place}
use Rattle.kernel_world.specs.InheritanceReach.{raised_kern}
use Rattle.kernel_world.specs.SemMutexCalls.{at_once, followed, held_of, holding, guarded, eased, restored, less_held, dropped, letting_go, hand, await, take, freed, owned, pass_on, give, ended, owner_ended, delete_alone, delete, pri_after, priority_alone, priority_set, TakeDeed, declined, taken, retaken, starved, take_deed, after_take, GiveDeed, denied, lowered, given_up, give_deed, after_give}
use Rattle.kernel_world.proofs.SemMutexDeeds.{TakeIs, take_is}
use Rattle.msg_queue.specs.Kept.{IsCalm}
use Rattle.msg_queue.specs.Laws.{SparesQueues}
use Rattle.msg_queue.proofs.Calm.{calms}
use Rattle.kernel_world.specs.Objects.{is_live, KeepsWaits}
use Rattle.kernel_world.specs.declared.objects.Objects.{Objects}
use Rattle.kernel_world.proofs.Calming.{KeepsQueues, queues-calm, calm-lessen, calm-raised}
use Rattle.kernel_world.proofs.Waiting.{SparesWaits, waits-move, waits-lessen, waits-raised}
use Rattle.call_rows.proofs.MutexTables.{ids-write}

-- the invariants of the kernel, of waits and of queues hold
pub record Still (board : BoardKind) (k : KernState) (o : Objects) : Type 0 where
  pub kern : IsKern k
  pub waits : KeepsWaits board k o
  pub queues : KeepsQueues board k o

-- a mutex that lives may be waited for: it is no semaphore that could be taken, and no queue
abbrev pub MayAwait : KernState → Objects → ℕ → Type 0
MayAwait k o id = MayBegin (with_semaphores k o.semaphores) (mutex_place id) × (is_live o (mutex_place id) ≡ true) × (object_of o.queues.queues id ≡ None)

module _ {board : BoardKind} (o : Objects) where
  -- ---- moves of the kernel
  module _ (k : KernState) (still : Still board k o) where
    still_by : (j : KernState) → KeepsWaits board j o → IsCalm o.queues.queues k j → Still board j o
    still_by j waits goes = record { kern = goes.kern; waits = waits; queues = queues-calm board k j o goes still.queues }

    still-move : (m : Move) → IsAllowed k m → SparesWaits k o m → SparesQueues o.queues.queues k m → Still board (apply k m) o
    still-move m may waits queues = still_by (apply k m) (waits-move k o still.kern still.waits m waits) (calms o.queues.queues k m still.kern may queues)

    still-end_wait : (who a : ℕ) (e : Option Errno) → Still board (end_wait k who a e) o
    still-end_wait who a e = still-move (EndWait who a e) tt tt tt

    still-wake_all : (place : Place) (a : ℕ) (e : Option Errno) → Still board (wake_all k place a e) o
    still-wake_all place a e = still-move (WakeAll place a e) tt tt tt

    still-change_pri : (who pri : ℕ) → Still board (change_pri k who pri) o
    still-change_pri who pri = still-move (ChangePri who pri) tt tt tt

    still-set_normal : (who pri : ℕ) → Still board (set_normal k who pri) o
    still-set_normal who pri = still-move (Set who (settings.Normal pri)) tt tt tt

    still-set_held : (who n : ℕ) → Still board (set_held k who n) o
    still-set_held who n = still-move (Set who (settings.Held n)) tt tt tt

    still-make_safe : (who : ℕ) → Still board (make_safe k who) o
    still-make_safe who = still-move (Set who (settings.Safe (safe_of (task_of k.tasks who) + 1))) tt (λ some. omega arith) tt

    still-lessen : (who n : ℕ) → Still board (lessen k who n) o
    still-lessen who n = still_by (lessen k who n) (waits-lessen k o still.kern still.waits who n) (calm-lessen o.queues.queues k who n still.kern)

    still-raised : (p : Profile) (ms : List (ℕ × Mutex)) → Still board (at_once p k ms) o
    still-raised One ms = still_by (raised_kern One k ms) (waits-raised k o still.kern still.waits One ms) (calm-raised o.queues.queues One k ms still.kern)
    still-raised Two ms = still

    still-followed : (p : Profile) (who pri : ℕ) → Still board (followed p k who pri) o
    still-followed One who pri = still-change_pri who pri
    still-followed Two who pri = still

  -- ---- what a mutex is for its owner
  still-holding : (k : KernState) (who : ℕ) (m : Mutex) → Still board k o → Still board (holding k who m) o
  still-holding k who m still =
      elim m.inversion_safe as (λ b. Still board (cond b (set_held k who (held_of (task_of k.tasks who) + 1)) k) o) [ true ↦ still-set_held k still who (held_of (task_of k.tasks who) + 1) | false ↦ still ]

  still-guarded : (k : KernState) (who : ℕ) (m : Mutex) → Still board k o → Still board (guarded k who m) o
  still-guarded k who m still = elim m.delete_safe as (λ b. Still board (cond b (make_safe k who) k) o) [ true ↦ still-make_safe k still who | false ↦ still ]

  still-eased : (k : KernState) (who : ℕ) (m : Mutex) (n : ℕ) → Still board k o → Still board (eased k who m n) o
  still-eased k who m n still = elim m.delete_safe as (λ b. Still board (cond b (lessen k who n) k) o) [ true ↦ still-lessen k still who n | false ↦ still ]

  still-restored : (p : Profile) (k : KernState) (who : ℕ) (t : Option Task) → Still board k o → Still board (restored p k who t) o
  still-restored Two k who t still = still
  still-restored One k who None still = still
  still-restored One k who (Some t) still = elim (eqb t.held 0) as (λ b. Still board (cond b (change_pri k who t.normal) k) o) [ true ↦ still-change_pri k still who t.normal | false ↦ still ]

  still-letting_go : (p : Profile) (k : KernState) (who : ℕ) (m : Mutex) → Still board k o → Still board (letting_go p k who m) o
  still-letting_go p k who m still =
      elim m.inversion_safe as (λ b. Still board (cond b (dropped p k who) k) o) [
        | true ↦ still-restored p (less_held k who) who (task_of (less_held k who).tasks who) (still-set_held k still who (held_of (task_of k.tasks who) - 1))
        | false ↦ still
      ]

  still-hand : (s : MutexState) (who id : ℕ) (m : Mutex) → Still board s.kern o → Still board (hand s who id m).kern o
  still-hand s who id m still = still-guarded (holding s.kern who m) who m (still-holding s.kern who m still)

  -- ---- take
  -- a wait for a live mutex, which is no semaphore
  still-await : (s : MutexState) (who id n : ℕ) (m : Mutex) → 0 < n → MayAwait s.kern o id → Still board s.kern o → Still board (await s who id n m).kern o
  still-await s who id n m some may still =
      still-move s.kern still (Pend who (mutex_place id) (not m.by_priority) n) some
      (record { may = may.0; lives = may.1; other = λ q. absurd (omega (arith, q)); console = λ q. absurd (omega (arith, q)) })
      (λ side. (refl, may.0.made, may.2))

  pub still-take : (s : MutexState) (who id n : ℕ) → (is_some (object_of s.mutexes id) ≡ true → MayAwait s.kern o id)
      → Still board s.kern o → Still board (take s who id n).kern o
  still-take s who id n there still =
      let t : MutexState = after_take s who id n (take_deed who n (object_of s.mutexes id)) in
      still-raised t.kern (row (take_deed who n (object_of s.mutexes id)) (take_is s.mutexes who id n)) t.profile t.mutexes
    where
      row : (d : TakeDeed) → TakeIs s.mutexes who id n d → Still board (after_take s who id n d).kern o
      row (declined e) said = still
      row (taken m) said = still-hand s who id m still
      row (retaken m) said = still-guarded s.kern who m still
      row (starved m) said = still-await s who id n m said.4 (there (ap is_some said.1)) still

  -- ---- give
  still-pass_on : (s : MutexState) (id : ℕ) (m : Mutex) (w : Option Task) → Still board s.kern o → Still board (pass_on s id m w).kern o
  still-pass_on s id m None still = still
  still-pass_on s id m (Some w) still = still-end_wait (hand s w.id id m).kern (still-hand s w.id id m still) w.id 0 None

  pub still-give : (s : MutexState) (who id : ℕ) → Still board s.kern o → Still board (give s who id).kern o
  still-give s who id still =
      let t : MutexState = after_give s who id (give_deed who (object_of s.mutexes id)) in
      still-raised t.kern (row (give_deed who (object_of s.mutexes id))) t.profile t.mutexes
    where
      row : (d : GiveDeed) → Still board (after_give s who id d).kern o
      row (denied e) = still
      row (lowered m) = still-eased s.kern who m 1 still
      row (given_up m) =
          let t : MutexState = pass_on s id m (first_waiter s.kern.tasks (mutex_place id)) in
          still-eased (letting_go s.profile t.kern who m) who m 1 (still-letting_go s.profile t.kern who m (still-pass_on s id m (first_waiter s.kern.tasks (mutex_place id)) still))

  -- ---- delete
  still-owner_ended : (p : Profile) (k : KernState) (m : Mutex) (w : Option ℕ) → Still board k o → Still board (owner_ended p k m w) o
  still-owner_ended p k m None still = still
  still-owner_ended p k m (Some x) still = each (task_of k.tasks x)
    where
      each : (q : Option Task) → Still board (ended p k x m q) o
      each None = still
      each (Some t) = still-eased (letting_go p k x m) x m m.depth (still-letting_go p k x m still)

  pub still-delete : (s : MutexState) (id : ℕ) → Still board s.kern o → Still board (delete s id).kern o
  still-delete s id still = still-raised (delete_alone s id (object_of s.mutexes id)).kern (row (object_of s.mutexes id)) (delete_alone s id (object_of s.mutexes id)).profile (delete_alone s id (object_of s.mutexes id)).mutexes
    where
      row : (q : Option Mutex) → Still board (delete_alone s id q).kern o
      row None = still
      row (Some m) =
          still-owner_ended s.profile (wake_all s.kern (mutex_place id) 4294967295 (Some errors.ObjDeleted)) m m.owner (still-wake_all s.kern still (mutex_place id) 4294967295 (Some errors.ObjDeleted))

  -- ---- a normal priority is set
  pub still-priority_set : (s : MutexState) (who pri : ℕ) → Still board s.kern o → Still board (priority_set s who pri).kern o
  still-priority_set s who pri still =
      still-raised (priority_alone s who pri).kern
      (still-followed (set_normal s.kern who pri) (still-set_normal s.kern still who pri) s.profile who (pri_after pri (task_of s.kern.tasks who))) s.profile s.mutexes

-- ---- the ids of the mutexes
pub ids-take : (s : MutexState) (who id n : ℕ) → ids (take s who id n).mutexes ≡ ids s.mutexes
ids-take s who id n = row (take_deed who n (object_of s.mutexes id))
  where
    row : (d : TakeDeed) → ids (after_take s who id n d).mutexes ≡ ids s.mutexes
    row (declined e) = refl
    row (taken m) = ids-write s.mutexes id (owned who m)
    row (retaken m) = ids-write s.mutexes id (record m { depth = m.depth + 1 })
    row (starved m) = refl

pub ids-give : (s : MutexState) (who id : ℕ) → ids (give s who id).mutexes ≡ ids s.mutexes
ids-give s who id = row (give_deed who (object_of s.mutexes id))
  where
    passed : (m : Mutex) (w : Option Task) → ids (pass_on s id m w).mutexes ≡ ids s.mutexes
    passed m None = ids-write s.mutexes id (freed m)
    passed m (Some w) = ids-write s.mutexes id (owned w.id m)

    row : (d : GiveDeed) → ids (after_give s who id d).mutexes ≡ ids s.mutexes
    row (denied e) = refl
    row (lowered m) = ids-write s.mutexes id (record m { depth = m.depth - 1 })
    row (given_up m) = passed m (first_waiter s.kern.tasks (mutex_place id))
