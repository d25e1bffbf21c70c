-- Take and give keep the invariant, and raising at once changes nothing if no task begins to wait.
use Rattle.std.proofs.Common.{◌≡◌, ℕ, ◌+◌, ◌-◌, true, false, cond, not, ◌&&◌, eqb, ltb, leb, Option, None, Some, IsSome, refl, sym, subst}
use Rattle.id_table.specs.Rows.{object_of, row_id}
use Rattle.wind_base.specs.declared.profile.Profile.{Profile}
use Rattle.wind_base.specs.declared.profile.Profile.TheVariants.{One, Two}
use Rattle.task_block.specs.declared.task.Task.{Task}
use Rattle.wind_core.specs.State.{KernState, IsKern, Lives, task_of}
use Rattle.wind_core.specs.Orders.{first_waiter}
use Rattle.wind_core.specs.Moves.{set_safe, change_pri}
use Rattle.wind_core.specs.Releases.{release_all}
use Rattle.wind_core.specs.Move.{Pend, ReleaseAll, ChangePri, Set}
use Rattle.wind_core.specs.declared.settings.Setting.TheVariants as settings
use Rattle.wind_core.proofs.Moving.{move_keeps}
use Rattle.task_safety.specs.Safety.{deletion, safe_of, make_safe, lessen}
use Rattle.inheritance.specs.declared.mutex.Mutex.{Mutex}
use Rattle.inheritance.specs.Mutexes.{MutexState, held_count, mutex_place}
use Rattle.sem_mutex.specs.Calls.{held_of, guarded, eased, restored, less_held, dropped, letting_go, declined, taken, retaken, starved, take_deed, after_take, take, pass_on, denied, lowered, given_up, give_deed, after_give, give}
use Rattle.sem_mutex.specs.Kept.{Holds, KeepsMutexes}
use Rattle.sem_mutex.proofs.AtOnce.{at_once_keeps, at_once_same}
use Rattle.sem_mutex.proofs.Handing.{hand_keeps, deepen_keeps, shallow_keeps, await_holds}
use Rattle.sem_mutex.proofs.Giving.{kern_hand, passed, give_up_keeps}
use Rattle.sem_mutex.proofs.Deeds.{TakeIs, take_is, GiveIs, give_is}
use Rattle.id_table.specs.Records.{Rising}

-- ---- the kernel's invariant
pub kern_lessen : (k : KernState) (who n : ℕ) → IsKern k → IsKern (lessen k who n)
kern_lessen k who n is =
    let count : ℕ = safe_of (task_of k.tasks who) in
    let less : KernState = set_safe k who (count - n) in
    let kept = move_keeps k (Set who (settings.Safe (count - n))) is tt in
    elim (ltb 0 count && leb count n) as (λ b. IsKern (cond b (release_all less (deletion who)) less)) [ true ↦ move_keeps less (ReleaseAll (deletion who)) kept tt | false ↦ kept ]

pub kern_guarded : (k : KernState) (who : ℕ) (m : Mutex) → IsKern k → IsKern (guarded k who m)
kern_guarded k who m is = elim m.delete_safe as (λ b. IsKern (cond b (make_safe k who) k)) [ true ↦ move_keeps k (Set who (settings.Safe (safe_of (task_of k.tasks who) + 1))) is tt | false ↦ is ]

pub kern_eased : (k : KernState) (who : ℕ) (m : Mutex) (n : ℕ) → IsKern k → IsKern (eased k who m n)
kern_eased k who m n is = elim m.delete_safe as (λ b. IsKern (cond b (lessen k who n) k)) [ true ↦ kern_lessen k who n is | false ↦ is ]

kern_restored : (p : Profile) (k : KernState) (who : ℕ) (o : Option Task) → IsKern k → IsKern (restored p k who o)
kern_restored Two k who o is = is
kern_restored One k who None is = is
kern_restored One k who (Some t) is = elim (eqb t.held 0) as (λ b. IsKern (cond b (change_pri k who t.normal) k)) [ true ↦ move_keeps k (ChangePri who t.normal) is tt | false ↦ is ]

pub kern_letting_go : (p : Profile) (k : KernState) (who : ℕ) (m : Mutex) → IsKern k → IsKern (letting_go p k who m)
kern_letting_go p k who m is =
    elim m.inversion_safe as (λ b. IsKern (cond b (dropped p k who) k)) [
      | true ↦ kern_restored p (less_held k who) who (task_of (less_held k who).tasks who) (move_keeps k (Set who (settings.Held (held_of (task_of k.tasks who) - 1))) is tt)
      | false ↦ is
    ]

-- ---- take
pub record IsTaken (s t : MutexState) : Type 0 where
  pub kern : IsKern t.kern
  pub holds : Holds t.profile (held_count t.mutexes) t.mutexes t.kern

after_take_keeps : (s : MutexState) (who id n : ℕ) → IsKern s.kern → Rising row_id s.mutexes → Lives s.kern who → KeepsMutexes s → IsTaken s (after_take s who id n (take_deed who n (object_of s.mutexes id)))
after_take_keeps s who id n is up lives kept =
    elim (take_deed who n (object_of s.mutexes id)) as (λ d. TakeIs s.mutexes who id n d → IsTaken s (after_take s who id n d)) [
      | declined e ↦ λ said. record { kern = is; holds = kept.holds }
      | taken m ↦ λ said. record { kern = kern_hand s.kern who m is; holds = (hand_keeps s who id m is up lives said.0 said.1 kept).holds }
      | retaken m ↦ λ said. record { kern = kern_guarded s.kern who m is; holds = (deepen_keeps s who id m up said.0 kept).holds }
      | starved m ↦ λ said. record {
        kern = move_keeps s.kern (Pend who (mutex_place id) (not m.by_priority) n) is said.4;
        holds = await_holds s who id n m said.1 (subst (λ o. IsSome o) (sym said.2) refl) kept;
      }
    ] (take_is s.mutexes who id n)

-- a take keeps the mutexes' invariant
pub take_keeps : (s : MutexState) (who id n : ℕ) → IsKern s.kern → Rising row_id s.mutexes → Lives s.kern who → KeepsMutexes s → KeepsMutexes (take s who id n)
take_keeps s who id n is up lives kept =
    let row = after_take_keeps s who id n is up lives kept in
    let t : MutexState = after_take s who id n (take_deed who n (object_of s.mutexes id)) in
    at_once_keeps t.profile t.kern t.mutexes row.kern row.holds

-- ---- give
after_give_keeps : (s : MutexState) (who id : ℕ) → IsKern s.kern → Rising row_id s.mutexes → Lives s.kern who → KeepsMutexes s
    → IsKern (after_give s who id (give_deed who (object_of s.mutexes id))).kern × KeepsMutexes (after_give s who id (give_deed who (object_of s.mutexes id)))
after_give_keeps s who id is up lives kept =
    elim (give_deed who (object_of s.mutexes id)) as (λ d. GiveIs s.mutexes who id d → IsKern (after_give s who id d).kern × KeepsMutexes (after_give s who id d)) [
      | denied e ↦ λ said. (is, kept)
      | lowered m ↦ λ said. (kern_eased s.kern who m 1 is, shallow_keeps s who id m up said.0 said.2 kept)
      | given_up m ↦ λ said.
          let t : MutexState = pass_on s id m (first_waiter s.kern.tasks (mutex_place id)) in
          (kern_eased (letting_go s.profile t.kern who m) who m 1 (kern_letting_go s.profile t.kern who m (passed s id m is said.0 kept).kern), give_up_keeps s who id m is up lives said.0 said.1 kept)
    ] (give_is s.mutexes who id)

-- a give keeps the mutexes' invariant, and no task needs to be raised
pub give_same : (s : MutexState) (who id : ℕ) → IsKern s.kern → Rising row_id s.mutexes → Lives s.kern who → KeepsMutexes s
    → (give s who id ≡ after_give s who id (give_deed who (object_of s.mutexes id))) × KeepsMutexes (give s who id)
give_same s who id is up lives kept =
    let row = after_give_keeps s who id is up lives kept in
    let same = at_once_same (after_give s who id (give_deed who (object_of s.mutexes id))) row.0 row.1.urgent in
    (same, subst KeepsMutexes (sym same) row.1)
