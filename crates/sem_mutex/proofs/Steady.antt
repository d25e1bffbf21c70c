-- A property of every task, which a call on mutexes keeps for each task, holds after the call.
use Rattle.std.proofs.Common.{◌≡◌, ℕ, ◌+◌, ◌-◌, Bool, true, false, cond, not, ◌&&◌, eqb, ltb, leb, List, [], ◌∷◌, Option, None, Some, refl, sym, ap, subst}
use Rattle.std.specs.List.{All}
use Rattle.wind_base.specs.declared.errno.Errno.{Errno}
use Rattle.wind_base.specs.declared.errno.Errno.TheVariants as errors
use Rattle.id_table.specs.Rows.{object_of}
use Rattle.wind_base.specs.declared.profile.Profile.{Profile}
use Rattle.wind_base.specs.declared.profile.Profile.TheVariants.{One, Two}
use Rattle.task_block.specs.declared.task.Task.{Task}
use Rattle.id_table.specs.Sorting.{first}
use Rattle.id_table.proofs.Passing.{none_passes}
use Rattle.wind_core.specs.State.{KernState, IsKern, task_id, task_of}
use Rattle.wind_core.specs.Orders.{waiters, first_waiter, waits_at, waits_before}
use Rattle.wind_core.specs.Moves.{renewed, move_task, released, release, answered, wake_all, with_pri, has_pri, change_pri, set_held, set_safe, pended, wake_at}
use Rattle.wind_core.specs.Releases.{releases, release_all}
use Rattle.wind_core.proofs.Passes.{waits_before-order}
use Rattle.wind_core.proofs.Lawful.{none_left}
use Rattle.wind_core.proofs.Stable.{All-change, renew_task-stable, move_task-stable}
use Rattle.task_safety.specs.Safety.{deletion, safe_of, make_safe, lessen}
use Rattle.inheritance.specs.declared.mutex.Mutex.{Mutex}
use Rattle.inheritance.specs.Mutexes.{MutexState, mutex_place}
use Rattle.inheritance.specs.Reach.{lifted, repried}
use Rattle.sem_mutex.specs.Calls.{at_once, raised_at_once, held_of, holding, guarded, eased, restored, less_held, dropped, letting_go, hand, take, pass_on, give, ended, owner_ended, delete_alone, delete, TakeDeed, declined, taken, retaken, starved, take_deed, after_take, GiveDeed, denied, lowered, given_up, give_deed, after_give}

module _ (P : Task → Type 0) (renews : (since : ℕ) (t : Task) → P t → P (renewed since t)) (helds : (n : ℕ) (t : Task) → P t → P (record t { held = n })) (safes : (n : ℕ) (t : Task) → P t → P (record t { safe = n }))
    (pris : (p : ℕ) (t : Task) → P t → P (with_pri p t)) (goes : (t : Task) → P t → P (released t)) (answers : (a : ℕ) (e : Option Errno) (t : Task) → P t → P (answered a e t)) where
  change_pri-steady : (k : KernState) (who p : ℕ) → All P k.tasks → All P (change_pri k who p).tasks
  change_pri-steady k who p all = elim (has_pri p (task_of k.tasks who)) as (λ b. All P (cond b k (move_task k who (with_pri p))).tasks) [ true ↦ all | false ↦ move_task-stable P renews k who (with_pri p) (pris p) all ]

  repried-steady : (k : KernState) (goal : ℕ → ℕ) (us : List Task) → All P k.tasks → All P (repried k goal us).tasks
  repried-steady k goal [] all = all
  repried-steady k goal (u ∷ us) all = repried-steady (change_pri k u.id (goal u.id)) goal us (change_pri-steady k u.id (goal u.id) all)

  at_once-steady : (p : Profile) (k : KernState) (ms : List (ℕ × Mutex)) → All P k.tasks → All P (at_once p k ms).tasks
  at_once-steady One k ms all = repried-steady k (lifted One k ms) k.tasks all
  at_once-steady Two k ms all = all

  pub raised-steady : (s : MutexState) → All P s.kern.tasks → All P (raised_at_once s).kern.tasks
  raised-steady s all = at_once-steady s.profile s.kern s.mutexes all

  releases-steady : (k : KernState) (ts : List Task) → All P k.tasks → All P (releases k ts).tasks
  releases-steady k [] all = all
  releases-steady k (t ∷ ts) all = releases-steady (release k t.id) ts (move_task-stable P renews k t.id released goes all)

  pub lessen-steady : (k : KernState) (who n : ℕ) → All P k.tasks → All P (lessen k who n).tasks
  lessen-steady k who n all =
      let count : ℕ = safe_of (task_of k.tasks who) in
      let less : KernState = set_safe k who (count - n) in
      let kept : All P less.tasks = All-change P k.tasks who (λ t. record t { safe = count - n }) (safes (count - n)) all in
      elim (ltb 0 count && leb count n) as (λ b. All P (cond b (release_all less (deletion who)) less).tasks) [ true ↦ releases-steady less (waiters less.tasks (deletion who)) kept | false ↦ kept ]

  holding-steady : (k : KernState) (who : ℕ) (m : Mutex) → All P k.tasks → All P (holding k who m).tasks
  holding-steady k who m all = elim m.inversion_safe as (λ b. All P (cond b (set_held k who (held_of (task_of k.tasks who) + 1)) k).tasks) [ true ↦ All-change P k.tasks who (λ t. record t { held = held_of (task_of k.tasks who) + 1 }) (helds (held_of (task_of k.tasks who) + 1)) all | false ↦ all ]

  guarded-steady : (k : KernState) (who : ℕ) (m : Mutex) → All P k.tasks → All P (guarded k who m).tasks
  guarded-steady k who m all = elim m.delete_safe as (λ b. All P (cond b (make_safe k who) k).tasks) [ true ↦ All-change P k.tasks who (λ t. record t { safe = safe_of (task_of k.tasks who) + 1 }) (safes (safe_of (task_of k.tasks who) + 1)) all | false ↦ all ]

  eased-steady : (k : KernState) (who : ℕ) (m : Mutex) (n : ℕ) → All P k.tasks → All P (eased k who m n).tasks
  eased-steady k who m n all = elim m.delete_safe as (λ b. All P (cond b (lessen k who n) k).tasks) [ true ↦ lessen-steady k who n all | false ↦ all ]

  restored-steady : (p : Profile) (k : KernState) (who : ℕ) (o : Option Task) → All P k.tasks → All P (restored p k who o).tasks
  restored-steady Two k who o all = all
  restored-steady One k who None all = all
  restored-steady One k who (Some t) all = elim (eqb t.held 0) as (λ b. All P (cond b (change_pri k who t.normal) k).tasks) [ true ↦ change_pri-steady k who t.normal all | false ↦ all ]

  letting_go-steady : (p : Profile) (k : KernState) (who : ℕ) (m : Mutex) → All P k.tasks → All P (letting_go p k who m).tasks
  letting_go-steady p k who m all =
      elim m.inversion_safe as (λ b. All P (cond b (dropped p k who) k).tasks) [
        | true ↦ restored-steady p (less_held k who) who (task_of (less_held k who).tasks who) (All-change P k.tasks who (λ t. record t { held = held_of (task_of k.tasks who) - 1 }) (helds (held_of (task_of k.tasks who) - 1)) all)
        | false ↦ all
      ]

  hand-steady : (s : MutexState) (who id : ℕ) (m : Mutex) → All P s.kern.tasks → All P (hand s who id m).kern.tasks
  hand-steady s who id m all = guarded-steady (holding s.kern who m) who m (holding-steady s.kern who m all)

  pass_on-steady : (s : MutexState) (id : ℕ) (m : Mutex) (o : Option Task) → All P s.kern.tasks → All P (pass_on s id m o).kern.tasks
  pass_on-steady s id m None all = all
  pass_on-steady s id m (Some x) all = move_task-stable P renews (hand s x.id id m).kern x.id (answered 0 None) (answers 0 None) (hand-steady s x.id id m all)

  pub give-steady : (s : MutexState) (who id : ℕ) → All P s.kern.tasks → All P (give s who id).kern.tasks
  give-steady s who id all = raised-steady (after_give s who id (give_deed who (object_of s.mutexes id))) (row (give_deed who (object_of s.mutexes id)))
    where
      row : (d : GiveDeed) → All P (after_give s who id d).kern.tasks
      row (denied e) = all
      row (lowered m) = eased-steady s.kern who m 1 all
      row (given_up m) =
          let t : MutexState = pass_on s id m (first_waiter s.kern.tasks (mutex_place id)) in
          eased-steady (letting_go s.profile t.kern who m) who m 1 (letting_go-steady s.profile t.kern who m (pass_on-steady s id m (first_waiter s.kern.tasks (mutex_place id)) all))

  pub owner_ended-steady : (p : Profile) (k : KernState) (m : Mutex) (o : Option ℕ) → All P k.tasks → All P (owner_ended p k m o).tasks
  owner_ended-steady p k m None all = all
  owner_ended-steady p k m (Some o) all = each (task_of k.tasks o)
    where
      each : (q : Option Task) → All P (ended p k o m q).tasks
      each None = all
      each (Some t) = eased-steady (letting_go p k o m) o m m.depth (letting_go-steady p k o m all)

  pub take-steady : (s : MutexState) (who id n : ℕ) → ((fifo : Bool) (wake : Option ℕ) (t : Task) → P t → P (pended (mutex_place id) fifo wake t)) → All P s.kern.tasks → All P (take s who id n).kern.tasks
  take-steady s who id n pends all = raised-steady (after_take s who id n (take_deed who n (object_of s.mutexes id))) (row (take_deed who n (object_of s.mutexes id)))
    where
      row : (d : TakeDeed) → All P (after_take s who id n d).kern.tasks
      row (declined e) = all
      row (taken m) = hand-steady s who id m all
      row (retaken m) = guarded-steady s.kern who m all
      row (starved m) = renew_task-stable P renews s.kern who (pended (mutex_place id) (not m.by_priority) (wake_at 0 s.kern.tick n)) (pends (not m.by_priority) (wake_at 0 s.kern.tick n)) all

-- ---- no task waits for a mutex that was deleted
abbrev pub IsAway : ℕ → Task → Type 0
IsAway id t = waits_at (mutex_place id) t ≡ false

pub nobody_left : (s : MutexState) (id : ℕ) (m : Mutex) → IsKern s.kern → object_of s.mutexes id ≡ Some m → All (IsAway id) (delete s id).kern.tasks
nobody_left s id m is e =
    let k : KernState = wake_all s.kern (mutex_place id) 4294967295 (Some errors.ObjDeleted) in
    let none : All (IsAway id) k.tasks = none_passes task_id waits_before waits_before-order (waits_at (mutex_place id)) k.tasks (ap first (none_left s.kern is (mutex_place id) 4294967295 (Some errors.ObjDeleted))) in
    let row : All (IsAway id) (delete_alone s id (Some m)).kern.tasks = owner_ended-steady (IsAway id) (λ since t h. h) (λ n t h. h) (λ n t h. h) (λ p t h. h) (λ t h. refl) (λ a x t h. refl) s.profile k m m.owner none in
    subst (λ o. All (IsAway id) (raised_at_once (delete_alone s id o)).kern.tasks) (sym e)
    (raised-steady (IsAway id) (λ since t h. h) (λ n t h. h) (λ n t h. h) (λ p t h. h) (λ t h. refl) (λ a x t h. refl) (delete_alone s id (Some m)) row)
