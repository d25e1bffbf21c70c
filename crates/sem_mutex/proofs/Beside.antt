-- Each kernel call that doesn't concern mutexes keeps their invariant.
use Rattle.std.proofs.Common.{◌≡◌, ℕ, ◌+◌, ◌-◌, ◌<◌, ◌≤◌, Bool, true, false, cond, ◌&&◌, not, eqb, ltb, leb, List, [], ◌∷◌, Option, None, Some, refl, ◌∙◌, arith, inr}
use Rattle.std.specs.List.{All}
use Rattle.std.proofs.lemmas.List.Elements.{All-filter, All-push}
use Rattle.wind_base.specs.declared.errno.Errno.{Errno}
use Rattle.wind_base.specs.declared.regs.Regs.{Regs}
use Rattle.id_table.specs.declared.ident.Place.{Place}
use Rattle.task_block.specs.declared.task.Task.{Task}
use Rattle.task_block.specs.declared.task.NewTask.{NewTask}
use Rattle.wind_core.specs.State.{KernState, task_of}
use Rattle.wind_core.specs.Orders.{waiters}
use Rattle.wind_core.specs.Moves.{move_task, new_task, spawn, remove, wake_at, pended, pend, delayed, delay, released, release, answered, end_wait, end_waits, wake_all, suspended, suspend, resumed, is_suspended, resume, unmarked, reset, set_safe, set_regs}
use Rattle.wind_core.specs.Releases.{releases, release_all}
use Rattle.wind_core.specs.Tick.{tick}
use Rattle.wind_core.proofs.Stable.{move_task-stable, tick-stable}
use Rattle.wind_core.proofs.NextId.{next-move, next-tick}
use Rattle.task_safety.specs.Safety.{deletion, safe_of, lessen}
use Rattle.inheritance.specs.declared.mutex.Mutex.{Mutex}
use Rattle.inheritance.specs.Reach.{mutex_at}
use Rattle.sem_mutex.proofs.Following.{Same, Comes, Follows, alike, goes_on, comes_on, themselves, renews, by_change, by_renewal, by_move}

module _ (ms : List (ℕ × Mutex)) where
  -- ---- several waits end
  answers_on : (k r : KernState) (who a : ℕ) (e : Option Errno) → All (Comes ms k) r.tasks → All (Comes ms k) (end_wait r who a e).tasks
  answers_on k r who a e all = move_task-stable (Comes ms k) (renews ms k) r who (answered a e) (λ t comes. comes_on ms k t (answered a e t) comes (goes_on ms k t (answered a e t) refl refl refl refl refl)) all

  releases_on : (k r : KernState) (who : ℕ) → All (Comes ms k) r.tasks → All (Comes ms k) (release r who).tasks
  releases_on k r who all = move_task-stable (Comes ms k) (renews ms k) r who released (λ t comes. comes_on ms k t (released t) comes (goes_on ms k t (released t) refl refl refl refl refl)) all

  end_waits_on : (k r : KernState) (ts : List Task) (a : ℕ) (e : Option Errno) → r.next_id ≡ k.next_id → All (Comes ms k) r.tasks → Follows ms k (end_waits r ts a e)
  end_waits_on k r [] a e same all = record { next = omega (arith, same); tasks = all }
  end_waits_on k r (t ∷ ts) a e same all = end_waits_on k (end_wait r t.id a e) ts a e (next-move r t.id (answered a e) ∙ same) (answers_on k r t.id a e all)

  all_released : (k r : KernState) (ts : List Task) → r.next_id ≡ k.next_id → All (Comes ms k) r.tasks → Follows ms k (releases r ts)
  all_released k r [] same all = record { next = omega (arith, same); tasks = all }
  all_released k r (t ∷ ts) same all = all_released k (release r t.id) ts (next-move r t.id released ∙ same) (releases_on k r t.id all)

  -- ---- a tick
  module _ (k : KernState) where
    pub follows-tick : Follows ms k (tick k)
    follows-tick = record {
      next = omega (arith, next-tick k);
      tasks = tick-stable (Comes ms k) (renews ms k)
          (λ a e t comes. comes_on ms k t (answered a e t) comes (goes_on ms k t (answered a e t) refl refl refl refl refl))
          (λ n t comes. comes_on ms k t (record t { turns = n }) comes (alike ms k t (record t { turns = n }) refl refl refl refl refl refl))
          k (themselves ms k);
    }

    -- ---- waits
    pub follows-pend : (who : ℕ) (place : Place) (fifo : Bool) (n : ℕ) → mutex_at ms (Some place) ≡ None → place.id < k.next_id → Follows ms k (pend k who place fifo n)
    follows-pend who place fifo n other made =
        by_renewal ms k who (pended place fifo (wake_at place.side k.tick n)) (λ t. record { id = refl; pri = refl; normal = refl; held = refl; wait = inr (record { other = other; made = made }) })

    pub follows-delay : (who n : ℕ) → Follows ms k (delay k who n)
    follows-delay who n =
        by_renewal ms k who (delayed k.tick n) (λ t.
        elim (eqb n 0) as (λ b. Same ms k.next_id t (cond b t (record t { wake = Some (k.tick + n); turns = 0 }))) [
          | true ↦ alike ms k t t refl refl refl refl refl refl
          | false ↦ alike ms k t (record t { wake = Some (k.tick + n); turns = 0 }) refl refl refl refl refl refl
        ])

    pub follows-release : (who : ℕ) → Follows ms k (release k who)
    follows-release who = by_move ms k who released (λ t. goes_on ms k t (released t) refl refl refl refl refl)

    pub follows-end_wait : (who a : ℕ) (e : Option Errno) → Follows ms k (end_wait k who a e)
    follows-end_wait who a e = by_move ms k who (answered a e) (λ t. goes_on ms k t (answered a e t) refl refl refl refl refl)

    pub follows-wake_all : (place : Place) (a : ℕ) (e : Option Errno) → Follows ms k (wake_all k place a e)
    follows-wake_all place a e = end_waits_on k k (waiters k.tasks place) a e refl (themselves ms k)

    pub follows-release_all : (place : Place) → Follows ms k (release_all k place)
    follows-release_all place = all_released k k (waiters k.tasks place) refl (themselves ms k)

    -- ---- tasks are made and removed
    pub follows-remove : (who : ℕ) → Follows ms k (remove k who)
    follows-remove who = record { next = omega arith; tasks = All-filter (λ t. not (eqb t.id who)) (Comes ms k) k.tasks (themselves ms k) }

    pub follows-spawn : (n : NewTask) → Follows ms k (spawn k n)
    follows-spawn n = record {
      next = omega arith;
      tasks = All-push (Comes ms k) k.tasks (new_task k.next_id k.next_since n) (themselves ms k) (inr (record { held = refl; pri = refl; id = omega arith; wait = record { other = refl; made = tt } }));
    }

    -- another object drew ids
    pub follows-ids : (n : ℕ) → k.next_id ≤ n → Follows ms k (record k { next_id = n })
    follows-ids n more = record { next = more; tasks = themselves ms k }

    pub follows-lent : (on : Bool) → Follows ms k (record k { lent = on })
    follows-lent on = record { next = omega arith; tasks = themselves ms k }

    pub follows-last : (last : Option ℕ) → Follows ms k (record k { last = last })
    follows-last last = record { next = omega arith; tasks = themselves ms k }

    pub follows-slice : (n : ℕ) → Follows ms k (record k { slice = n })
    follows-slice n = record { next = omega arith; tasks = themselves ms k }

    -- ---- one task's other fields
    pub follows-suspend : (who : ℕ) → Follows ms k (suspend k who)
    follows-suspend who = by_change ms k who suspended (λ t. alike ms k t (suspended t) refl refl refl refl refl refl)

    pub follows-resume : (who : ℕ) → Follows ms k (resume k who)
    follows-resume who =
        elim (is_suspended (task_of k.tasks who)) as (λ b. Follows ms k (cond b (move_task k who resumed) k)) [
          | true ↦ by_move ms k who resumed (λ t. alike ms k t (resumed t) refl refl refl refl refl refl)
          | false ↦ record { next = omega arith; tasks = themselves ms k }
        ]

    pub follows-reset : (who : ℕ) → Follows ms k (reset k who)
    follows-reset who = by_renewal ms k who unmarked (λ t. alike ms k t (unmarked t) refl refl refl refl refl refl)

    pub follows-set_safe : (who n : ℕ) → Follows ms k (set_safe k who n)
    follows-set_safe who n = by_change ms k who (λ t. record t { safe = n }) (λ t. alike ms k t (record t { safe = n }) refl refl refl refl refl refl)

    pub follows-set_regs : (who : ℕ) (regs : Regs) → Follows ms k (set_regs k who regs)
    follows-set_regs who regs = by_change ms k who (λ t. record t { regs = regs }) (λ t. alike ms k t (record t { regs = regs }) refl refl refl refl refl refl)

    -- ---- safe sections
    pub follows-lessen : (who n : ℕ) → Follows ms k (lessen k who n)
    follows-lessen who n =
        let count : ℕ = safe_of (task_of k.tasks who) in
        let less : KernState = set_safe k who (count - n) in
        let step = follows-set_safe who (count - n) in
        elim (ltb 0 count && leb count n) as (λ b. Follows ms k (cond b (release_all less (deletion who)) less)) [
          | true ↦ all_released k less (waiters less.tasks (deletion who)) refl step.tasks
          | false ↦ step
        ]
