-- The laws of the running task, of the orders of tasks, and of waking all.
use Rattle.std.proofs.Common.{◌≡◌, ℕ, ◌<◌, true, false, cond, ltb, List, [], ◌∷◌, Option, None, Some, refl, sym, ap, ◌∙◌, subst, inl, inr}
use Rattle.std.specs.List.{Contains, filter}
use Rattle.std.proofs.lemmas.Bool.{and_parts, and_from, ltb-true, lt-ltb}
use Rattle.std.proofs.lemmas.List.Elements.{All-contains}
use Rattle.std.proofs.lemmas.Option.{same_Some}
use Rattle.wind_base.specs.declared.errno.Errno.{Errno}
use Rattle.id_table.specs.declared.ident.Place.{Place}
use Rattle.task_block.specs.declared.task.Task.{Task}
use Rattle.task_block.specs.Standing.{is_ready}
use Rattle.id_table.proofs.Records.{found_id, found_at, found_in}
use Rattle.id_table.proofs.Orders.{first_least}
use Rattle.id_table.proofs.Passing.{contains_filter, front_found, front_passes, none_passes}
use Rattle.wind_core.specs.State.{KernState, IsKern, task_id, task_of}
use Rattle.wind_core.specs.Orders.{urgency, arrival, wait_key, is_before, waiters, keeps_running, keeper, last_task, or_else, most_urgent}
use Rattle.wind_core.specs.Moves.{end_wait, end_waits}
use Rattle.wind_core.specs.Laws.{WakeAllLaw, WaitersLaw, MayRun, RunnerLaw, LockLaw, IdleLaw}
use Rattle.wind_core.proofs.Passes.{neither, is_before-order, waits_before-order, arrives_before-order}
use Rattle.wind_core.proofs.Waking.{waiters-end_wait}
use Rattle.wind_core.proofs.Keeping.{end_wait_keeps}

-- ---- waking all
woken_each : (place : Place) (answer : ℕ) (errno : Option Errno) (ws : List Task) (s : KernState) → IsKern s → waiters s.tasks place ≡ ws
    → waiters (end_waits s ws answer errno).tasks place ≡ []
woken_each place answer errno [] s is e = e
woken_each place answer errno (x ∷ ws) s is e =
    woken_each place answer errno ws (end_wait s x.id answer errno) (end_wait_keeps s x.id answer errno is) (waiters-end_wait s place answer errno x ws is.rising e)

pub none_left : WakeAllLaw
none_left s is place answer errno = woken_each place answer errno (waiters s.tasks place) s is refl

-- ---- the orders
-- two tasks with the same id are the same task
one_task : (s : KernState) → IsKern s → (x y : Task) → Contains s.tasks x → Contains s.tasks y → x.id ≡ y.id → x ≡ y
one_task s is x y at_x at_y same =
    same_Some x y (sym (found_in task_id s.tasks x is.rising at_x) ∙ ap (task_of s.tasks) same ∙ found_in task_id s.tasks y is.rising at_y)

pub total_orders : WaitersLaw
total_orders = (
  record { order = waits_before-order; one = λ s is x y at_x at_y left right. one_task s is x y at_x at_y (let e = neither (wait_key x) (wait_key y) left right in cc) },
  record { order = is_before-order; one = λ s is x y at_x at_y left right. one_task s is x y at_x at_y (let e = neither (urgency x) (urgency y) left right in cc) },
  record { order = arrives_before-order; one = λ s is x y at_x at_y left right. one_task s is x y at_x at_y (let e = neither (arrival x) (arrival y) left right in cc) },
)

-- ---- which task runs
-- a task that goes on ran last, is ready and holds the scheduler lock
record IsKept (s : KernState) (x : Task) : Type 0 where
  found : task_of s.tasks x.id ≡ Some x
  last : s.last ≡ Some x.id
  ready : is_ready x ≡ true
  locked : 0 < x.locks

keeper_is : (o : Option Task) (x : Task) → keeper o ≡ Some x → (o ≡ Some x) × (keeps_running x ≡ true)
keeper_is None x e = absurd (cc)
keeper_is (Some t) x e =
    elim (keeps_running t) as (λ b. keeps_running t ≡ b → cond b (Some t) None ≡ Some x → (Some t ≡ Some x) × (keeps_running x ≡ true)) [
      | true ↦ λ k q. (q, subst (λ v. keeps_running v ≡ true) (same_Some t x q) k)
      | false ↦ λ k q. absurd (cc)
    ] refl e

last_is : (ts : List Task) (o : Option ℕ) (x : Task) → last_task ts o ≡ Some x → (o ≡ Some x.id) × (task_of ts x.id ≡ Some x)
last_is ts None x e = absurd (cc)
last_is ts (Some id) x e = let same = found_id task_id ts id x e in (ap Some (sym same), ap (task_of ts) same ∙ e)

is_kept : (s : KernState) (x : Task) → keeper (last_task s.tasks s.last) ≡ Some x → IsKept s x
is_kept s x e =
    let kept = keeper_is (last_task s.tasks s.last) x e in
    let ran = last_is s.tasks s.last x kept.0 in
    let parts = and_parts (is_ready x) (ltb 0 x.locks) kept.1 in
    record { found = ran.1; last = ran.0; ready = parts.0; locked = ltb-true 0 x.locks parts.1 }

kept_runs : (s : KernState) (x : Task) → IsKept s x → MayRun s x
kept_runs s x kept = record { lives = found_at task_id s.tasks x.id x kept.found; ready = kept.ready; urgent = λ u at ready. inr (kept.last, kept.locked) }

urgent_runs : (s : KernState) (x : Task) → IsKern s → most_urgent s.tasks ≡ Some x → MayRun s x
urgent_runs s x is e = record {
  lives = found_at task_id s.tasks x.id x (front_found task_id is_before is_before-order is_ready s.tasks x is.rising e);
  ready = front_passes task_id is_before is_before-order is_ready s.tasks x e;
  urgent = λ u at ready.
      inl ((first_least is_before is_before-order (filter is_ready s.tasks) x e).1 u (All-contains (λ y. is_ready y ≡ true → Contains (filter is_ready s.tasks) y) s.tasks u (contains_filter is_ready s.tasks) at ready));
}

either_runs : (s : KernState) (o p : Option Task) (x : Task) → (o ≡ Some x → MayRun s x) → (p ≡ Some x → MayRun s x) → or_else o p ≡ Some x → MayRun s x
either_runs s None p x left right e = right e
either_runs s (Some y) p x left right e = left e

pub runner_may : RunnerLaw
runner_may s is x e = either_runs s (keeper (last_task s.tasks s.last)) (most_urgent s.tasks) x (λ q. kept_runs s x (is_kept s x q)) (urgent_runs s x is) e

pub lock_keeps : LockLaw
lock_keeps s is x at last ready locked =
    ap (λ o. or_else (keeper (last_task s.tasks o)) (most_urgent s.tasks)) last
    ∙ ap (λ o. or_else (keeper o) (most_urgent s.tasks)) (found_in task_id s.tasks x is.rising at)
    ∙ ap (λ b. or_else (cond b (Some x) None) (most_urgent s.tasks)) (and_from (is_ready x) (ltb 0 x.locks) ready (lt-ltb 0 x.locks locked))

neither_runs : (o p : Option Task) → or_else o p ≡ None → p ≡ None
neither_runs None p e = e
neither_runs (Some y) p e = absurd (cc)

pub nobody_ready : IdleLaw
nobody_ready s e = none_passes task_id is_before is_before-order is_ready s.tasks (neither_runs (keeper (last_task s.tasks s.last)) (most_urgent s.tasks) e)
