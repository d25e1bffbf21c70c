-- One task is written in the kernel's table: the state after it, and that the invariant holds if the queues agree.
use Rattle.std.proofs.Common.{◌≡◌, ℕ, ◌+◌, ◌<◌, ◌≤◌, Bool, true, false, ◌||◌, cond, eqb, List, Option, None, Some, IsSome, IfSome, refl, sym, ap, ◌∙◌, subst, arith, ◌⊎◌, inl, inr, ⊎_elim}
use Rattle.std.specs.List.{All}
use Rattle.std.proofs.lemmas.Bool.{eqb-false}
use Rattle.std.proofs.lemmas.List.{length-map}
use Rattle.std.proofs.lemmas.List.Elements.{All-contains, All-weaker}
use Rattle.wind_base.specs.Limits.{greatest_id, most_tasks, wait_forever}
use Rattle.id_table.specs.Rows.{object_of, objects, rewritten}
use Rattle.id_table.proofs.Owning.{object-record, objects-replace, OwnIds-write}
use Rattle.task_block.specs.declared.task.Task.{Task}
use Rattle.task_block.specs.Standing.{is_ready}
use Rattle.id_table.specs.Records.{replace, change}
use Rattle.wait_order.specs.Line.{Line}
use Rattle.ready_queue.specs.Order as urgent
use Rattle.delay_queue.specs.Wakes as timed
use Rattle.id_table.proofs.Records.{replace-change, All-replace, AllPairs-replace, found_at, found_id}
use Rattle.wind_core.specs.State.{KernState, IsKern, Lives, WakesAhead, task_id, task_of}
use Rattle.wind_core.specs.Inside.{SameIds}
use Rattle.wind_core.specs.Queues.{AreQueued}
use Rattle.wind_core.specs.Moves.{renewed, settled, change_task, renew_task, move_found, move_task, is_endless, wake_at, delayed}
use Rattle.wind_core.specs.declared.kern.Kern.TheInside.{Inside}
use Rattle.wind_core.specs.contracts.kern.Kern.{the_view}

-- the invariant of the kernel's type
abbrev pub Kept : Inside → Type 0
Kept k = (k.tasks.room ≡ most_tasks) × SameIds k.tasks.rows × IsKern (the_view k) × AreQueued k.waits k.ready k.delays (objects k.tasks.rows)

-- the counters can rise, and the notes change, as long as no task is delayed past its wake
pub counters_rise : (s : KernState) (id since tick slice : ℕ) (lent : Bool) (last : Option ℕ) → IsKern s → s.next_id ≤ id → id ≤ greatest_id + 1
    → s.next_since ≤ since → All (WakesAhead tick) s.tasks
    → IsKern (record s { next_id = id; next_since = since; tick = tick; slice = slice; lent = lent; last = last })
counters_rise s id since tick slice lent last is ids last_id sinces ahead = record {
  few = is.few;
  rising = is.rising;
  ids = All-weaker (λ (t : Task). t.id < s.next_id) (λ (t : Task). t.id < id) (λ t below. omega (arith, below, ids)) s.tasks is.ids;
  first_id = omega (arith, is.first_id, ids);
  last_id = last_id;
  distinct = is.distinct;
  sinces = All-weaker (λ (t : Task). t.since < s.next_since) (λ (t : Task). t.since < since) (λ t below. omega (arith, below, sinces)) s.tasks is.sinces;
  ahead = ahead;
}

-- the kernel with y as the object of an id, n as the next order number, and these queues
abbrev pub requeued : Inside → ℕ → Task → ℕ → Line → urgent.Order → timed.Order → Inside
requeued k who y n l r d = record k { tasks = rewritten k.tasks who y; next_since = n; waits = l; ready = r; delays = d }

-- the same with the queues unchanged
abbrev pub written : Inside → ℕ → Task → ℕ → Inside
written k who y n = record k { tasks = rewritten k.tasks who y; next_since = n }

-- the tasks, with y as the object with an id
abbrev pub tasks_with : Inside → ℕ → Task → List Task
tasks_with k who y = replace task_id (objects k.tasks.rows) who y

-- a live task is in the table
pub object_lives : (k : Inside) (s : KernState) (who : ℕ) → Kept k → the_view k ≡ s → Lives s who → IsSome (object_of k.tasks.rows who)
object_lives k s who kept is lives = subst (λ o. IsSome o) (sym (object-record task_id k.tasks.rows who kept.1 ∙ ap (λ r. task_of r.tasks who) is)) lives

pub found : (k : Inside) (who : ℕ) (x : Task) → Kept k → object_of k.tasks.rows who ≡ Some x → task_of (the_view k).tasks who ≡ Some x
found k who x kept value = sym (object-record task_id k.tasks.rows who kept.1) ∙ value

-- ---- the state
pub written_is : (k : Inside) (who n : ℕ) (x y : Task) (f : Task → Task) → Kept k → object_of k.tasks.rows who ≡ Some x → y ≡ f x
    → ◌≡◌ {A = KernState} (the_view (written k who y n)) (record (the_view k) { tasks = change task_id (the_view k).tasks who f; next_since = n })
written_is k who n x y f kept value e =
    ap {B = KernState} (λ ts. record (the_view k) { tasks = ts; next_since = n })
    (objects-replace task_id k.tasks.rows who y kept.1
    ∙ ap (replace task_id (objects k.tasks.rows) who) e
    ∙ replace-change task_id (objects k.tasks.rows) who x f kept.2.rising (found k who x kept value))

pub changed : (k : Inside) (who : ℕ) (x y : Task) (f : Task → Task) → Kept k → object_of k.tasks.rows who ≡ Some x → y ≡ f x
    → the_view (written k who y k.next_since) ≡ change_task (the_view k) who f
changed k who x y f kept value e = written_is k who k.next_since x y f kept value e

-- u is f of x, and y is u with a new order number
pub renews_to : (k : Inside) (who n : ℕ) (x u y : Task) (f : Task → Task) → Kept k → object_of k.tasks.rows who ≡ Some x → u ≡ f x → y ≡ renewed k.next_since u → n ≡ k.next_since + 1
    → the_view (written k who y n) ≡ renew_task (the_view k) who f
renews_to k who n x u y f kept value made e next =
    written_is k who n x y (λ t. renewed k.next_since (f t)) kept value (e ∙ ap (renewed k.next_since) made)
    ∙ ap {B = KernState} (λ m. record (the_view k) { tasks = change task_id (the_view k).tasks who (λ t. renewed k.next_since (f t)); next_since = m }) next

-- u is f of x, and y is u with a new order number if it is ready
pub moves : (k : Inside) (who n : ℕ) (x u y : Task) (f : Task → Task) → Kept k → object_of k.tasks.rows who ≡ Some x → u ≡ f x → y ≡ settled k.next_since u
    → n ≡ k.next_since + cond (is_ready u) 1 0 → the_view (written k who y n) ≡ move_task (the_view k) who f
moves k who n x u y f kept value made e next =
    written_is k who n x y (λ t. settled k.next_since (f t)) kept value (e ∙ ap (settled k.next_since) made)
    ∙ ap {B = KernState} (λ m. record (the_view k) { tasks = change task_id (the_view k).tasks who (λ t. settled k.next_since (f t)); next_since = m }) (next ∙ ap (λ t. k.next_since + cond (is_ready t) 1 0) made)
    ∙ ap (move_found (the_view k) who f) (sym (found k who x kept value))

-- ---- the invariant
-- y can replace x, with n as the next order number after that
pub record MayFollow (s : KernState) (x y : Task) (n : ℕ) : Type 0 where
  pub id : y.id ≡ x.id
  pub since : ((y.since ≡ x.since) × (n ≡ s.next_since)) ⊎ ((y.since ≡ s.next_since) × (n ≡ s.next_since + 1))
  pub ahead : WakesAhead s.tick x → WakesAhead s.tick y

pub IsKern-replace : (s : KernState) (who n : ℕ) (x y : Task) → IsKern s → task_of s.tasks who ≡ Some x → MayFollow s x y n
    → IsKern (record s { tasks = replace task_id s.tasks who y; next_since = n })
IsKern-replace s who n x y is here may =
    let there = found_at task_id s.tasks who x here in
    let since_x : x.since < s.next_since = All-contains (λ t. t.since < s.next_since) s.tasks x is.sinces there in
    record {
      few = omega (arith, is.few, length-map s.tasks (λ t. cond (eqb t.id who) y t));
      rising = AllPairs-replace task_id (λ t. t.id < s.next_id) (λ t u. t.id < u.id) s.tasks who x y is.rising here is.ids is.rising
          (λ u _ h. omega (arith, may.id, h)) (λ u _ h. omega (arith, may.id, h));
      ids = All-replace task_id (λ t. t.id < s.next_id) s.tasks who y is.ids (omega (arith, may.id, All-contains (λ t. t.id < s.next_id) s.tasks x is.ids there));
      first_id = is.first_id;
      last_id = is.last_id;
      distinct = AllPairs-replace task_id (λ t. t.since < s.next_since) (λ t u. t.since ≡ u.since → ⊥) s.tasks who x y is.rising here is.sinces is.distinct
          (λ u below other same. ⊎_elim (λ stays. other (same ∙ stays.0)) (λ fresh. omega (arith, below, fresh.0, same)) may.since)
          (λ u below other same. ⊎_elim (λ stays. other (sym stays.0 ∙ same)) (λ fresh. omega (arith, below, fresh.0, same)) may.since);
      sinces = All-replace task_id (λ t. t.since < n) s.tasks who y
          (All-weaker (λ t. t.since < s.next_since) (λ t. t.since < n) (λ t below. ⊎_elim (λ stays. omega (arith, below, stays.1)) (λ fresh. omega (arith, below, fresh.1)) may.since) s.tasks is.sinces)
          (⊎_elim (λ stays. omega (arith, stays.0, stays.1, since_x)) (λ fresh. omega (arith, fresh.0, fresh.1)) may.since);
      ahead = All-replace task_id (WakesAhead s.tick) s.tasks who y is.ahead (may.ahead (All-contains (WakesAhead s.tick) s.tasks x is.ahead there));
    }

-- if the task with an id is written and the queues agree with it, the invariant of the kernel's type holds again
pub written_keeps : (k : Inside) (who n : ℕ) (x y : Task) (l : Line) (r : urgent.Order) (d : timed.Order) → Kept k → object_of k.tasks.rows who ≡ Some x → MayFollow (the_view k) x y n
    → AreQueued l r d (tasks_with k who y) → Kept (requeued k who y n l r d)
written_keeps k who n x y l r d kept value may queued =
    let here = found k who x kept value in (
      kept.0,
      OwnIds-write task_id k.tasks.rows who y kept.1 (may.id ∙ found_id task_id (objects k.tasks.rows) who x here),
      subst (λ ts. IsKern (record (the_view k) { tasks = ts; next_since = n })) (sym (objects-replace task_id k.tasks.rows who y kept.1)) (IsKern-replace (the_view k) who n x y kept.2 here may),
      subst (AreQueued l r d) (sym (objects-replace task_id k.tasks.rows who y kept.1)) queued,
    )

-- and the state is the one in which f changes the task
pub sets : (k : Inside) (s : KernState) (who : ℕ) (x y : Task) (f : Task → Task) → Kept k → the_view k ≡ s → object_of k.tasks.rows who ≡ Some x → y ≡ f x
    → the_view (written k who y k.next_since) ≡ change_task s who f
sets k s who x y f kept is value e = changed k who x y f kept value e ∙ ap (λ r. change_task r who f) is

-- ---- a task that is settled
settled_since : (n m : ℕ) (x u : Task) → u.since ≡ x.since → m ≡ n + cond (is_ready u) 1 0
    → (((settled n u).since ≡ x.since) × (m ≡ n)) ⊎ (((settled n u).since ≡ n) × (m ≡ n + 1))
settled_since n m x u same next =
    elim (is_ready u) as (λ b. m ≡ n + cond b 1 0 → (((cond b (renewed n u) u).since ≡ x.since) × (m ≡ n)) ⊎ (((cond b (renewed n u) u).since ≡ n) × (m ≡ n + 1))) [
      | true ↦ λ q. inr (refl, q)
      | false ↦ λ q. inl (same, omega (arith, q))
    ] next

pub settled_id : (n : ℕ) (u : Task) → (settled n u).id ≡ u.id
settled_id n u = elim (is_ready u) as (λ b. (cond b (renewed n u) u).id ≡ u.id) [ true ↦ refl | false ↦ refl ]

pub settled_wake : (n : ℕ) (u : Task) → (settled n u).wake ≡ u.wake
settled_wake n u = elim (is_ready u) as (λ b. (cond b (renewed n u) u).wake ≡ u.wake) [ true ↦ refl | false ↦ refl ]

-- u, which is made from x with its id and order number, can follow it with a new order number if it is ready
pub settled_follows : (s : KernState) (x u : Task) → u.id ≡ x.id → u.since ≡ x.since → (WakesAhead s.tick x → WakesAhead s.tick u)
    → MayFollow s x (settled s.next_since u) (s.next_since + cond (is_ready u) 1 0)
settled_follows s x u id since ahead = record {
  id = settled_id s.next_since u ∙ id;
  since = settled_since s.next_since (s.next_since + cond (is_ready u) 1 0) x u since refl;
  ahead = λ h. subst (λ w. IfSome w (λ v. s.tick < v)) (sym (settled_wake s.next_since u)) (ahead h);
}

-- ---- wakes
pub wake_ahead : (side tick n : ℕ) → 0 < n → IfSome (wake_at side tick n) (λ wake. tick < wake)
wake_ahead side tick n some =
    elim (is_endless side || eqb n wait_forever) as (λ b. IfSome (cond b None (Some (tick + n))) (λ wake. tick < wake)) [ true ↦ tt | false ↦ omega (arith, some) ]

pub delayed_id : (tick n : ℕ) (t : Task) → (delayed tick n t).id ≡ t.id
delayed_id tick n t = elim (eqb n 0) as (λ b. (cond b t (record t { wake = Some (tick + n); turns = 0 })).id ≡ t.id) [ true ↦ refl | false ↦ refl ]

pub delayed_ahead : (tick n : ℕ) (t : Task) → WakesAhead tick t → WakesAhead tick (delayed tick n t)
delayed_ahead tick n t ahead =
    elim (eqb n 0) as (λ b. eqb n 0 ≡ b → WakesAhead tick (cond b t (record t { wake = Some (tick + n); turns = 0 }))) [
      | true ↦ λ e. ahead
      | false ↦ λ e. omega (arith, eqb-false n 0 e)
    ] refl
