-- Tasks are made and removed.
use Rattle.std.proofs.Common.{◌≡◌, ℕ, ◌+◌, ◌<◌, ◌≤◌, Bool, true, not, cond, eqb, List, [], ◌∷◌, ◌++◌, length, None, Some, IfSome, refl, sym, ap, ◌∙◌, subst, arith}
use Rattle.std.specs.List.{All}
use Rattle.std.proofs.lemmas.Bool.{ne_eqb}
use Rattle.std.proofs.lemmas.List.{length_push, length-map, get_or-map, map-append}
use Rattle.std.proofs.lemmas.List.Elements.{All-filter, All-push, All-head, All-tail, All-weaker}
use Rattle.std.proofs.lemmas.List.Kept.{AllPairs-filter}
use Rattle.std.proofs.lemmas.List.Quantifiers.{all_pairs_push}
use Rattle.id_table.specs.Rows.{objects, added, removed, IdsBelow}
use Rattle.id_table.specs.Rows as table
use Rattle.id_table.specs.Source.{Ids, one_given}
use Rattle.id_table.proofs.Owning.{objects-without}
use Rattle.task_block.specs.declared.task.Task.{Task}
use Rattle.task_block.specs.declared.task.NewTask.{NewTask}
use Rattle.task_block.specs.Standing.{is_ready}
use Rattle.id_table.specs.Records.{without}
use Rattle.id_table.proofs.Passing.{length-filter}
use Rattle.wait_order.specs.Line.{Line, waiter_id, without_waiter}
use Rattle.wait_order.proofs.LineOrder.{line_alike}
use Rattle.ready_queue.specs.Order as urgent
use Rattle.delay_queue.specs.Wakes as timed
use Rattle.wind_base.specs.Limits.{most_tasks}
use Rattle.wind_core.specs.State.{KernState, IsKern, WakesAhead, task_id, task_of}
use Rattle.wind_core.specs.Moves.{new_task, remove}
use Rattle.wind_core.specs.Queues.{as_ready, AreQueued}
use Rattle.wind_core.specs.Waiting.{waits_of}
use Rattle.wind_core.proofs.Waiting.{waits_without, waits_push}
use Rattle.wind_core.proofs.Queued.{ready_without, ready_push, ready_absent, length-ready, delayed_without, delayed_push}
use Rattle.wind_core.specs.declared.kern.Kern.TheInside.{Inside}
use Rattle.wind_core.specs.contracts.kern.Kern.{the_view}
use Rattle.wind_core.proofs.Writes.{Kept}

-- ---- a task is removed
pub without_keeps : (s : KernState) (who : ℕ) → IsKern s → IsKern (remove s who)
without_keeps s who is =
    let stays : Task → Bool = λ t. not (eqb t.id who) in
    record {
      few = omega (arith, is.few, length-filter stays s.tasks);
      rising = AllPairs-filter (λ t u. t.id < u.id) stays s.tasks is.rising;
      ids = All-filter stays (λ t. t.id < s.next_id) s.tasks is.ids;
      first_id = is.first_id;
      last_id = is.last_id;
      distinct = AllPairs-filter (λ t u. t.since ≡ u.since → ⊥) stays s.tasks is.distinct;
      sinces = All-filter stays (λ t. t.since < s.next_since) s.tasks is.sinces;
      ahead = All-filter stays (WakesAhead s.tick) s.tasks is.ahead;
    }

abbrev pub taken_out : Inside → ℕ → Line → urgent.Order → timed.Order → Inside
taken_out k who l r d = record k { tasks = removed k.tasks who; waits = l; ready = r; delays = d }

pub removed_is : (k : Inside) (who : ℕ) (l : Line) (r : urgent.Order) (d : timed.Order) → Kept k → the_view (taken_out k who l r d) ≡ remove (the_view k) who
removed_is k who l r d kept = ap {B = KernState} (λ ts. record (the_view k) { tasks = ts }) (objects-without task_id k.tasks.rows who kept.1)

pub removed_keeps : (k : Inside) (who : ℕ) (l : Line) (r : urgent.Order) (d : timed.Order) → Kept k
    → l ≡ without_waiter k.waits who → r ≡ urgent.without_task k.ready who → d ≡ timed.without_task k.delays who → Kept (taken_out k who l r d)
removed_keeps k who l r d kept waits ready delays = (
  kept.0,
  All-filter (λ r. not (eqb r.0 who)) (λ (r : ℕ × Task). r.1.id ≡ r.0) k.tasks.rows kept.1,
  subst IsKern (sym (removed_is k who l r d kept)) (without_keeps (the_view k) who kept.2),
  subst (AreQueued l r d) (sym (objects-without task_id k.tasks.rows who kept.1))
      (record {
        waits_held = waits
            ∙ ap (λ m. without_waiter m who) kept.3.waits_held
            ∙ line_alike (without waiter_id (waits_of (objects k.tasks.rows)) who) (waits_of (without task_id (objects k.tasks.rows) who)) most_tasks (sym (waits_without (objects k.tasks.rows) who));
        ready_held = ready ∙ ap (λ o. urgent.without_task o who) kept.3.ready_held ∙ ready_without (objects k.tasks.rows) who;
        delays_held = delays ∙ ap (λ o. timed.without_task o who) kept.3.delays_held ∙ delayed_without (objects k.tasks.rows) who;
      }),
)

-- ---- a task is made
pub ids_below : (k : Inside) → Kept k → IdsBelow k.ids.next k.tasks.rows
ids_below k kept i d within =
    let id : Task → ℕ = task_id in
    let read = get_or-map (λ (r : ℕ × Task). r.1) k.tasks.rows i d d.1 within in
    subst (λ n. n < k.ids.next) (ap task_id read ∙ kept.1 i d within) (kept.2.ids i d.1 (omega (arith, within, length-map k.tasks.rows (λ (r : ℕ × Task). r.1))))

pub push_keeps : (s : KernState) (t : Task) → IsKern s → length s.tasks < 256 → s.next_id ≤ 1048576 → t.id ≡ s.next_id → t.since ≡ s.next_since → WakesAhead s.tick t
    → IsKern (record s { tasks = s.tasks ++ t ∷ []; next_id = s.next_id + 1; next_since = s.next_since + 1 })
push_keeps s t is few left id since ahead = record {
  few = omega (arith, length_push s.tasks t);
  rising = all_pairs_push (λ u v. u.id < v.id) s.tasks t is.rising (λ k d hk. omega (arith, id, is.ids k d hk));
  ids = All-push (λ u. u.id < s.next_id + 1) s.tasks t (λ k d hk. omega (arith, is.ids k d hk)) (omega arith);
  first_id = omega arith;
  last_id = omega arith;
  distinct = all_pairs_push (λ u v. u.since ≡ v.since → ⊥) s.tasks t is.distinct (λ k d hk same. omega (arith, since, same, is.sinces k d hk));
  sinces = All-push (λ u. u.since < s.next_since + 1) s.tasks t (λ k d hk. omega (arith, is.sinces k d hk)) (omega arith);
  ahead = All-push (WakesAhead s.tick) s.tasks t is.ahead ahead;
}

-- the queues after a last task is added, which is ready
added_queues : (k : Inside) (t : Task) (r : urgent.Order) → Kept k → t.since ≡ k.next_since → t.wake ≡ None → t.wait ≡ None → is_ready t ≡ true → r ≡ urgent.with_task k.ready (as_ready t)
    → AreQueued k.waits r k.delays (objects k.tasks.rows ++ t ∷ [])
added_queues k t r kept since awake free ready e =
    let ts = objects k.tasks.rows in
    record {
      waits_held = kept.3.waits_held ∙ line_alike (waits_of ts) (waits_of (ts ++ t ∷ [])) most_tasks (sym (waits_push ts t free));
      ready_held = e ∙ ap (λ o. urgent.with_task o (as_ready t)) kept.3.ready_held
          ∙ sym (ready_push ts t ready (All-weaker (λ u. u.since < k.next_since) (λ u. u.since < t.since) (λ u h. omega (arith, since, h)) ts kept.2.sinces));
      delays_held = kept.3.delays_held ∙ sym (delayed_push ts t awake);
    }

pub added_keeps : (k : Inside) (t : Task) (r : urgent.Order) → Kept k → length (the_view k).tasks < 256 → k.ids.next ≤ 1048576 → t.id ≡ k.ids.next → t.since ≡ k.next_since → t.wake ≡ None → t.wait ≡ None
    → is_ready t ≡ true → r ≡ urgent.with_task k.ready (as_ready t) → Kept (record k { tasks = added k.tasks k.ids.next t; ids = one_given k.ids; next_since = k.next_since + 1; ready = r })
added_keeps k t r kept few left id since awake free ready e = (
  kept.0,
  All-push (λ (r : ℕ × Task). r.1.id ≡ r.0) k.tasks.rows (k.ids.next, t) kept.1 id,
  subst (λ ts. IsKern (record (the_view k) { tasks = ts; next_id = k.ids.next + 1; next_since = k.next_since + 1 })) (sym (map-append (λ (r : ℕ × Task). r.1) k.tasks.rows ((k.ids.next, t) ∷ [])))
      (push_keeps (the_view k) t kept.2 few left id since (subst (λ w. IfSome w (λ v. k.tick < v)) (sym awake) tt)),
  subst (AreQueued k.waits r k.delays) (sym (map-append (λ (r : ℕ × Task). r.1) k.tasks.rows ((k.ids.next, t) ∷ []))) (added_queues k t r kept since awake free ready e),
)

-- a new task is made from n
pub spawned_keeps : (k : Inside) (n : NewTask) (t : Task) (i j : ℕ) (ids' : Ids) (tasks' : table.Rows Task) (r : urgent.Order) → Kept k → length k.tasks.rows < 256 → k.ids.next ≤ 1048576
    → t ≡ new_task i k.next_since n → i ≡ k.ids.next → tasks' ≡ added k.tasks j t → j ≡ k.ids.next → ids' ≡ one_given k.ids → r ≡ urgent.with_task k.ready (n.pri, j)
    → Kept (record k { tasks = tasks'; ids = ids'; next_since = k.next_since + 1; ready = r })
spawned_keeps k n t i j ids' tasks' r kept few left made here rows own next put =
    let id : t.id ≡ k.ids.next = ap task_id made ∙ here in
    subst (λ ts. Kept (record k { tasks = ts; ids = ids'; next_since = k.next_since + 1; ready = r })) (sym (rows ∙ ap (λ j. added k.tasks j t) own))
    (subst (λ j. Kept (record k { tasks = added k.tasks k.ids.next t; ids = j; next_since = k.next_since + 1; ready = r })) (sym next)
    (added_keeps k t r kept (omega (arith, few, length-map k.tasks.rows (λ (r : ℕ × Task). r.1))) left id
    (ap (λ (t : Task). t.since) made) (ap (λ (t : Task). t.wake) made) (ap (λ (t : Task). t.wait) made) (ap is_ready made)
    (put ∙ ap (λ n. urgent.with_task k.ready (n, j)) (sym (ap (λ (t : Task). t.pri) made)) ∙ ap (λ m. urgent.with_task k.ready (t.pri, m)) (own ∙ sym id))))

-- its id is new to the queue of ready tasks, which has room
below_none : (ts : List Task) (n : ℕ) → All (λ t. t.id < n) ts → task_of ts n ≡ None
below_none [] n below = refl
below_none (t ∷ ts) n below =
    let here : t.id < n = All-head (λ (u : Task). u.id < n) t ts below in
    ap (λ b. cond b (Some t) (task_of ts n)) (ne_eqb t.id n (λ q. omega arith)) ∙ below_none ts n (All-tail (λ (u : Task). u.id < n) t ts below)

pub new_ready : (k : Inside) (i : ℕ) → Kept k → i ≡ k.ids.next → urgent.pri_of k.ready.tasks i ≡ None
new_ready k i kept own =
    ap (λ o. urgent.pri_of o.tasks i) kept.3.ready_held
    ∙ ready_absent (objects k.tasks.rows) i (below_none (objects k.tasks.rows) i (subst (λ n. All (λ t. t.id < n) (objects k.tasks.rows)) (sym own) kept.2.ids))

pub ready_room : (k : Inside) → Kept k → length k.tasks.rows < 256 → length k.ready.tasks < k.ready.room
ready_room k kept few =
    subst (λ o. length o.tasks < o.room) (sym kept.3.ready_held) (omega (arith, length-ready (objects k.tasks.rows), length-map k.tasks.rows (λ (r : ℕ × Task). r.1), few))
