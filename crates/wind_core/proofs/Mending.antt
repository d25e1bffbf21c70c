-- The queues after one task is written: each agrees with the tasks again, whether it was updated or not.
use Rattle.std.proofs.Common.{◌≡◌, ℕ, ◌+◌, ◌<◌, Bool, true, false, not, cond, leb, [], ◌∷◌, length, Option, None, Some, IfSome, is_some, inl, inr, refl, sym, ap, ◌∙◌, subst, arith}
use Rattle.std.specs.Prelude.{is_none, ◌&&◌, unwrap_or}
use Rattle.std.specs.Option.{option_map}
use Rattle.std.proofs.lemmas.Bool.{and_parts}
use Rattle.std.proofs.lemmas.List.Elements.{All-weaker}
use Rattle.wind_base.specs.Limits.{most_tasks}
use Rattle.id_table.specs.Rows.{object_of, objects}
use Rattle.id_table.specs.declared.ident.Place.{Place}
use Rattle.task_block.specs.declared.task.Task.{Task}
use Rattle.task_block.specs.Standing.{is_ready}
use Rattle.id_table.specs.Records.{replace, without}
use Rattle.id_table.proofs.Records.{found_id}
use Rattle.wait_order.specs.declared.waits.Waiter.{Waiter}
use Rattle.wait_order.specs.Line.{Line, waiter_id, without_waiter, first_at}
use Rattle.wait_order.proofs.LineOrder.{line_alike}
use Rattle.ready_queue.specs.Order as urgent
use Rattle.delay_queue.specs.Wakes as timed
use Rattle.wind_core.specs.State.{KernState, WakesAhead, task_id}
use Rattle.wind_core.specs.Orders.{first_waiter, sleeps}
use Rattle.wind_core.specs.Waiting.{waiter_at, as_waiter, waits_of, task_waits, mended}
use Rattle.wind_core.specs.Queues.{HaveRoom, as_ready, ready_of, ready_tasks, delayed_of, delayed_tasks, ready_mended, delays_mended}
use Rattle.wind_core.specs.Moves.{renewed, settled, suspended, with_setting}
use Rattle.wind_core.specs.Tick.{slice_counted}
use Rattle.wind_core.specs.declared.kern.Kern.TheInside.{Inside}
use Rattle.wind_core.specs.declared.settings.Setting.{Setting}
use Rattle.wind_core.specs.declared.settings.Setting.TheVariants as settings
use Rattle.wind_core.specs.contracts.kern.Kern.{the_view}
use Rattle.wind_core.proofs.Waiting.{waits_same, mended_is, fewer_wait, first_waits}
use Rattle.wind_core.proofs.Queued.{IsLast, ready_mended_is, ready_same, ready_found, fewer_ready, delays_mended_is, delayed_same, delayed_unmoved, fewer_asleep}
use Rattle.wind_core.proofs.Writes.{Kept, requeued, written, tasks_with, found, MayFollow, written_keeps, settled_id, settled_wake, settled_follows}

-- ---- a task that is ready
-- it waits for nothing and has no wake
pub free_ready : (t : Task) → is_ready t ≡ true → (t.wait ≡ None) × (t.wake ≡ None)
free_ready t b =
    let parts = and_parts (is_none t.wait) (is_none t.wake && not t.suspended) b in
    (nothing t.wait parts.0, nothing t.wake (and_parts (is_none t.wake) (not t.suspended) parts.1).0)
  where
    nothing : {X : Type 0} (o : Option X) → is_none o ≡ true → o ≡ None
    nothing None e = refl
    nothing (Some x) e = absurd (cc)

-- a settled task keeps its key: if it gets a new order number, it waits for nothing
settled_key : (n : ℕ) (u : Task) → as_waiter (settled n u) ≡ as_waiter u
settled_key n u =
    elim (is_ready u) as (λ b. is_ready u ≡ b → as_waiter (cond b (renewed n u) u) ≡ as_waiter u) [
      | true ↦ λ b.
          let none = (free_ready u b).0 in
          ap (option_map (waiter_at (renewed n u))) none ∙ sym (ap (option_map (waiter_at u)) none)
      | false ↦ λ b. refl
    ] refl

-- if it is ready, it has the new order number
settled_fresh : (n : ℕ) (u : Task) → is_ready (settled n u) ≡ true → (settled n u).since ≡ n
settled_fresh n u =
    elim (is_ready u) as (λ b. is_ready u ≡ b → is_ready (cond b (renewed n u) u) ≡ true → (cond b (renewed n u) u).since ≡ n) [
      | true ↦ λ b q. refl
      | false ↦ λ b q. absurd (let no : false ≡ true = sym b ∙ q in cc)
    ] refl

-- ---- one queue
module _ (k : Inside) (who : ℕ) (x y : Task) (kept : Kept k) (value : object_of k.tasks.rows who ≡ Some x) where
  -- a task with the next order number comes after all others
  last_of_all : y.since ≡ k.next_since → IsLast y (objects k.tasks.rows)
  last_of_all fresh = All-weaker (λ t. t.since < k.next_since) (λ t. t.since < y.since) (λ t h. omega (arith, fresh, h)) (objects k.tasks.rows) kept.2.sinces

  own : y.id ≡ x.id → y.id ≡ who
  own id = id ∙ found_id task_id (objects k.tasks.rows) who x (found k who x kept value)

  -- y waits as x did
  pub waits_stay : as_waiter y ≡ as_waiter x → k.waits ≡ task_waits (tasks_with k who y)
  waits_stay same =
      let ts = objects k.tasks.rows in
      kept.3.waits_held ∙ line_alike (waits_of ts) (waits_of (replace task_id ts who y)) most_tasks (sym (waits_same ts who x y kept.2.rising (found k who x kept value) same))

  pub waits_mend : (l : Line) → y.id ≡ x.id → l ≡ mended k.waits y → l ≡ task_waits (tasks_with k who y)
  waits_mend l id e = e ∙ ap (λ m. mended m y) kept.3.waits_held ∙ mended_is (objects k.tasks.rows) who x y kept.2.rising (found k who x kept value) (own id)

  -- y is among the ready tasks as x was
  pub ready_stays : y.id ≡ x.id → y.pri ≡ x.pri → y.since ≡ x.since → is_ready y ≡ is_ready x → k.ready ≡ ready_tasks (tasks_with k who y)
  ready_stays id pri since same =
      kept.3.ready_held
      ∙ sym (ready_same (objects k.tasks.rows) who x y kept.2.rising (found k who x kept value) (λ i. (same i, (pri i, id i), pri i ∷ since i ∷ id i ∷ [])))

  -- y is ready only with the next order number
  pub ready_mends : (r : urgent.Order) → y.id ≡ x.id → (is_ready y ≡ true → y.since ≡ k.next_since) → r ≡ ready_mended k.ready y → r ≡ ready_tasks (tasks_with k who y)
  ready_mends r id fresh e =
      e ∙ ap (λ o. ready_mended o y) kept.3.ready_held
      ∙ ready_mended_is (objects k.tasks.rows) who x y kept.2.rising (found k who x kept value) (own id) (λ b. last_of_all (fresh b))

  -- y isn't ready
  pub ready_goes : (r : urgent.Order) → y.id ≡ x.id → is_ready y ≡ false → r ≡ urgent.without_task k.ready who → r ≡ ready_tasks (tasks_with k who y)
  ready_goes r id out e =
      ready_mends r id (λ b. absurd (let both : false ≡ true = sym out ∙ b in cc))
      (e
      ∙ ap (urgent.without_task k.ready) (sym (own id))
      ∙ ap (λ b. cond b (urgent.with_task (urgent.without_task k.ready y.id) (as_ready y)) (urgent.without_task k.ready y.id)) (sym out))

  -- y is ready with the next order number, as x was, and goes after all of its priority
  pub ready_sliced : (r : urgent.Order) → y.id ≡ x.id → y.pri ≡ x.pri → is_ready x ≡ true → is_ready y ≡ true → y.since ≡ k.next_since → r ≡ urgent.rotated k.ready who → r ≡ ready_tasks (tasks_with k who y)
  ready_sliced r id pri before after fresh e =
      let there = ready_found (objects k.tasks.rows) who x kept.2.rising (found k who x kept value) before in
      ready_mends r id (λ _. fresh)
      (e
      ∙ ap (urgent.moved_back k.ready who) (ap (λ o. urgent.pri_of o.tasks who) kept.3.ready_held ∙ there)
      ∙ ap (λ n. urgent.with_task (urgent.without_task k.ready n) (x.pri, n)) (sym (own id))
      ∙ ap (λ p. urgent.with_task (urgent.without_task k.ready y.id) (p, y.id)) (sym pri)
      ∙ ap (λ b. cond b (urgent.with_task (urgent.without_task k.ready y.id) (as_ready y)) (urgent.without_task k.ready y.id)) (sym after))

  -- y has the wake that x has
  pub delays_stay : y.id ≡ x.id → y.since ≡ x.since → y.wake ≡ x.wake → k.delays ≡ delayed_tasks (tasks_with k who y)
  delays_stay id since wake =
      kept.3.delays_held
      ∙ sym (delayed_same (objects k.tasks.rows) who x y kept.2.rising (found k who x kept value) (λ i. (is_some (wake i), (id i, unwrap_or (wake i) 0), unwrap_or (wake i) 0 ∷ since i ∷ id i ∷ [])))

  -- neither has a wake
  pub delays_apart : x.wake ≡ None → y.wake ≡ None → k.delays ≡ delayed_tasks (tasks_with k who y)
  delays_apart before after = kept.3.delays_held ∙ sym (delayed_unmoved (objects k.tasks.rows) who x y kept.2.rising (found k who x kept value) before after)

  -- y has a wake only with the next order number
  pub delays_mend : (d : timed.Order) → y.id ≡ x.id → (sleeps y ≡ true → y.since ≡ k.next_since) → d ≡ delays_mended k.delays y → d ≡ delayed_tasks (tasks_with k who y)
  delays_mend d id fresh e =
      e ∙ ap (λ o. delays_mended o y) kept.3.delays_held
      ∙ delays_mended_is (objects k.tasks.rows) who x y kept.2.rising (found k who x kept value) (own id) (λ b. last_of_all (fresh b))

  -- ---- there is room for each update
  pub waits_fit : y.id ≡ x.id → length (without_waiter k.waits y.id).waiters < k.waits.room
  waits_fit id =
      let ts = objects k.tasks.rows in
      subst (λ l. length (without_waiter l y.id).waiters < l.room) (sym kept.3.waits_held)
      (subst (λ n. length (without waiter_id (waits_of ts) n) < most_tasks) (sym (own id)) (omega (arith, fewer_wait ts who x (found k who x kept value), kept.2.few)))

  pub ready_fits : y.id ≡ x.id → length (urgent.taken_out k.ready.tasks y.id) < k.ready.room
  ready_fits id =
      let ts = objects k.tasks.rows in
      subst (λ o. length (urgent.taken_out o.tasks y.id) < o.room) (sym kept.3.ready_held)
      (subst (λ n. length (urgent.taken_out (ready_of ts) n) < most_tasks) (sym (own id)) (omega (arith, fewer_ready ts who x (found k who x kept value), kept.2.few)))

  pub delays_fit : y.id ≡ x.id → length (timed.taken_out k.delays.tasks y.id) < k.delays.room
  delays_fit id =
      let ts = objects k.tasks.rows in
      subst (λ o. length (timed.taken_out o.tasks y.id) < o.room) (sym kept.3.delays_held)
      (subst (λ n. length (timed.taken_out (delayed_of ts) n) < most_tasks) (sym (own id)) (omega (arith, fewer_asleep ts who x (found k who x kept value), kept.2.few)))

  pub all_fit : y.id ≡ x.id → HaveRoom k.waits k.ready k.delays y.id
  all_fit id = record { waits = waits_fit id; ready = ready_fits id; delays = delays_fit id }

-- ---- a setter
-- everything that the queues and the invariant read of a task
abbrev pub standing : Task → ℕ × ℕ × ℕ × Option Place × Bool × Option ℕ × Bool
standing t = (t.id, t.pri, t.since, t.wait, t.fifo, t.wake, t.suspended)

abbrev waiter_by : ℕ × ℕ × ℕ × Option Place × Bool × Option ℕ × Bool → Option Waiter
waiter_by s = option_map (λ (place : Place). record { place = place; who = s.0; pri = cond s.4 0 s.1; since = s.2 }) s.3

-- y agrees with x in that
pub same_keeps : (k : Inside) (who : ℕ) (x y : Task) → Kept k → object_of k.tasks.rows who ≡ Some x → standing y ≡ standing x → Kept (written k who y k.next_since)
same_keeps k who x y kept value same =
    let id : y.id ≡ x.id = ap (λ s. s.0) same in
    let since : y.since ≡ x.since = ap (λ s. s.2) same in
    let wake : y.wake ≡ x.wake = ap (λ s. s.5) same in
    written_keeps k who k.next_since x y k.waits k.ready k.delays kept value (record { id = id; since = inl (since, refl); ahead = subst (λ w. IfSome w (λ v. k.tick < v)) (sym wake) })
    (record {
      waits_held = waits_stay k who x y kept value (ap waiter_by same);
      ready_held = ready_stays k who x y kept value id (ap (λ s. s.1) same) since (ap (λ s. is_none s.3 && (is_none s.5 && not s.6)) same);
      delays_held = delays_stay k who x y kept value id since wake;
    })

-- the result of f agrees with the task in that
abbrev pub Stays : (Task → Task) → Type 0
Stays f = (t : Task) → standing (f t) ≡ standing t

pub setting_stays : (setting : Setting) → Stays (with_setting setting)
setting_stays (settings.Locks n) t = refl
setting_stays (settings.Normal pri) t = refl
setting_stays (settings.Safe n) t = refl
setting_stays (settings.Held n) t = refl
setting_stays (settings.Errno n) t = refl
setting_stays (settings.IntLocked on) t = refl
setting_stays (settings.Again on) t = refl
setting_stays (settings.Answer value) t = refl
setting_stays (settings.Refusal e) t = refl
setting_stays settings.PastGate t = refl
setting_stays settings.Unreserved t = refl

-- y is f of x for such an f, so the invariant holds
pub set_keeps : (k : Inside) (who : ℕ) (x y : Task) (f : Task → Task) → Kept k → object_of k.tasks.rows who ≡ Some x → y ≡ f x → Stays f → Kept (written k who y k.next_since)
set_keeps k who x y f kept value e stays = same_keeps k who x y kept value (ap standing e ∙ stays x)

-- y is suspended, and removed from the ready tasks
pub suspended_keeps : (k : Inside) (who : ℕ) (x y : Task) (r : urgent.Order) → Kept k → object_of k.tasks.rows who ≡ Some x → y ≡ suspended x → r ≡ urgent.without_task k.ready who
    → Kept (requeued k who y k.next_since k.waits r k.delays)
suspended_keeps k who x y r kept value e out =
    let id : y.id ≡ x.id = ap task_id e in
    let since : y.since ≡ x.since = ap (λ (t : Task). t.since) e in
    let wake : y.wake ≡ x.wake = ap (λ (t : Task). t.wake) e in
    written_keeps k who k.next_since x y k.waits r k.delays kept value (record { id = id; since = inl (since, refl); ahead = subst (λ w. IfSome w (λ v. k.tick < v)) (sym wake) })
    (record {
      waits_held = waits_stay k who x y kept value (ap as_waiter e);
      ready_held = ready_goes k who x y kept value r id (ap is_ready e ∙ never (is_none x.wait) (is_none x.wake)) out;
      delays_held = delays_stay k who x y kept value id since wake;
    })
  where
    never : (p q : Bool) → (p && (q && false)) ≡ false
    never true true = refl
    never true false = refl
    never false q = refl

-- ---- a new order number
-- x becomes u, and y is u with a new order number
module _ (k : Inside) (who n : ℕ) (x u w y : Task) (kept : Kept k) (value : object_of k.tasks.rows who ≡ Some x) (id : u.id ≡ x.id) (ahead : WakesAhead k.tick x → WakesAhead k.tick u)
    (made : w ≡ u) (task : y ≡ renewed k.next_since w) (next : n ≡ k.next_since + 1) where
  renewed_is : y ≡ renewed k.next_since u
  renewed_is = task ∙ ap (renewed k.next_since) made

  renewed_own : y.id ≡ x.id
  renewed_own = ap task_id renewed_is ∙ id

  pub renewed_fit : HaveRoom k.waits k.ready k.delays y.id
  renewed_fit = all_fit k who x y kept value renewed_own

  pub renewed_keeps : (l : Line) (r : urgent.Order) (d : timed.Order) → l ≡ mended k.waits y → r ≡ ready_mended k.ready y → d ≡ delays_mended k.delays y → Kept (requeued k who y n l r d)
  renewed_keeps l r d waits ready delays =
      let fresh : y.since ≡ k.next_since = ap (λ (t : Task). t.since) renewed_is in
      written_keeps k who n x y l r d kept value
      (subst (λ t. MayFollow (the_view k) x t n) (sym renewed_is) (record { id = id; since = inr (refl, next); ahead = ahead }))
      (record {
        waits_held = waits_mend k who x y kept value l renewed_own waits;
        ready_held = ready_mends k who x y kept value r renewed_own (λ _. fresh) ready;
        delays_held = delays_mend k who x y kept value d renewed_own (λ _. fresh) delays;
      })

-- x becomes u, and y is u with a new order number if it is ready
module _ (k : Inside) (who n : ℕ) (x u w y : Task) (kept : Kept k) (value : object_of k.tasks.rows who ≡ Some x) (id : u.id ≡ x.id) (since : u.since ≡ x.since)
    (ahead : WakesAhead k.tick x → WakesAhead k.tick u) (made : w ≡ u) (task : y ≡ settled k.next_since w) (next : n ≡ k.next_since + cond (is_ready w) 1 0) where
  e : y ≡ settled k.next_since u
  e = task ∙ ap (settled k.next_since) made

  settled_own : y.id ≡ x.id
  settled_own = ap task_id e ∙ settled_id k.next_since u ∙ id

  fresh_ready : is_ready y ≡ true → y.since ≡ k.next_since
  fresh_ready b = ap (λ (t : Task). t.since) e ∙ settled_fresh k.next_since u (sym (ap is_ready e) ∙ b)

  settled_may : MayFollow (the_view k) x y n
  settled_may =
      let after : n ≡ k.next_since + cond (is_ready u) 1 0 = next ∙ ap (λ t. k.next_since + cond (is_ready t) 1 0) made in
      subst (λ t. MayFollow (the_view k) x t n) (sym e) (subst (MayFollow (the_view k) x (settled k.next_since u)) (sym after) (settled_follows (the_view k) x u id since ahead))

  pub settled_fit : HaveRoom k.waits k.ready k.delays y.id
  settled_fit = all_fit k who x y kept value settled_own

  -- if u has the wake of x, the task stays in the queue of wakes as it was: it has a wake, or it is ready
  settled_delays : u.wake ≡ x.wake → k.delays ≡ delayed_tasks (tasks_with k who y)
  settled_delays wake =
      elim (is_ready u) as (λ b. is_ready u ≡ b → k.delays ≡ delayed_tasks (tasks_with k who y)) [
        | true ↦ λ b.
            let none = (free_ready u b).1 in
            delays_apart k who x y kept value (sym wake ∙ none) (ap (λ (t : Task). t.wake) e ∙ settled_wake k.next_since u ∙ none)
        | false ↦ λ b.
            let same : y ≡ u = e ∙ ap (λ c. cond c (renewed k.next_since u) u) b in
            delays_stay k who x y kept value (ap task_id same ∙ id) (ap (λ (t : Task). t.since) same ∙ since) (ap (λ (t : Task). t.wake) same ∙ wake)
      ] refl

  -- its wait ends, and it is updated in every queue
  pub ended_keeps : (l : Line) (r : urgent.Order) (d : timed.Order) → u.wake ≡ None → l ≡ mended k.waits y → r ≡ ready_mended k.ready y → d ≡ delays_mended k.delays y → Kept (requeued k who y n l r d)
  ended_keeps l r d awake waits ready delays =
      written_keeps k who n x y l r d kept value settled_may
      (record {
        waits_held = waits_mend k who x y kept value l settled_own waits;
        ready_held = ready_mends k who x y kept value r settled_own fresh_ready ready;
        delays_held = delays_mend k who x y kept value d settled_own (λ b. absurd (let no : false ≡ true = sym (ap (λ (t : Task). is_some t.wake) e ∙ ap is_some (settled_wake k.next_since u ∙ awake)) ∙ b in cc)) delays;
      })

  -- it waits with another key, and has the same wake
  pub rekeyed_keeps : (l : Line) (r : urgent.Order) → u.wake ≡ x.wake → l ≡ mended k.waits y → r ≡ ready_mended k.ready y → Kept (requeued k who y n l r k.delays)
  rekeyed_keeps l r wake waits ready =
      written_keeps k who n x y l r k.delays kept value settled_may
      (record {
        waits_held = waits_mend k who x y kept value l settled_own waits;
        ready_held = ready_mends k who x y kept value r settled_own fresh_ready ready;
        delays_held = settled_delays wake;
      })

  -- its wait and its wake stay
  pub resumed_keeps : (r : urgent.Order) → as_waiter u ≡ as_waiter x → u.wake ≡ x.wake → r ≡ ready_mended k.ready y → Kept (requeued k who y n k.waits r k.delays)
  resumed_keeps r key wake ready =
      written_keeps k who n x y k.waits r k.delays kept value settled_may
      (record {
        waits_held = waits_stay k who x y kept value (ap as_waiter e ∙ settled_key k.next_since u ∙ key);
        ready_held = ready_mends k who x y kept value r settled_own fresh_ready ready;
        delays_held = settled_delays wake;
      })

-- ---- a time slice
abbrev sliced : Bool → ℕ → Task → Task
sliced over since t = cond over (renewed since (record t { turns = 0 })) (record t { turns = t.turns + 1 })

sliced_keeps_by : (k : Inside) (who n : ℕ) (x y : Task) (r : urgent.Order) (over : Bool) → Kept k → object_of k.tasks.rows who ≡ Some x → is_ready x ≡ true → y ≡ sliced over k.next_since x
    → n ≡ k.next_since + cond over 1 0 → r ≡ cond over (urgent.rotated k.ready who) k.ready → Kept (requeued k who y n k.waits r k.delays)
sliced_keeps_by k who n x y r true kept value ready e next out =
    let id : y.id ≡ x.id = ap task_id e in
    let free = free_ready x ready in
    written_keeps k who n x y k.waits r k.delays kept value (record { id = id; since = inr (ap (λ (t : Task). t.since) e, next); ahead = subst (λ w. IfSome w (λ v. k.tick < v)) (sym (ap (λ (t : Task). t.wake) e)) })
    (record {
      waits_held = waits_stay k who x y kept value (ap (option_map (waiter_at y)) (ap (λ (t : Task). t.wait) e ∙ free.0) ∙ sym (ap (option_map (waiter_at x)) free.0));
      ready_held = ready_sliced k who x y kept value r id (ap (λ (t : Task). t.pri) e) ready (ap is_ready e ∙ ready) (ap (λ (t : Task). t.since) e) out;
      delays_held = delays_apart k who x y kept value free.1 (ap (λ (t : Task). t.wake) e ∙ free.1);
    })
sliced_keeps_by k who n x y r false kept value ready e next out =
    let id : y.id ≡ x.id = ap task_id e in
    let since : y.since ≡ x.since = ap (λ (t : Task). t.since) e in
    let wake : y.wake ≡ x.wake = ap (λ (t : Task). t.wake) e in
    written_keeps k who n x y k.waits r k.delays kept value (record { id = id; since = inl (since, omega (arith, next)); ahead = subst (λ w. IfSome w (λ v. k.tick < v)) (sym wake) })
    (record {
      waits_held = waits_stay k who x y kept value (ap as_waiter e);
      ready_held = out ∙ ready_stays k who x y kept value id (ap (λ (t : Task). t.pri) e) since (ap is_ready e);
      delays_held = delays_stay k who x y kept value id since wake;
    })

-- the time slice of a ready task is one tick longer, and if it ends, the task goes after its equals
pub sliced_keeps : (k : Inside) (who n : ℕ) (x y : Task) (r : urgent.Order) (over : Bool) → Kept k → object_of k.tasks.rows who ≡ Some x → is_ready x ≡ true → y ≡ slice_counted k.slice k.next_since x
    → n ≡ k.next_since + cond (leb k.slice (x.turns + 1)) 1 0 → over ≡ leb k.slice (x.turns + 1) → r ≡ cond over (urgent.rotated k.ready who) k.ready → Kept (requeued k who y n k.waits r k.delays)
sliced_keeps k who n x y r over kept value ready e next is out =
    sliced_keeps_by k who n x y r (leb k.slice (x.turns + 1)) kept value ready e next (out ∙ ap (λ b. cond b (urgent.rotated k.ready who) k.ready) is)

-- ---- the first waiter of a place, in the line and from the tasks
pub first_kept : (k : Inside) (s : KernState) (place : Place) → Kept k → the_view k ≡ s → first_at k.waits.waiters place ≡ option_map task_id (first_waiter s.tasks place)
first_kept k s place kept is =
    ap (λ l. first_at l.waiters place) kept.3.waits_held ∙ first_waits (objects k.tasks.rows) place ∙ ap (λ r. option_map task_id (first_waiter r.tasks place)) is
