-- A tick: the running task's time slice, and the tick count.
use Rattle.std.proofs.Common.{◌≡◌, ℕ, ◌+◌, ◌<◌, ◌≤◌, true, false, cond, eqb, leb, ltb, List, [], ◌∷◌, length, Option, None, Some, IsSome, IfSome, is_some, inl, inr, refl, sym, ap, ◌∙◌, subst, arith}
use Rattle.std.specs.List.{fold, All}
use Rattle.std.specs.Option.{option_map}
use Rattle.std.proofs.lemmas.Bool.{leb-false, and_parts}
use Rattle.std.proofs.lemmas.Option.{same_Some}
use Rattle.std.proofs.lemmas.List.Elements.{All-weaker}
use Rattle.std.specs.Prelude.{IsSomeAnd}
use Rattle.wind_base.specs.declared.errno.Errno.{Errno}
use Rattle.id_table.specs.Rows.{object_of, objects}
use Rattle.task_block.specs.declared.task.Task.{Task}
use Rattle.task_block.specs.Standing.{is_ready}
use Rattle.id_table.specs.Records.{Rising, change}
use Rattle.id_table.proofs.Records.{found_id}
use Rattle.id_table.proofs.Passing.{front_found, front_passes, none_passes}
use Rattle.ready_queue.specs.Order as urgent
use Rattle.delay_queue.specs.Wakes as timed
use Rattle.wind_core.specs.Queues.{delayed_of}
use Rattle.wind_core.specs.State.{KernState, Lives, WakesAhead, task_id, task_of}
use Rattle.wind_core.specs.Orders.{keeps_running, keeper, last_task, or_else, most_urgent, is_before, running, has_come, is_due, arrives_before, due, first_due}
use Rattle.wind_core.specs.Moves.{renewed, move_found, answered, end_wait}
use Rattle.wind_core.specs.Tick.{slice_counted, count_found_slice, is_free, count_slice_of, count_slice, late_answer, late_errno, late_of, time_out, wake_due, tick}
use Rattle.wind_core.specs.declared.kern.Kern.TheInside.{Inside}
use Rattle.wind_core.specs.declared.clock.Late.{Late}
use Rattle.wind_core.specs.contracts.kern.Kern.{the_view}
use Rattle.wind_core.proofs.Passes.{is_before-order, arrives_before-order}
use Rattle.wind_core.proofs.Waking.{timed_out_first}
use Rattle.wind_core.proofs.Writes.{MayFollow, Kept, counters_rise, written, written_is, found}
use Rattle.wind_core.proofs.Queued.{first_ready}
use Rattle.wind_core.proofs.Due.{due_first}

-- ---- the running task is live
kept_by : (o : Option Task) (x : Task) → keeper o ≡ Some x → o ≡ Some x
kept_by None x e = absurd (cc)
kept_by (Some t) x e = elim (keeps_running t) as (λ b. cond b (Some t) None ≡ Some x → Some t ≡ Some x) [ true ↦ λ q. q | false ↦ λ q. absurd (cc) ] e

last_found : (ts : List Task) (o : Option ℕ) (x : Task) → last_task ts o ≡ Some x → task_of ts x.id ≡ Some x
last_found ts None x e = absurd (cc)
last_found ts (Some id) x e = ap (task_of ts) (found_id task_id ts id x e) ∙ e

either_found : (ts : List Task) (o p : Option Task) (x : Task) → ((y : Task) → o ≡ Some y → task_of ts y.id ≡ Some y) → ((y : Task) → p ≡ Some y → task_of ts y.id ≡ Some y)
    → or_else o p ≡ Some x → task_of ts x.id ≡ Some x
either_found ts None p x left right e = right x e
either_found ts (Some y) p x left right e = left x e

pub running_found : (s : KernState) (x : Task) → Rising task_id s.tasks → running s ≡ Some x → task_of s.tasks x.id ≡ Some x
running_found s x up e =
    either_found s.tasks (keeper (last_task s.tasks s.last)) (most_urgent s.tasks) x
    (λ y q. last_found s.tasks s.last y (kept_by (last_task s.tasks s.last) y q))
    (λ y q. front_found task_id is_before is_before-order is_ready s.tasks y up q)
    e

named : (o : Option Task) (who : ℕ) → Some who ≡ option_map task_id o → (x : Task) × (o ≡ Some x) × (who ≡ x.id)
named None who e = absurd (cc)
named (Some x) who e = (x, refl, cc)

pub none_named : (o : Option Task) → None ≡ option_map task_id o → o ≡ None
none_named None e = refl
none_named (Some x) e = absurd (cc)

-- a task that is found by its id
by_id : (ts : List Task) (o : Option Task) (who : ℕ) → ((x : Task) → o ≡ Some x → task_of ts x.id ≡ Some x) → Some who ≡ option_map task_id o → o ≡ task_of ts who
by_id ts o who found e =
    let x = named o who e in
    x.1 ∙ sym (ap (task_of ts) x.2 ∙ found x.0 x.1)

-- the running task, by its id
pub runs : (s : KernState) (who : ℕ) → Rising task_id s.tasks → Some who ≡ option_map task_id (running s) → running s ≡ task_of s.tasks who
runs s who up e = by_id s.tasks (running s) who (λ x q. running_found s x up q) e

-- the most urgent task, from the queue, and by its id
pub urgent_kept : (k : Inside) (s : KernState) → Kept k → the_view k ≡ s → urgent.first_id k.ready.tasks ≡ option_map task_id (most_urgent s.tasks)
urgent_kept k s kept is = ap (λ o. urgent.first_id o.tasks) kept.3.ready_held ∙ first_ready (objects k.tasks.rows) ∙ ap (λ r. option_map task_id (most_urgent r.tasks)) is

pub urgent_read : (s : KernState) (who : ℕ) → Rising task_id s.tasks → Some who ≡ option_map task_id (most_urgent s.tasks) → most_urgent s.tasks ≡ task_of s.tasks who
urgent_read s who up e = by_id s.tasks (most_urgent s.tasks) who (λ y q. front_found task_id is_before is_before-order is_ready s.tasks y up q) e

-- the running task is ready
kept_ready : (o : Option Task) (x : Task) → keeper o ≡ Some x → is_ready x ≡ true
kept_ready None x e = absurd (cc)
kept_ready (Some t) x e =
    elim (keeps_running t) as (λ b. keeps_running t ≡ b → cond b (Some t) None ≡ Some x → is_ready x ≡ true) [
      | true ↦ λ b q. subst (λ u. is_ready u ≡ true) (same_Some t x q) (and_parts (is_ready t) (ltb 0 t.locks) b).0
      | false ↦ λ b q. absurd (cc)
    ] refl e

either_ready : (o p : Option Task) (x : Task) → ((y : Task) → o ≡ Some y → is_ready y ≡ true) → ((y : Task) → p ≡ Some y → is_ready y ≡ true) → or_else o p ≡ Some x → is_ready x ≡ true
either_ready None p x left right e = right x e
either_ready (Some y) p x left right e = left x e

pub running_ready : (s : KernState) (x : Task) → running s ≡ Some x → is_ready x ≡ true
running_ready s x e =
    either_ready (keeper (last_task s.tasks s.last)) (most_urgent s.tasks) x
    (λ y q. kept_ready (last_task s.tasks s.last) y q)
    (λ y q. front_passes task_id is_before is_before-order is_ready s.tasks y q)
    e

-- so the task named as the runner is live and ready
pub runner_ready : (s : KernState) (who : ℕ) → Rising task_id s.tasks → Some who ≡ option_map task_id (running s) → IsSomeAnd (task_of s.tasks who) (λ t. is_ready t ≡ true)
runner_ready s who up e =
    let x = named (running s) who e in
    subst (λ o. IsSomeAnd o (λ t. is_ready t ≡ true)) (sym x.1 ∙ runs s who up e) (running_ready s x.0 x.1)

-- a property of the object with an id
pub object_ready : (k : Inside) (s : KernState) (who : ℕ) (x : Task) → Kept k → the_view k ≡ s → IsSomeAnd (task_of s.tasks who) (λ t. is_ready t ≡ true) → object_of k.tasks.rows who ≡ Some x → is_ready x ≡ true
object_ready k s who x kept is ready value = subst (λ o. IsSomeAnd o (λ t. is_ready t ≡ true)) (ap (λ r. task_of r.tasks who) (sym is) ∙ found k who x kept value) ready

pub ready_lives : (o : Option Task) → IsSomeAnd o (λ t. is_ready t ≡ true) → IsSome o
ready_lives None ready = absurd (ready)
ready_lives (Some t) ready = refl

pub runner_lives : (s : KernState) (who : ℕ) → Rising task_id s.tasks → Some who ≡ option_map task_id (running s) → Lives s who
runner_lives s who up e =
    let x = named (running s) who e in
    subst (λ o. IsSome o) (runs s who up e) (subst (λ o. IsSome o) (sym x.1) refl)

pub nobody_runs : (s : KernState) → None ≡ option_map task_id (running s) → count_slice_of s (running s) ≡ s
nobody_runs s e = ap (count_slice_of s) (none_named (running s) e)

-- ---- a time slice

freed_first : (s : KernState) (x : Task) → true ≡ eqb x.locks 0 → count_found_slice s x ≡ count_slice_of s (Some x)
freed_first s x e = ap (λ b. cond b (count_found_slice s x) s) e

-- a task with one more tick of its slice can follow it
pub slice_follows : (s : KernState) (slice : ℕ) (t : Task) → MayFollow s t (slice_counted slice s.next_since t) (s.next_since + cond (leb slice (t.turns + 1)) 1 0)
slice_follows s slice t =
    elim (leb slice (t.turns + 1)) as (λ b. MayFollow s t (cond b (renewed s.next_since (record t { turns = 0 })) (record t { turns = t.turns + 1 })) (s.next_since + cond b 1 0)) [
      | true ↦ record { id = refl; since = inr (refl, refl); ahead = λ h. h }
      | false ↦ record { id = refl; since = inl (refl, omega arith); ahead = λ h. h }
    ]

-- the task's slice is one tick longer
pub sliced_is : (k : Inside) (s : KernState) (who n : ℕ) (x y : Task) → Kept k → the_view k ≡ s → object_of k.tasks.rows who ≡ Some x → true ≡ is_free (task_of s.tasks who)
    → y ≡ slice_counted k.slice k.next_since x → n ≡ k.next_since + cond (leb k.slice (x.turns + 1)) 1 0
    → the_view (written k who y n) ≡ count_slice_of s (task_of s.tasks who)
sliced_is k s who n x y kept is value free e next =
    let here = found k who x kept value in
    let f : Task → Task = slice_counted k.slice k.next_since in
    written_is k who n x y f kept value e
    ∙ ap {B = KernState} (λ m. record (the_view k) { tasks = change task_id (the_view k).tasks who f; next_since = m }) next
    ∙ ap {B = KernState} (λ i. record (the_view k) { tasks = change task_id (the_view k).tasks i f; next_since = k.next_since + cond (leb k.slice (x.turns + 1)) 1 0 }) (sym (found_id task_id (the_view k).tasks who x here))
    ∙ freed_first (the_view k) x (free ∙ ap (λ r. is_free (task_of r.tasks who)) (sym is) ∙ ap is_free here)
    ∙ ap (count_slice_of (the_view k)) (sym here)
    ∙ ap (λ r. count_slice_of r (task_of r.tasks who)) is

-- at most one order number is given
pub since-count_slice_of : (s : KernState) (o : Option Task) → (count_slice_of s o).next_since ≤ s.next_since + 1
since-count_slice_of s None = omega arith
since-count_slice_of s (Some t) =
    elim (eqb t.locks 0) as (λ b. (cond b (count_found_slice s t) s).next_since ≤ s.next_since + 1) [
      | true ↦ elim (leb s.slice (t.turns + 1)) as (λ b. s.next_since + cond b 1 0 ≤ s.next_since + 1) [ true ↦ omega arith | false ↦ omega arith ]
      | false ↦ omega arith
    ]

pub since-count_slice : (s : KernState) → (count_slice s).next_since ≤ s.next_since + 1
since-count_slice s = elim (eqb s.slice 0) as (λ b. (cond b s (count_slice_of s (running s))).next_since ≤ s.next_since + 1) [ true ↦ omega arith | false ↦ since-count_slice_of s (running s) ]

-- ---- the count
abbrev pub at_tick : ℕ → KernState → KernState
at_tick n s = record s { tick = n }

count_slice_of-at_tick : (s : KernState) (n : ℕ) (o : Option Task) → count_slice_of (at_tick n s) o ≡ at_tick n (count_slice_of s o)
count_slice_of-at_tick s n None = refl
count_slice_of-at_tick s n (Some t) = elim (eqb t.locks 0) as (λ b. cond b (count_found_slice (at_tick n s) t) (at_tick n s) ≡ at_tick n (cond b (count_found_slice s t) s)) [ true ↦ refl | false ↦ refl ]

count_slice-at_tick : (s : KernState) (n : ℕ) → count_slice (at_tick n s) ≡ at_tick n (count_slice s)
count_slice-at_tick s n =
    elim (eqb s.slice 0) as (λ b. cond b (at_tick n s) (count_slice_of (at_tick n s) (running s)) ≡ at_tick n (cond b s (count_slice_of s (running s)))) [
      | true ↦ refl
      | false ↦ count_slice_of-at_tick s n (running s)
    ]

time_out-at_tick : (s : KernState) (n : ℕ) (t : Task) → time_out (at_tick n s) t ≡ at_tick n (time_out s t)
time_out-at_tick s n t =
    let f : Task → Task = answered (late_answer (is_some t.wait)) (late_errno (is_some t.wait)) in
    elim (task_of s.tasks t.id) as (λ o. move_found (at_tick n s) t.id f o ≡ at_tick n (move_found s t.id f o)) [ None ↦ refl | Some u ↦ refl ]

time_outs-at_tick : (s : KernState) (n : ℕ) (ts : List Task) → fold time_out (at_tick n s) ts ≡ at_tick n (fold time_out s ts)
time_outs-at_tick s n [] = refl
time_outs-at_tick s n (t ∷ ts) = ap (λ r. fold time_out r ts) (time_out-at_tick s n t) ∙ time_outs-at_tick (time_out s t) n ts

-- the tick count can rise first or last
pub tick_is : (s : KernState) → at_tick (s.tick + 1) (wake_due (count_slice s) (s.tick + 1)) ≡ tick s
tick_is s =
    sym (ap (λ r. wake_due r (s.tick + 1)) (count_slice-at_tick s (s.tick + 1)) ∙ time_outs-at_tick (count_slice s) (s.tick + 1) (due (count_slice s).tasks (s.tick + 1)))

not_come : (n : ℕ) (wake : Option ℕ) → has_come n wake ≡ false → IfSome wake (λ w. n < w)
not_come n None e = tt
not_come n (Some w) e = leb-false w n e

-- if no task is due, all wakes are in the future
pub none_due : (ts : List Task) (n : ℕ) → first_due ts n ≡ None → All (WakesAhead n) ts
none_due ts n e =
    All-weaker (λ t. is_due n t ≡ false) (WakesAhead n) (λ t q. not_come n t.wake q) ts (none_passes task_id arrives_before arrives_before-order (is_due n) ts e)

pub counted_keeps : (k : Inside) (n : ℕ) → Kept k → first_due (the_view k).tasks n ≡ None → Kept (record k { tick = n })
counted_keeps k n kept e =
    let s = the_view k in
    (kept.0, kept.1, counters_rise s s.next_id s.next_since n s.slice s.lent s.last kept.2 (omega arith) kept.2.last_id (omega arith) (none_due s.tasks n e), kept.3)

-- counting a slice doesn't change the tick count
tick-count_slice_of : (s : KernState) (o : Option Task) → (count_slice_of s o).tick ≡ s.tick
tick-count_slice_of s None = refl
tick-count_slice_of s (Some t) = elim (eqb t.locks 0) as (λ b. (cond b (count_found_slice s t) s).tick ≡ s.tick) [ true ↦ refl | false ↦ refl ]

pub tick-count_slice : (s : KernState) → (count_slice s).tick ≡ s.tick
tick-count_slice s = elim (eqb s.slice 0) as (λ b. (cond b s (count_slice_of s (running s))).tick ≡ s.tick) [ true ↦ refl | false ↦ tick-count_slice_of s (running s) ]

-- ---- the late tasks, as the code reads them
late_found : (o : Option Task) (late : Late) → Some late ≡ option_map late_of o → (x : Task) × (o ≡ Some x) × (late ≡ late_of x)
late_found None late e = absurd (cc)
late_found (Some x) late e = (x, refl, same_Some late (late_of x) e)

not_late : (o : Option Task) → None ≡ option_map late_of o → o ≡ None
not_late None e = refl
not_late (Some x) e = absurd (cc)

-- the end of a wait doesn't change the tick count
tick-end_wait : (s : KernState) (who answer : ℕ) (errno : Option Errno) → (end_wait s who answer errno).tick ≡ s.tick
tick-end_wait s who answer errno = elim (task_of s.tasks who) as (λ o. (move_found s who (answered answer errno) o).tick ≡ s.tick) [ None ↦ refl | Some t ↦ refl ]

-- one iteration of the loop that wakes the tasks that are due
pub record LateWoken (s : KernState) (n : ℕ) (late : Late) : Type 0 where
  pub lives : Lives s late.who
  pub same : wake_due (end_wait s late.who (late_answer late.waits) (late_errno late.waits)) n ≡ wake_due s n
  pub fewer : length (due (end_wait s late.who (late_answer late.waits) (late_errno late.waits)).tasks n) + 1 ≡ length (due s.tasks n)
  pub sinces : (end_wait s late.who (late_answer late.waits) (late_errno late.waits)).next_since ≤ s.next_since + 1
  pub tick : (end_wait s late.who (late_answer late.waits) (late_errno late.waits)).tick ≡ s.tick

pub late_woken : (s : KernState) (n : ℕ) (late : Late) → Rising task_id s.tasks → Some late ≡ option_map late_of (first_due s.tasks n) → LateWoken s n late
late_woken s n late up e =
    let x = late_found (first_due s.tasks n) late e in
    let woken = timed_out_first s n x.0 up x.1 in
    subst (LateWoken s n) (sym x.2) (record { lives = woken.lives; same = woken.same; fewer = woken.fewer; sinces = woken.sinces; tick = tick-end_wait s x.0.id (late_answer (is_some x.0.wait)) (late_errno (is_some x.0.wait)) })

-- the task at the head of the queue is the first that is due
pub due_kept : (k : Inside) (s : KernState) (n : ℕ) → Kept k → the_view k ≡ s → n ≡ s.tick + 1 → timed.due_at k.delays.tasks n ≡ option_map task_id (first_due s.tasks n)
due_kept k s n kept is next =
    let count : n ≡ k.tick + 1 = next ∙ ap (λ r. r.tick + 1) (sym is) in
    ap (λ o. timed.due_at o.tasks n) kept.3.delays_held
    ∙ ap (timed.due_at (delayed_of (objects k.tasks.rows))) count
    ∙ due_first k.tick (objects k.tasks.rows) kept.2.ahead
    ∙ ap (λ m. option_map task_id (first_due (objects k.tasks.rows) m)) (sym count)
    ∙ ap (λ r. option_map task_id (first_due r.tasks n)) is

-- it is read from the table by its id
pub due_read : (s : KernState) (n who : ℕ) → Rising task_id s.tasks → Some who ≡ option_map task_id (first_due s.tasks n) → first_due s.tasks n ≡ task_of s.tasks who
due_read s n who up e = by_id s.tasks (first_due s.tasks n) who (λ y q. front_found task_id arrives_before arrives_before-order (is_due n) s.tasks y up q) e

pub nobody_due : (s : KernState) (n : ℕ) → None ≡ option_map late_of (first_due s.tasks n) → first_due s.tasks n ≡ None
nobody_due s n e = not_late (first_due s.tasks n) e
