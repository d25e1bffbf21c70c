-- The watchdogs that are due stop and are listed one after the other.
use Rattle.std.proofs.Common.{◌≡◌, ℕ, ◌+◌, ◌<◌, ◌≤◌, Bool, true, false, cond, eqb, List, [], ◌∷◌, map, length, Option, None, Some, IsSome, refl, sym, ap, ◌∙◌, subst, arith}
use Rattle.std.specs.List.{All, filter}
use Rattle.std.specs.Option.{IfSome, option_map}
use Rattle.std.specs.Cmp.{IsStrictWeakOrder}
use Rattle.std.proofs.lemmas.Bool.{eqb-true, lt-leb}
use Rattle.std.proofs.lemmas.List.Elements.{All-head, All-tail, All-weaker}
use Rattle.std.proofs.lemmas.List.MinMax.{IsStrictWeakOrder-by_number}
use Rattle.std.proofs.lemmas.Option.{same_Some}
use Rattle.id_table.specs.Rows.{Rows, row_id, object_of, objects, rewritten}
use Rattle.id_table.proofs.Owning.{object-record, objects-replace}
use Rattle.id_table.specs.Records.{of_id, change, replace, Rising}
use Rattle.id_table.proofs.Records.{one_of_id, replace-change}
use Rattle.id_table.specs.Sorting.{sorted}
use Rattle.id_table.proofs.Sorting.{first_is}
use Rattle.id_table.proofs.Passing.{in_line-change, front_found, front_passes, none_passes, length-in_line}
use Rattle.isr_watch.specs.declared.watchdog.Watchdog.{Watchdog}
use Rattle.isr_watch.specs.declared.watchdog.Timer.{Timer}
use Rattle.isr_watch.specs.declared.watchdog.Alarm.{Alarm}
use Rattle.isr_watch.specs.State.{watchdog_id, watchdog_routine, start_of, starts_before, has_come, is_due, due_watchdogs, first_due}
use Rattle.isr_watch.specs.Calls.{stopped, stop_due}
use Rattle.isr_watch.specs.Inside.{DueFrom, NoneBefore, SameIds, alarm_of}
use Rattle.isr_watch.proofs.Writes.{rising_of, write_own}

pub starts_before-order : IsStrictWeakOrder starts_before
starts_before-order = IsStrictWeakOrder-by_number (λ (w : Watchdog). start_of w.timer)

pub length-due : (ws : List Watchdog) (tick : ℕ) → length (due_watchdogs ws tick) ≤ length ws
length-due ws tick = length-in_line watchdog_id starts_before starts_before-order (is_due tick) ws

-- after one that is due has stopped, the others that are due stop as before
stop_once : (tick n : ℕ) (ws : List Watchdog) → All (λ w. w.id ≡ n → is_due tick w ≡ true) ws → stop_due tick (change watchdog_id ws n stopped) ≡ stop_due tick ws
stop_once tick n [] all = refl
stop_once tick n (w ∷ ws) all =
    let later = stop_once tick n ws (All-tail (λ (v : Watchdog). v.id ≡ n → is_due tick v ≡ true) w ws all) in
    elim (eqb w.id n) as (λ b. eqb w.id n ≡ b → cond (is_due tick (cond b (stopped w) w)) (stopped (cond b (stopped w) w)) (cond b (stopped w) w) ∷ stop_due tick (change watchdog_id ws n stopped) ≡ cond (is_due tick w) (stopped w) w ∷ stop_due tick ws) [
      | true ↦ λ b.
          let comes = All-head (λ (v : Watchdog). v.id ≡ n → is_due tick v ≡ true) w ws all (eqb-true w.id n b) in
          ap (λ vs. stopped w ∷ vs) later ∙ ap (λ v. cond v (stopped w) w ∷ stop_due tick ws) (sym comes)
      | false ↦ λ b. ap (λ vs. cond (is_due tick w) (stopped w) w ∷ vs) later
    ] refl

none_due : (tick : ℕ) (ws : List Watchdog) → All (λ w. is_due tick w ≡ false) ws → stop_due tick ws ≡ ws
none_due tick [] all = refl
none_due tick (w ∷ ws) all =
    ap (λ b. cond b (stopped w) w ∷ stop_due tick ws) (All-head (λ (v : Watchdog). is_due tick v ≡ false) w ws all)
    ∙ ap (λ vs. w ∷ vs) (none_due tick ws (All-tail (λ (v : Watchdog). is_due tick v ≡ false) w ws all))

-- one iteration of the loop
pub record Iteration (t u : Rows Watchdog) (tick : ℕ) (f : Alarm) : Type 0 where
  pub own : SameIds u.rows
  pub watchdogs : stop_due tick (objects u.rows) ≡ stop_due tick (objects t.rows)
  pub routines : f.routine ∷ map watchdog_routine (due_watchdogs (objects u.rows) tick) ≡ map watchdog_routine (due_watchdogs (objects t.rows) tick)
  pub fewer : length (due_watchdogs (objects u.rows) tick) + 1 ≡ length (due_watchdogs (objects t.rows) tick)

alarm_found : (o : Option Watchdog) (f : Alarm) → Some f ≡ option_map alarm_of o → (x : Watchdog) × (o ≡ Some x) × (f ≡ alarm_of x)
alarm_found None f e = absurd (cc)
alarm_found (Some x) f e = (x, refl, cc)

no_alarm : (o : Option Watchdog) → None ≡ option_map alarm_of o → o ≡ None
no_alarm None e = refl
no_alarm (Some x) e = absurd (cc)

pub alarm_lives : (t : Rows Watchdog) (tick : ℕ) (f : Alarm) → SameIds t.rows → Rising row_id t.rows → Some f ≡ option_map alarm_of (first_due (objects t.rows) tick) → IsSome (object_of t.rows f.id)
alarm_lives t tick f own up e =
    let x = alarm_found (first_due (objects t.rows) tick) f e in
    let found = front_found watchdog_id starts_before starts_before-order (is_due tick) (objects t.rows) x.0 (rising_of t.rows own up) x.1 in
    subst (λ o. IsSome o) (sym (object-record watchdog_id t.rows f.id own ∙ ap (λ (u : Alarm). of_id watchdog_id (objects t.rows) u.id) x.2 ∙ found)) refl

pub iteration : (t : Rows Watchdog) (tick : ℕ) (f : Alarm) (v : Watchdog) → SameIds t.rows → Rising row_id t.rows → Some f ≡ option_map alarm_of (first_due (objects t.rows) tick) → object_of t.rows f.id ≡ Some v
    → Iteration t (rewritten t f.id (stopped v)) tick f
iteration t tick f v own up e value =
    let ws = objects t.rows in
    let rising = rising_of t.rows own up in
    let x = alarm_found (first_due ws tick) f e in
    let found = front_found watchdog_id starts_before starts_before-order (is_due tick) ws x.0 rising x.1 in
    let at : f.id ≡ x.0.id = ap (λ (u : Alarm). u.id) x.2 in
    let here : of_id watchdog_id ws f.id ≡ Some x.0 = ap (of_id watchdog_id ws) at ∙ found in
    let same : v ≡ x.0 = same_Some v x.0 (sym value ∙ object-record watchdog_id t.rows f.id own ∙ here) in
    let us = objects (rewritten t f.id (stopped v)).rows in
    let moved : us ≡ change watchdog_id ws x.0.id stopped =
    objects-replace watchdog_id t.rows f.id (stopped v) own ∙ ap (λ w. replace watchdog_id ws f.id (stopped w)) same
    ∙ ap (λ n. replace watchdog_id ws n (stopped x.0)) at ∙ replace-change watchdog_id ws x.0.id x.0 stopped rising found in
    let split = first_is starts_before (due_watchdogs ws tick) x.0 x.1 in
    let left : due_watchdogs us tick ≡ split.0 =
    ap (λ vs. due_watchdogs vs tick) moved ∙ in_line-change watchdog_id starts_before starts_before-order (is_due tick) ws stopped x.0 split.0 (λ y. refl) rising split.1 in
    let passes = front_passes watchdog_id starts_before starts_before-order (is_due tick) ws x.0 x.1 in
    record {
      own = write_own t.rows f.id v (stopped v) own value refl;
      watchdogs = ap (stop_due tick) moved
          ∙ stop_once tick x.0.id ws (λ k d hk id. subst (λ y. is_due tick y ≡ true) (sym (one_of_id watchdog_id ws x.0.id x.0 k d rising found hk id)) passes);
      routines = ap (λ (u : Alarm). u.routine ∷ map watchdog_routine (due_watchdogs us tick)) x.2
          ∙ ap (λ vs. watchdog_routine x.0 ∷ map watchdog_routine vs) left ∙ ap (map watchdog_routine) (sym split.1);
      fewer = ap (λ vs. length vs + 1) left ∙ sym (ap length split.1 ∙ omega arith);
    }

-- the end of the loop
pub done_stop : (ws : List Watchdog) (tick : ℕ) → None ≡ option_map alarm_of (first_due ws tick) → stop_due tick ws ≡ ws
done_stop ws tick e = none_due tick ws (none_passes watchdog_id starts_before starts_before-order (is_due tick) ws (no_alarm (first_due ws tick) e))

-- ---- a tick before which no watchdog is due
not_due : (soonest tick : ℕ) (ws : List Watchdog) → tick < soonest → NoneBefore soonest ws → All (λ w. is_due tick w ≡ false) ws
not_due soonest tick ws before early = All-weaker (DueFrom soonest) (λ w. is_due tick w ≡ false) (λ w. waits w.timer) ws early
  where
    waits : (o : Option Timer) → IfSome o (λ t. soonest ≤ t.due) → has_come tick o ≡ false
    waits None from = refl
    waits (Some t) from = lt-leb t.due tick (omega (arith, from))

none_pass : (p : Watchdog → Bool) (ws : List Watchdog) → All (λ w. p w ≡ false) ws → filter p ws ≡ []
none_pass p [] all = refl
none_pass p (w ∷ ws) all =
    ap (λ b. cond b (w ∷ filter p ws) (filter p ws)) (All-head (λ (v : Watchdog). p v ≡ false) w ws all)
    ∙ none_pass p ws (All-tail (λ (v : Watchdog). p v ≡ false) w ws all)

-- before that tick none stops
pub none_stops : (soonest tick : ℕ) (ws : List Watchdog) → tick < soonest → NoneBefore soonest ws → stop_due tick ws ≡ ws
none_stops soonest tick ws before early = none_due tick ws (not_due soonest tick ws before early)

-- before that tick none is listed
pub none_listed : (soonest tick : ℕ) (ws : List Watchdog) → tick < soonest → NoneBefore soonest ws → due_watchdogs ws tick ≡ []
none_listed soonest tick ws before early = ap (sorted starts_before) (none_pass (is_due tick) ws (not_due soonest tick ws before early))
