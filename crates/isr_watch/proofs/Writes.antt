-- The table of watchdogs after one is overwritten, added or removed.
use Rattle.std.proofs.Common.{◌≡◌, ℕ, ◌+◌, ◌<◌, ◌≤◌, min, ◌∷◌, [], List, length, Option, None, Some, IsSome, Result, Ok, Err, IfOk, IfErr, refl, sym, ap, ◌∙◌, subst, arith, rules}
use Rattle.std.specs.List.{All}
use Rattle.std.proofs.lemmas.List.{length-map, get_or-map, map-append}
use Rattle.std.proofs.lemmas.List.Elements.{All-push, All-weaker}
use Rattle.std.proofs.lemmas.Option.{IfSome_then}
use Rattle.wind_base.specs.declared.errno.Errno.{Errno}
use Rattle.wind_base.specs.declared.regs.Regs.{Regs}
use Rattle.id_table.specs.Rows.{Rows, IdsBelow, row_id, row_object, object_of, objects, with_object, added}
use Rattle.id_table.specs.Rows as table
use Rattle.id_table.specs.Source.{Ids, one_given}
use Rattle.id_table.proofs.Owning.{object-record, objects-replace, objects-without, OwnIds-write}
use Rattle.id_table.specs.Records.{of_id, change, Rising}
use Rattle.id_table.proofs.Records.{found_id, replace-change, All-replace}
use Rattle.isr_watch.specs.declared.watchdog.Watchdog.{Watchdog}
use Rattle.isr_watch.specs.declared.watchdog.Routine.{Routine}
use Rattle.isr_watch.specs.State.{WatchState, watchdog_id, watchdog_of}
use Rattle.isr_watch.specs.Calls.{create_refusal, new_watchdog, started, start_found, start, stopped, cancel_found, cancel, deleted, delete}
use Rattle.isr_watch.specs.Inside.{DueFrom, NoneBefore, SameIds, IsLevel, watch_state}

-- the ids rise along the records too
pub rising_of : (rs : List (ℕ × Watchdog)) → SameIds rs → Rising row_id rs → Rising watchdog_id (objects rs)
rising_of rs own up i j d hij hj =
    let e : ℕ × Watchdog = (0, d) in
    let wj : j < length rs = omega (arith, hj, length-map rs row_object) in
    let wi : i < length rs = omega (arith, hij, wj) in
    let first = ap watchdog_id (get_or-map row_object rs i e d wi) ∙ own i e wi in
    let second = ap watchdog_id (get_or-map row_object rs j e d wj) ∙ own j e wj in
    omega (arith, up i j e hij wj, first, second)

-- the ids of the table are those of the records
pub below_of : (rs : List (ℕ × Watchdog)) (next : ℕ) → SameIds rs → All (λ w. w.id < next) (objects rs) → IdsBelow next rs
below_of rs next own below i d within =
    let read = ap watchdog_id (get_or-map row_object rs i d d.1 within) ∙ own i d within in
    omega (arith, read, below i d.1 (omega (arith, within, length-map rs row_object)))

-- the watchdog with an id, in the table and among the records
pub found_record : (rs : List (ℕ × Watchdog)) (n : ℕ) (v : Watchdog) → SameIds rs → object_of rs n ≡ Some v → of_id watchdog_id (objects rs) n ≡ Some v
found_record rs n v own value = sym (object-record watchdog_id rs n own) ∙ value

pub write_own : (rs : List (ℕ × Watchdog)) (n : ℕ) (v y : Watchdog) → SameIds rs → object_of rs n ≡ Some v → y.id ≡ v.id → SameIds (with_object rs n y)
write_own rs n v y own value id = OwnIds-write watchdog_id rs n y own (id ∙ found_id watchdog_id (objects rs) n v (found_record rs n v own value))

write_is : (rs : List (ℕ × Watchdog)) (n : ℕ) (v : Watchdog) (f : Watchdog → Watchdog) → SameIds rs → Rising row_id rs → object_of rs n ≡ Some v
    → objects (with_object rs n (f v)) ≡ change watchdog_id (objects rs) n f
write_is rs n v f own up value =
    objects-replace watchdog_id rs n (f v) own ∙ replace-change watchdog_id (objects rs) n v f (rising_of rs own up) (found_record rs n v own value)

-- a watchdog among the records is in the table
pub live_object : (rs : List (ℕ × Watchdog)) (ws : List Watchdog) (n : ℕ) → SameIds rs → objects rs ≡ ws → IsSome (watchdog_of ws n) → IsSome (object_of rs n)
live_object rs ws n own seen lives = subst (λ o. IsSome o) (sym (object-record watchdog_id rs n own ∙ ap (λ us. watchdog_of us n) seen)) lives

pub lives_in : (rs : List (ℕ × Watchdog)) (n : ℕ) → SameIds rs → IsSome (of_id watchdog_id (objects rs) n) → (v : Watchdog) × (object_of rs n ≡ Some v)
lives_in rs n own lives = some_of (object_of rs n) (live_object rs (objects rs) n own refl lives)
  where
    some_of : (o : Option Watchdog) → IsSome o → (v : Watchdog) × (o ≡ Some v)
    some_of None h = absurd (cc)
    some_of (Some v) h = (v, refl)

-- the invariant after one is overwritten
pub write_level : (t : Rows Watchdog) (level : Option Regs) (listed : List Routine) (soonest n : ℕ) (v y : Watchdog) → IsLevel t level listed soonest → object_of t.rows n ≡ Some v → y.id ≡ v.id
    → DueFrom soonest y → IsLevel (table.rewritten t n y) level listed soonest
write_level t level listed soonest n v y is value id early = record {
  own = write_own t.rows n v y is.own value id;
  room = is.room;
  early = subst (NoneBefore soonest) (sym (objects-replace watchdog_id t.rows n y is.own)) (All-replace watchdog_id (DueFrom soonest) (objects t.rows) n y is.early early);
  idle = is.idle;
}

-- a watchdog that isn't due before a tick isn't due before an earlier one
due_sooner : (m n : ℕ) (w : Watchdog) → m ≤ n → DueFrom n w → DueFrom m w
due_sooner m n w less from = IfSome_then w.timer from (λ t h. omega arith)

-- the same invariant for an earlier tick
pub sooner : (t : Rows Watchdog) (level : Option Regs) (listed : List Routine) (m n : ℕ) → m ≤ n → IsLevel t level listed n → IsLevel t level listed m
sooner t level listed m n less is = record {
  own = is.own;
  room = is.room;
  early = All-weaker (DueFrom n) (DueFrom m) (λ w. due_sooner m n w less) (objects t.rows) is.early;
  idle = is.idle;
}

-- the invariant after one is started
pub start_level : (t : Rows Watchdog) (level : Option Regs) (listed : List Routine) (soonest due n : ℕ) (v y : Watchdog) → IsLevel t level listed soonest → object_of t.rows n ≡ Some v → y.id ≡ v.id
    → DueFrom due y → IsLevel (table.rewritten t n y) level listed (min soonest due)
start_level t level listed soonest due n v y is value id early =
    write_level t level listed (min soonest due) n v y (sooner t level listed (min soonest due) soonest (omega arith) is) value id (due_sooner (min soonest due) due y (omega arith) early)

-- ---- the calls
-- a watchdog is added, or nothing changes
pub made_own : (t u : Rows Watchdog) (soonest : ℕ) (i j : Ids) (r : Result ℕ Errno) → SameIds t.rows → NoneBefore soonest (objects t.rows)
    → IfOk r (λ id. (create_refusal (length t.rows) i.next ≡ None) × (id ≡ i.next) × (j ≡ one_given i) × (u ≡ added t i.next (new_watchdog i.next)))
    → IfErr r (λ e. (create_refusal (length t.rows) i.next ≡ Some e) × (j ≡ i) × (u ≡ t)) → SameIds u.rows × NoneBefore soonest (objects u.rows) × (u.room ≡ t.room)
made_own t u soonest i j (Ok id) own early ok err =
    let new = new_watchdog i.next in
    subst (λ (v : Rows Watchdog). SameIds v.rows × NoneBefore soonest (objects v.rows) × (v.room ≡ t.room)) (sym ok.3) (
      All-push (λ (r : ℕ × Watchdog). r.1.id ≡ r.0) t.rows (i.next, new) own refl,
      subst (NoneBefore soonest) (sym (map-append row_object t.rows ((i.next, new) ∷ []))) (All-push (DueFrom soonest) (objects t.rows) new early (search rules)),
      refl,
    )
made_own t u soonest i j (Err e) own early ok err = subst (λ (v : Rows Watchdog). SameIds v.rows × NoneBefore soonest (objects v.rows) × (v.room ≡ t.room)) (sym err.2) (own, early, refl)

module _ (rs : List (ℕ × Watchdog)) (level : Option Regs) (listed : List Routine) (next link n id : ℕ) (v : Watchdog) (own : SameIds rs) (value : object_of rs n ≡ Some v) (same : n ≡ id) where
  pub cancelled_is : Rising row_id rs → watch_state (with_object rs n (stopped v)) level listed next link ≡ cancel (watch_state rs level listed next link) id
  cancelled_is up =
      let s = watch_state rs level listed next link in
      ap {B = WatchState} (λ ws. record s { watchdogs = ws }) (write_is rs n v stopped own up value)
      ∙ ap (cancel_found s n) (sym (found_record rs n v own value))
      ∙ ap (cancel s) same

  pub deleted_is : watch_state (table.without rs n) level listed next link ≡ delete (watch_state rs level listed next link) id
  deleted_is =
      let s = watch_state rs level listed next link in
      ap {B = WatchState} (λ ws. record s { watchdogs = ws }) (objects-without watchdog_id rs n own)
      ∙ ap (deleted s n) (sym (found_record rs n v own value))
      ∙ ap (delete s) same

  pub started_is : (tick delay : ℕ) (routine : Routine) (y : Watchdog) → Rising row_id rs → y ≡ started tick delay routine next v
      → watch_state (with_object rs n y) level listed (next + 1) link ≡ start (watch_state rs level listed next link) id tick delay routine
  started_is tick delay routine y up e =
      let s = watch_state rs level listed next link in
      ap (λ w. watch_state (with_object rs n w) level listed (next + 1) link) e
      ∙ ap {B = WatchState} (λ ws. record s { watchdogs = ws; next_start = next + 1 }) (write_is rs n v (started tick delay routine next) own up value)
      ∙ ap (start_found s n tick delay routine) (sym (found_record rs n v own value))
      ∙ ap (λ m. start s m tick delay routine) same
