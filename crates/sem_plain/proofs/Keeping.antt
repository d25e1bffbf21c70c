-- The semaphores' invariant is kept by the calls on them, and by everything that begins no other waits.
use Rattle.std.proofs.Common.{◌≡◌, ℕ, ◌+◌, ◌-◌, ◌<◌, ◌≤◌, true, false, ◌&&◌, not, cond, eqb, List, [], ◌∷◌, ◌++◌, get_or, Option, None, Some, IfSome, is_some, refl, sym, ap, ◌∙◌, subst, arith}
use Rattle.std.specs.List.{All}
use Rattle.std.specs.Option.{option_map}
use Rattle.std.proofs.lemmas.Bool.{eqb-true, ne_eqb, and_parts, leb-true, le-leb}
use Rattle.std.proofs.lemmas.List.Elements.{All-weaker, All-push, All-filter}
use Rattle.wind_base.specs.declared.errno.Errno.{Errno}
use Rattle.wind_base.specs.declared.errno.Errno.TheVariants as errors
use Rattle.wind_base.specs.declared.semaphore.SemKind.{SemKind}
use Rattle.wind_base.specs.declared.semaphore.SemKind.TheVariants as kinds
use Rattle.wind_base.specs.SemBits.{is_priority}
use Rattle.id_table.specs.Rows.{IdsBelow, object_of, with_object, without}
use Rattle.id_table.specs.declared.ident.Place.{Place}
use Rattle.id_table.proofs.Lookups.{object_of-write, object_of-without, object_of-push, All-write, found_has, found_below}
use Rattle.task_block.specs.declared.task.Task.{Task}
use Rattle.id_table.proofs.Passing.{none_passes}
use Rattle.wind_core.specs.State.{KernState, task_id}
use Rattle.wind_core.specs.Orders.{same_place, is_place, waits_at, waits_before}
use Rattle.wind_core.specs.Moves.{pend, end_wait, wake_all}
use Rattle.wind_core.proofs.Passes.{waits_before-order}
use Rattle.sem_plain.specs.declared.semaphore.Semaphore.{Semaphore}
use Rattle.sem_plain.specs.State.{SemState, both, sem_place, may_hold}
use Rattle.sem_plain.specs.Calls.{live, written, new_semaphore, create, declined, taken, starved, take_deed, counted_down, after_take, take, denied, passed_on, counted, give_deed, next_of, count_after_give, counted_up, after_give, give}
use Rattle.sem_plain.specs.Kept.{IsCount, IsForEmpty, IsForMade, KeepsSemaphores, BeginsOnly}
use Rattle.sem_plain.specs.Laws.{nowhere, MayBegin, BesideLaw, CallsLaw}
use Rattle.sem_plain.proofs.Beginning.{all_old}
use Rattle.sem_plain.proofs.Deeds.{TakeIs, take_is, GiveIs, give_is}
use Rattle.sem_plain.proofs.Moving.{begins-pend, begins-end_wait, begins-wake_all}

-- ---- the kernel's other moves
-- an object that is made stays made
made_later : (next more : ℕ) (ts : List Task) → next ≤ more → All (λ t. IsForMade next t.wait) ts → All (λ t. IsForMade more t.wait) ts
made_later next more ts le all = All-weaker (λ t. IsForMade next t.wait) (λ t. IsForMade more t.wait) (λ t. later t.wait) ts all
  where
    later : (w : Option Place) → IsForMade next w → IsForMade more w
    later None made = tt
    later (Some p) made = omega (arith, made, le)

pub beside : BesideLaw
beside s begins n kept moves may =
    let may_empty : (p : Place) → begins p ≡ true → IsForEmpty s.semaphores (Some p) = λ p b. (may p b).empty in
    let may_made : (p : Place) → begins p ≡ true → IsForMade s.kern.next_id (Some p) = λ p b. (may p b).made in
    record {
      ids = All-weaker (λ r. r.0 < s.kern.next_id) (λ r. r.0 < n.next_id) (λ r below. omega (arith, moves.next, below)) s.semaphores kept.ids;
      counts = kept.counts;
      empty = all_old (IsForEmpty s.semaphores) begins s.kern.tasks n.tasks tt kept.empty may_empty moves.waits;
      made = made_later s.kern.next_id n.next_id n.tasks moves.next (all_old (IsForMade s.kern.next_id) begins s.kern.tasks n.tasks tt kept.made may_made moves.waits);
    }

-- no wait begins anywhere
pub calmly : (s : SemState) (n : KernState) → KeepsSemaphores s → BeginsOnly nowhere s.kern n → KeepsSemaphores (both n s.semaphores)
calmly s n kept moves = beside s nowhere n kept moves (λ p b. absurd (cc))

-- ---- places
pub place_is : (place p : Place) → same_place place p ≡ true → place ≡ p
place_is place p e =
    let parts = and_parts (eqb place.side p.side) (eqb place.id p.id) e in
    let side = eqb-true place.side p.side parts.0 in
    let id = eqb-true place.id p.id parts.1 in
    λ i. record { side = side i; id = id i }

-- ---- a semaphore is overwritten
-- if its count is above 0, no task waits for it
pub nobody_waits : (ss : List (ℕ × Semaphore)) (id : ℕ) (v : Semaphore) (w : Option Place) → object_of ss id ≡ Some v → (v.count ≡ 0 → ⊥) → IsForEmpty ss w → is_place (sem_place id) w ≡ false
nobody_waits ss id v None e full empty = refl
nobody_waits ss id v (Some p) e full empty =
    elim (same_place p (sem_place id)) as (λ b. same_place p (sem_place id) ≡ b → b ≡ false) [
      | true ↦ λ b.
          let here : IsForEmpty ss (Some (sem_place id)) = subst (λ q. IsForEmpty ss (Some q)) (place_is p (sem_place id) b) empty in
          absurd (full (subst (λ o. IfSome o (λ u. u.count ≡ 0)) e here))
      | false ↦ λ b. refl
    ] refl

-- a wait elsewhere isn't affected by a write
empty_write : (ss : List (ℕ × Semaphore)) (id : ℕ) (y : Semaphore) (w : Option Place) → IsForEmpty ss w → is_place (sem_place id) w ≡ false → IsForEmpty (with_object ss id y) w
empty_write ss id y None empty away = tt
empty_write ss id y (Some p) empty away =
    elim (eqb p.side 0) as (λ b. IfSome (cond b (object_of ss p.id) None) (λ v. v.count ≡ 0) → (b && eqb p.id id) ≡ false → IfSome (cond b (object_of (with_object ss id y) p.id) None) (λ v. v.count ≡ 0)) [
      | true ↦ λ h other.
          subst (λ o. IfSome o (λ v. v.count ≡ 0)) (sym (object_of-write ss id p.id y))
          (elim (object_of ss p.id) as (λ o. IfSome o (λ v. v.count ≡ 0) → IfSome (option_map (λ x. cond (eqb p.id id) y x) o) (λ v. v.count ≡ 0)) [
            | None ↦ λ q. tt
            | Some x ↦ λ q. subst (λ c. (cond c y x).count ≡ 0) (sym other) q
          ] h)
      | false ↦ λ h other. tt
    ] empty away

write_keeps : (s : SemState) (id : ℕ) (y : Semaphore) → KeepsSemaphores s → IsCount y → All (λ t. waits_at (sem_place id) t ≡ false) s.kern.tasks → KeepsSemaphores (written s id y)
write_keeps s id y kept count none = record {
  ids = All-write (λ r. r.0 < s.kern.next_id) s.semaphores id y kept.ids (λ r below. below);
  counts = All-write (λ r. IsCount r.1) s.semaphores id y kept.counts (λ r before. count);
  empty = λ i d within. empty_write s.semaphores id y (get_or s.kern.tasks i d).wait (kept.empty i d within) (none i d within);
  made = kept.made;
}

-- ---- counts
count_down_may : (kind : SemKind) (n : ℕ) → may_hold kind n ≡ true → may_hold kind (n - 1) ≡ true
count_down_may kinds.Binary n h = le-leb (n - 1) 1 (omega (arith, leb-true n 1 h))
count_down_may kinds.Counting n h = refl
count_down_may kinds.Mutex n h = absurd (cc)

count_up_may : (kind : SemKind) (n : ℕ) → may_hold kind n ≡ true → may_hold kind (count_after_give kind n) ≡ true
count_up_may kinds.Binary n h = refl
count_up_may kinds.Counting n h = refl
count_up_may kinds.Mutex n h = absurd (cc)

-- ---- the calls
-- no task waits for a new one
empty_push : (ss : List (ℕ × Semaphore)) (next : ℕ) (v : Semaphore) (w : Option Place) → IsForEmpty ss w → IsForMade next w → IsForEmpty (ss ++ (next, v) ∷ []) w
empty_push ss next v None empty made = tt
empty_push ss next v (Some p) empty made =
    elim (eqb p.side 0) as (λ b. IfSome (cond b (object_of ss p.id) None) (λ u. u.count ≡ 0) → IfSome (cond b (object_of (ss ++ (next, v) ∷ []) p.id) None) (λ u. u.count ≡ 0)) [
      | true ↦ λ h.
          subst (λ o. IfSome o (λ u. u.count ≡ 0)) (sym (object_of-push ss next p.id v ∙ ap (λ c. cond (is_some (object_of ss p.id)) (object_of ss p.id) (cond c (Some v) None)) (ne_eqb next p.id (λ e. omega (arith, e, made)))))
          (elim (object_of ss p.id) as (λ o. IfSome o (λ u. u.count ≡ 0) → IfSome (cond (is_some o) o None) (λ u. u.count ≡ 0)) [ None ↦ λ q. tt | Some x ↦ λ q. q ] h)
      | false ↦ λ h. tt
    ] empty

pub below_create : (next : ℕ) (ss : List (ℕ × Semaphore)) (v : Semaphore) → IdsBelow next ss → IdsBelow (next + 1) (ss ++ (next, v) ∷ [])
below_create next ss v below =
    All-push (λ r. r.0 < next + 1) ss (next, v) (All-weaker (λ r. r.0 < next) (λ r. r.0 < next + 1) (λ r h. omega (arith, h)) ss below) (omega arith)

create_keeps : (s : SemState) (v : Semaphore) → KeepsSemaphores s → IsCount v → KeepsSemaphores (create s v)
create_keeps s v kept count =
    let next = s.kern.next_id in
    record {
      ids = below_create next s.semaphores v kept.ids;
      counts = All-push (λ r. IsCount r.1) s.semaphores (next, v) kept.counts count;
      empty = λ i d within. empty_push s.semaphores next v (get_or s.kern.tasks i d).wait (kept.empty i d within) (kept.made i d within);
      made = made_later next (next + 1) s.kern.tasks (omega arith) kept.made;
    }

-- a wait for a semaphore with count 0 may begin
pub may_pend : (s : SemState) (id : ℕ) (v : Semaphore) (p : Place) → KeepsSemaphores s → live s id ≡ Some v → v.count ≡ 0 → same_place (sem_place id) p ≡ true → MayBegin s p
may_pend s id v p kept e zero here =
    subst (MayBegin s) (place_is (sem_place id) p here)
    (record {
      empty = subst (λ o. IfSome o (λ u. u.count ≡ 0)) (sym e) zero;
      made = found_below s.semaphores s.kern.next_id id v kept.ids e;
    })

take_keeps : (s : SemState) (who id n : ℕ) → KeepsSemaphores s → KeepsSemaphores (take s who id n)
take_keeps s who id n kept =
    elim (take_deed n (live s id)) as (λ d. TakeIs s id n d → KeepsSemaphores (after_take s who id n d)) [
      | declined e ↦ λ is. kept
      | taken v ↦ λ is.
          write_keeps s id (counted_down v) kept (count_down_may v.kind v.count (found_has IsCount s.semaphores id v kept.counts is.0))
          (λ i d within. nobody_waits s.semaphores id v (get_or s.kern.tasks i d).wait is.0 is.1 (kept.empty i d within))
      | starved v ↦ λ is.
          beside s (same_place (sem_place id)) (pend s.kern who (sem_place id) (not (is_priority v.options)) n) kept
          (begins-pend s.kern who (sem_place id) (not (is_priority v.options)) n) (λ p here. may_pend s id v p kept is.0 is.1 here)
    ] (take_is s id n)

give_keeps : (s : SemState) (id : ℕ) → KeepsSemaphores s → KeepsSemaphores (give s id)
give_keeps s id kept =
    elim (give_deed (next_of s id) (live s id)) as (λ d. GiveIs s id d → KeepsSemaphores (after_give s id d)) [
      | denied e ↦ λ is. kept
      | passed_on t ↦ λ is. calmly s (end_wait s.kern t.id 0 None) kept (begins-end_wait s.kern t.id 0 None)
      | counted v ↦ λ is.
          write_keeps s id (counted_up v) kept (count_up_may v.kind v.count (found_has IsCount s.semaphores id v kept.counts is.0))
          (none_passes task_id waits_before waits_before-order (waits_at (sem_place id)) s.kern.tasks is.1)
    ] (give_is s id)

-- a wait isn't for more semaphores after one is removed
empty_without : (ss : List (ℕ × Semaphore)) (id : ℕ) (w : Option Place) → IsForEmpty ss w → IsForEmpty (without ss id) w
empty_without ss id None empty = tt
empty_without ss id (Some p) empty =
    elim (eqb p.side 0) as (λ b. IfSome (cond b (object_of ss p.id) None) (λ u. u.count ≡ 0) → IfSome (cond b (object_of (without ss id) p.id) None) (λ u. u.count ≡ 0)) [
      | true ↦ λ h.
          subst (λ o. IfSome o (λ u. u.count ≡ 0)) (sym (object_of-without ss id p.id))
          (elim (eqb p.id id) as (λ c. IfSome (cond c None (object_of ss p.id)) (λ u. u.count ≡ 0)) [ true ↦ tt | false ↦ h ])
      | false ↦ λ h. tt
    ] empty

without_keeps : (s : SemState) (id : ℕ) → KeepsSemaphores s → KeepsSemaphores (both s.kern (without s.semaphores id))
without_keeps s id kept = record {
  ids = All-filter (λ r. not (eqb r.0 id)) (λ r. r.0 < s.kern.next_id) s.semaphores kept.ids;
  counts = All-filter (λ r. not (eqb r.0 id)) (λ r. IsCount r.1) s.semaphores kept.counts;
  empty = λ i d within. empty_without s.semaphores id (get_or s.kern.tasks i d).wait (kept.empty i d within);
  made = kept.made;
}

flush_keeps : (s : SemState) (id answer : ℕ) (errno : Option Errno) → KeepsSemaphores s → KeepsSemaphores (both (wake_all s.kern (sem_place id) answer errno) s.semaphores)
flush_keeps s id answer errno kept = calmly s (wake_all s.kern (sem_place id) answer errno) kept (begins-wake_all s.kern (sem_place id) answer errno)

pub calls_keep : CallsLaw
calls_keep s kept = record {
  creating = λ kind options count may. create_keeps s (new_semaphore kind options count) kept may;
  taking = λ who id n. take_keeps s who id n kept;
  giving = λ id. give_keeps s id kept;
  flushing = λ id. flush_keeps s id 0 None kept;
  deleting = λ id. without_keeps (both (wake_all s.kern (sem_place id) 4294967295 (Some errors.ObjDeleted)) s.semaphores) id (flush_keeps s id 4294967295 (Some errors.ObjDeleted) kept);
}
