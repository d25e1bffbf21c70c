-- Which tasks wait, after one is changed, made or removed; and the first waiter of a place.
use Rattle.std.proofs.Common.{◌≡◌, ℕ, ◌+◌, ◌<◌, ◌≤◌, true, false, not, cond, eqb, List, [], ◌∷◌, ◌++◌, map, length, Option, None, Some, refl, sym, ap, ◌∙◌, subst, arith}
use Rattle.std.specs.List.{All, filter, cons_option}
use Rattle.std.specs.Option.{option_map}
use Rattle.std.proofs.lemmas.Bool.{and_parts, eqb-true, lt-ltb, le-ltb}
use Rattle.std.proofs.lemmas.List.{append-nil}
use Rattle.std.proofs.lemmas.List.Elements.{All-contains, All-cons, All-head, All-tail, filter_map-append}
use Rattle.std.proofs.lemmas.Option.{same_Some}
use Rattle.id_table.specs.declared.ident.Place.{Place}
use Rattle.task_block.specs.declared.task.Task.{Task}
use Rattle.id_table.specs.Records.{replace, without, with_record, Rising}
use Rattle.id_table.specs.Sorting.{sorted, first}
use Rattle.id_table.proofs.Records.{rising_tail, rising_head, found_id, found_at}
use Rattle.id_table.proofs.Places.{gone, above_none, none_without, not_there, fewer_without}
use Rattle.id_table.proofs.Sorting.{seen_sorted}
use Rattle.wait_order.specs.declared.waits.Waiter.{Waiter}
use Rattle.wait_order.specs.Line.{Line, waiter_id, waiter_of, without_waiter, stands_before, stands_at, first_at}
use Rattle.wait_order.proofs.LineOrder.{line_alike}
use Rattle.wind_core.specs.State.{task_id, task_of}
use Rattle.wind_core.specs.Orders.{waits_at, same_place, is_place, waiters, first_waiter}
use Rattle.wind_core.specs.Waiting.{waiter_at, as_waiter, waits_of, task_waits, with_found, mended}

-- a removed task doesn't wait
pub taken_absent : (l : Line) (who : ℕ) → waiter_of (without_waiter l who).waiters who ≡ None
taken_absent l who = gone waiter_id l.waiters who

-- one more waiter at the beginning, or none
abbrev pub keyed : Option Place → Task → List Waiter → List Waiter
keyed p t ws = cons_option (option_map (waiter_at t) p) ws

-- ---- a task is removed
keyed_without : (t : Task) (p : Option Place) (ws : List Waiter) (who : ℕ) → without waiter_id (keyed p t ws) who ≡ cond (not (eqb t.id who)) (keyed p t (without waiter_id ws who)) (without waiter_id ws who)
keyed_without t None ws who = elim (eqb t.id who) as (λ b. without waiter_id ws who ≡ cond (not b) (without waiter_id ws who) (without waiter_id ws who)) [ true ↦ refl | false ↦ refl ]
keyed_without t (Some p) ws who = refl

pub waits_without : (ts : List Task) (who : ℕ) → waits_of (without task_id ts who) ≡ without waiter_id (waits_of ts) who
waits_without [] who = refl
waits_without (t ∷ ts) who =
    elim (eqb t.id who) as (λ b. waits_of (cond (not b) (t ∷ without task_id ts who) (without task_id ts who)) ≡ cond (not b) (keyed t.wait t (without waiter_id (waits_of ts) who)) (without waiter_id (waits_of ts) who)) [
      | true ↦ waits_without ts who
      | false ↦ ap (keyed t.wait t) (waits_without ts who)
    ]
    ∙ sym (keyed_without t t.wait (waits_of ts) who)

-- ---- a task is made, and waits for nothing
pub waits_push : (ts : List Task) (t : Task) → t.wait ≡ None → waits_of (ts ++ t ∷ []) ≡ waits_of ts
waits_push ts t none =
    filter_map-append as_waiter ts (t ∷ [])
    ∙ ap (λ p. waits_of ts ++ keyed p t []) none
    ∙ append-nil (waits_of ts)

-- ---- a task changes
-- the waiters of tasks with ids above a number have ids above it
keyed_above : (n : ℕ) (t : Task) (p : Option Place) (ws : List Waiter) → n < t.id → All (λ w. n < w.who) ws → All (λ w. n < w.who) (keyed p t ws)
keyed_above n t None ws here above = above
keyed_above n t (Some p) ws here above = All-cons (λ (w : Waiter). n < w.who) (waiter_at t p) ws here above

waits_above : (n : ℕ) (ts : List Task) → All (λ t. n < t.id) ts → All (λ w. n < w.who) (waits_of ts)
waits_above n [] above = λ k d hk. absurd (omega arith)
waits_above n (t ∷ ts) above = keyed_above n t t.wait (waits_of ts) (All-head (λ (u : Task). n < u.id) t ts above) (waits_above n ts (All-tail (λ (u : Task). n < u.id) t ts above))

tasks_above : (t : Task) (ts : List Task) → Rising task_id (t ∷ ts) → All (λ u. t.id < u.id) ts
tasks_above t ts up k d hk = rising_head task_id t ts up k d hk

-- if all waiters have ids above its own, a waiter goes to the beginning
at_head : (w : Waiter) (ws : List Waiter) → All (λ v. w.who < v.who) ws → with_record waiter_id ws w ≡ w ∷ ws
at_head w [] above = refl
at_head w (v ∷ vs) above =
    let here : w.who < v.who = All-head (λ (u : Waiter). w.who < u.who) v vs above in
    ap (λ b. cond b (v ∷ with_record waiter_id vs w) (w ∷ v ∷ vs)) (le-ltb v.who w.who (omega arith))

-- an optional waiter is inserted
abbrev pub put_into : List Waiter → Option Waiter → List Waiter
put_into ws None = ws
put_into ws (Some w) = with_record waiter_id ws w

front_found : (y : Task) (p : Option Place) (ws : List Waiter) → All (λ v. y.id < v.who) ws → keyed p y ws ≡ put_into ws (option_map (waiter_at y) p)
front_found y None ws above = refl
front_found y (Some p) ws above = sym (at_head (waiter_at y p) ws above)

-- it goes after one with a lesser id
later : (t y : Task) (p q : Option Place) (ws : List Waiter) → t.id < y.id → keyed p t (put_into ws (option_map (waiter_at y) q)) ≡ put_into (keyed p t ws) (option_map (waiter_at y) q)
later t y None q ws less = refl
later t y (Some p) None ws less = refl
later t y (Some p) (Some q) ws less = ap (λ b. cond b (waiter_at t p ∷ with_record waiter_id ws (waiter_at y q)) (waiter_at y q ∷ waiter_at t p ∷ ws)) (sym (lt-ltb t.id y.id less))

-- the line after the task with an id changed: it is there as it waits now, or not at all
pub waits_replace : (ts : List Task) (who : ℕ) (x y : Task) → Rising task_id ts → task_of ts who ≡ Some x → y.id ≡ who
    → waits_of (replace task_id ts who y) ≡ put_into (without waiter_id (waits_of ts) who) (as_waiter y)
waits_replace [] who x y up e own = absurd (cc)
waits_replace (t ∷ ts) who x y up e own =
    elim (eqb t.id who) as (λ b. eqb t.id who ≡ b → cond b (Some t) (task_of ts who) ≡ Some x
    → waits_of (cond b y t ∷ replace task_id ts who y) ≡ put_into (without waiter_id (waits_of (t ∷ ts)) who) (as_waiter y)) [
      | true ↦ λ b q.
          let here : t.id ≡ who = eqb-true t.id who b in
          let above : All (λ u. who < u.id) ts = subst (λ n. All (λ u. n < u.id) ts) here (tasks_above t ts up) in
          let waiting : All (λ w. who < w.who) (waits_of ts) = waits_above who ts above in
          ap (λ us. keyed y.wait y (waits_of us)) (not_there task_id ts who (λ _. y) (above_none task_id ts who above))
          ∙ front_found y y.wait (waits_of ts) (subst (λ n. All (λ w. n < w.who) (waits_of ts)) (sym own) waiting)
          ∙ ap (λ ws. put_into ws (as_waiter y))
          (sym (none_without waiter_id (waits_of ts) who (above_none waiter_id (waits_of ts) who waiting))
          ∙ ap (λ c. cond (not c) (keyed t.wait t (without waiter_id (waits_of ts) who)) (without waiter_id (waits_of ts) who)) (sym b)
          ∙ sym (keyed_without t t.wait (waits_of ts) who))
      | false ↦ λ b q.
          let less : t.id < y.id = subst (λ n. t.id < n) (found_id task_id ts who x q ∙ sym own) (All-contains (λ u. t.id < u.id) ts x (tasks_above t ts up) (found_at task_id ts who x q)) in
          ap (keyed t.wait t) (waits_replace ts who x y (rising_tail task_id t ts up) q own)
          ∙ later t y t.wait y.wait (without waiter_id (waits_of ts) who) less
          ∙ ap (λ ws. put_into ws (as_waiter y))
          (ap (λ c. cond (not c) (keyed t.wait t (without waiter_id (waits_of ts) who)) (without waiter_id (waits_of ts) who)) (sym b)
          ∙ sym (keyed_without t t.wait (waits_of ts) who))
    ] refl e

-- a change that keeps a task's key keeps the line
pub waits_same : (ts : List Task) (who : ℕ) (x y : Task) → Rising task_id ts → task_of ts who ≡ Some x → as_waiter y ≡ as_waiter x → waits_of (replace task_id ts who y) ≡ waits_of ts
waits_same [] who x y up e same = absurd (cc)
waits_same (t ∷ ts) who x y up e same =
    elim (eqb t.id who) as (λ b. eqb t.id who ≡ b → cond b (Some t) (task_of ts who) ≡ Some x → waits_of (cond b y t ∷ replace task_id ts who y) ≡ waits_of (t ∷ ts)) [
      | true ↦ λ b q.
          let here : t.id ≡ who = eqb-true t.id who b in
          let above : All (λ u. who < u.id) ts = subst (λ n. All (λ u. n < u.id) ts) here (tasks_above t ts up) in
          ap (λ us. keyed y.wait y (waits_of us)) (not_there task_id ts who (λ _. y) (above_none task_id ts who above))
          ∙ ap (λ o. cons_option o (waits_of ts)) (same ∙ ap as_waiter (sym (same_Some t x q)))
      | false ↦ λ b q. ap (keyed t.wait t) (waits_same ts who x y (rising_tail task_id t ts up) q same)
    ] refl e

-- ---- room
keyed_long : (t : Task) (p : Option Place) (ws : List Waiter) → length (keyed p t ws) ≤ length ws + 1
keyed_long t None ws = omega arith
keyed_long t (Some p) ws = omega arith

length-waits : (ts : List Task) → length (waits_of ts) ≤ length ts
length-waits [] = omega arith
length-waits (t ∷ ts) = omega (arith, keyed_long t t.wait (waits_of ts), length-waits ts)

-- without one of the tasks, fewer wait than there are tasks
pub fewer_wait : (ts : List Task) (who : ℕ) (x : Task) → task_of ts who ≡ Some x → length (without waiter_id (waits_of ts) who) < length ts
fewer_wait ts who x e =
    omega (arith, ap length (waits_without ts who), length-waits (without task_id ts who), fewer_without task_id ts who x e)

-- ---- the line, as the kernel has it
with_put : (ws : List Waiter) (n : ℕ) (o : Option Waiter) → with_found (record { waiters = ws; room = n }) o ≡ record { waiters = put_into ws o; room = n }
with_put ws n None = refl
with_put ws n (Some w) = refl

pub mended_is : (ts : List Task) (who : ℕ) (x y : Task) → Rising task_id ts → task_of ts who ≡ Some x → y.id ≡ who → mended (task_waits ts) y ≡ task_waits (replace task_id ts who y)
mended_is ts who x y up e own =
    ap (λ n. with_found (without_waiter (task_waits ts) n) (as_waiter y)) own
    ∙ with_put (without waiter_id (waits_of ts) who) 256 (as_waiter y)
    ∙ line_alike (put_into (without waiter_id (waits_of ts) who) (as_waiter y)) (waits_of (replace task_id ts who y)) 256 (sym (waits_replace ts who x y up e own))

-- ---- the first waiter of a place
one_place : (p q : Place) → p.side ≡ q.side → p.id ≡ q.id → p ≡ q
one_place p q side id = λ i. record { side = side i; id = id i }

abbrev standing : Place → Task → Waiter
standing place t = waiter_at t place

standing_all : (place : Place) (t : Task) (p : Option Place) (ts : List Task) → filter (stands_at place) (waits_of ts) ≡ map (standing place) (filter (waits_at place) ts)
    → filter (stands_at place) (keyed p t (waits_of ts)) ≡ map (standing place) (cond (is_place place p) (t ∷ filter (waits_at place) ts) (filter (waits_at place) ts))
standing_all place t None ts rest = rest
standing_all place t (Some p) ts rest =
    elim (same_place p place) as (λ b. same_place p place ≡ b
    → cond b (waiter_at t p ∷ filter (stands_at place) (waits_of ts)) (filter (stands_at place) (waits_of ts)) ≡ map (standing place) (cond b (t ∷ filter (waits_at place) ts) (filter (waits_at place) ts))) [
      | true ↦ λ b.
          let parts = and_parts (eqb p.side place.side) (eqb p.id place.id) b in
          ap (λ q. waiter_at t q ∷ filter (stands_at place) (waits_of ts)) (one_place p place (eqb-true p.side place.side parts.0) (eqb-true p.id place.id parts.1))
          ∙ ap (λ ws. waiter_at t place ∷ ws) rest
      | false ↦ λ b. rest
    ] refl

standing_waits : (place : Place) (ts : List Task) → filter (stands_at place) (waits_of ts) ≡ map (standing place) (filter (waits_at place) ts)
standing_waits place [] = refl
standing_waits place (t ∷ ts) = standing_all place t t.wait ts (standing_waits place ts)

first-map : (place : Place) (ts : List Task) → option_map waiter_id (first (map (standing place) ts)) ≡ option_map task_id (first ts)
first-map place [] = refl
first-map place (t ∷ ts) = refl

-- the first waiter of a place, in the line and from the tasks
pub first_waits : (ts : List Task) (place : Place) → first_at (waits_of ts) place ≡ option_map task_id (first_waiter ts place)
first_waits ts place =
    ap (λ ws. option_map waiter_id (first (sorted stands_before ws))) (standing_waits place ts)
    ∙ ap (λ ws. option_map waiter_id (first ws)) (sym (seen_sorted (standing place) stands_before (filter (waits_at place) ts)))
    ∙ first-map place (waiters ts place)
