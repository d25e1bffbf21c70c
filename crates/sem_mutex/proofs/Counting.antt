-- One mutex is overwritten or removed: what a look-up finds, which owner inherits, and how many mutexes each task owns.
use Rattle.std.proofs.Common.{◌≡◌, ℕ, suc, ◌+◌, ◌<◌, Bool, true, false, cond, not, ◌&&◌, eqb, List, [], ◌∷◌, length, get_or, Option, None, Some, refl, sym, ap, ◌∙◌, subst, arith}
use Rattle.std.specs.List.{All}
use Rattle.std.specs.Option.{option_map}
use Rattle.std.proofs.lemmas.Bool.{eqb-true, eq-eqb, ne_eqb}
use Rattle.std.proofs.lemmas.Option.{same_Some}
use Rattle.std.proofs.lemmas.List.Elements.{All-cons, All-nil}
use Rattle.std.proofs.lemmas.List.Sums.{sum_by-cons}
use Rattle.id_table.proofs.Kept.{object_of-cons}
use Rattle.id_table.specs.Rows.{object_of, with_object, without, row_id}
use Rattle.id_table.specs.declared.ident.Place.{Place}
use Rattle.wind_core.specs.Orders.{is_place}
use Rattle.inheritance.specs.declared.mutex.Mutex.{Mutex}
use Rattle.inheritance.specs.Mutexes.{is_id, holds, held_count, mutex_place}
use Rattle.inheritance.specs.Reach.{mutex_at, owner_at}
use Rattle.sem_mutex.proofs.Following.{mutex_at_has, lender_is}
use Rattle.id_table.specs.Records.{Rising}
use Rattle.id_table.proofs.Records.{rising_tail, rising_head}

abbrev pub one : Bool → ℕ
one b = cond b 1 0

-- ---- look-ups
pub object_of-write : (rs : List (ℕ × Mutex)) (id y : ℕ) (v : Mutex) → object_of (with_object rs id v) y ≡ option_map (λ m. cond (eqb y id) v m) (object_of rs y)
object_of-write [] id y v = refl
object_of-write (r ∷ rs) id y v =
    let ih = object_of-write rs id y v in
    let put : ℕ × Mutex = cond (eqb r.0 id) (r.0, v) r in
    object_of-cons put.0 put.1 (with_object rs id v) y
    ∙ elim (eqb r.0 id) as (λ b. eqb r.0 id ≡ b → cond (eqb (cond b (r.0, v) r).0 y) (Some (cond b (r.0, v) r).1) (object_of (with_object rs id v) y) ≡ option_map (λ m. cond (eqb y id) v m) (cond (eqb r.0 y) (Some r.1) (object_of rs y))) [
      | true ↦ λ b.
          elim (eqb r.0 y) as (λ d. eqb r.0 y ≡ d → cond d (Some v) (object_of (with_object rs id v) y) ≡ option_map (λ m. cond (eqb y id) v m) (cond d (Some r.1) (object_of rs y))) [
            | true ↦ λ d. ap (λ t. Some (cond t v r.1)) (sym (ap (λ n. eqb n id) (sym (eqb-true r.0 y d)) ∙ b))
            | false ↦ λ d. ih
          ] refl
      | false ↦ λ b.
          elim (eqb r.0 y) as (λ d. eqb r.0 y ≡ d → cond d (Some r.1) (object_of (with_object rs id v) y) ≡ option_map (λ m. cond (eqb y id) v m) (cond d (Some r.1) (object_of rs y))) [
            | true ↦ λ d. ap (λ t. Some (cond t v r.1)) (sym (ap (λ n. eqb n id) (sym (eqb-true r.0 y d)) ∙ b))
            | false ↦ λ d. ih
          ] refl
    ] refl
    ∙ ap (option_map (λ m. cond (eqb y id) v m)) (sym (object_of-cons r.0 r.1 rs y))

pub object_of-without : (rs : List (ℕ × Mutex)) (id y : ℕ) → object_of (without rs id) y ≡ cond (eqb y id) None (object_of rs y)
object_of-without [] id y = elim (eqb y id) as (λ b. ◌≡◌ {A = Option Mutex} None (cond b None None)) [ true ↦ refl | false ↦ refl ]
object_of-without (r ∷ rs) id y =
    let ih = object_of-without rs id y in
    elim (eqb r.0 id) as (λ b. eqb r.0 id ≡ b → object_of (cond (not b) (r ∷ without rs id) (without rs id)) y ≡ cond (eqb y id) None (cond (eqb r.0 y) (Some r.1) (object_of rs y))) [
      | true ↦ λ b.
          elim (eqb r.0 y) as (λ d. eqb r.0 y ≡ d → object_of (without rs id) y ≡ cond (eqb y id) None (cond d (Some r.1) (object_of rs y))) [
            | true ↦ λ d.
                let here : eqb y id ≡ true = ap (λ n. eqb n id) (sym (eqb-true r.0 y d)) ∙ b in
                ih ∙ ap (λ t. cond t None (object_of rs y)) here ∙ ap (λ t. cond t None (Some r.1)) (sym here)
            | false ↦ λ d. ih
          ] refl
      | false ↦ λ b.
          object_of-cons r.0 r.1 (without rs id) y
          ∙ elim (eqb r.0 y) as (λ d. eqb r.0 y ≡ d → cond d (Some r.1) (object_of (without rs id) y) ≡ cond (eqb y id) None (cond d (Some r.1) (object_of rs y))) [
            | true ↦ λ d. ap (λ t. cond t None (Some r.1)) (sym (ap (λ n. eqb n id) (sym (eqb-true r.0 y d)) ∙ b))
            | false ↦ λ d. ih
          ] refl
    ] refl
    ∙ ap (cond (eqb y id) None) (sym (object_of-cons r.0 r.1 rs y))

option_map_id : (o : Option Mutex) → option_map (λ m. m) o ≡ o
option_map_id None = refl
option_map_id (Some m) = refl

-- the mutex that a wait is for, after one is overwritten
pub mutex_at-write : (ms : List (ℕ × Mutex)) (id : ℕ) (m v : Mutex) (w : Option Place) → object_of ms id ≡ Some m
    → mutex_at (with_object ms id v) w ≡ cond (is_place (mutex_place id) w) (Some v) (mutex_at ms w)
mutex_at-write ms id m v None e = refl
mutex_at-write ms id m v (Some p) e =
    elim (eqb p.side 0) as (λ b. cond b (object_of (with_object ms id v) p.id) None ≡ cond (b && eqb p.id id) (Some v) (cond b (object_of ms p.id) None)) [
      | true ↦
          object_of-write ms id p.id v
          ∙ elim (eqb p.id id) as (λ c. eqb p.id id ≡ c → option_map (λ u. cond c v u) (object_of ms p.id) ≡ cond c (Some v) (object_of ms p.id)) [
            | true ↦ λ c. ap (λ o. option_map (λ (u : Mutex). v) o) (ap (object_of ms) (eqb-true p.id id c) ∙ e)
            | false ↦ λ c. option_map_id (object_of ms p.id)
          ] refl
      | false ↦ refl
    ]

pub mutex_at-without : (ms : List (ℕ × Mutex)) (id : ℕ) (w : Option Place) → mutex_at (without ms id) w ≡ cond (is_place (mutex_place id) w) None (mutex_at ms w)
mutex_at-without ms id None = refl
mutex_at-without ms id (Some p) =
    elim (eqb p.side 0) as (λ b. cond b (object_of (without ms id) p.id) None ≡ cond (b && eqb p.id id) None (cond b (object_of ms p.id) None)) [
      | true ↦ object_of-without ms id p.id
      | false ↦ refl
    ]

-- the mutex at its own place
pub mutex_at_place : (ms : List (ℕ × Mutex)) (id : ℕ) (w : Option Place) → is_place (mutex_place id) w ≡ true → mutex_at ms w ≡ object_of ms id
mutex_at_place ms id None e = absurd (cc)
mutex_at_place ms id (Some p) e =
    elim (eqb p.side 0) as (λ b. (b && eqb p.id id) ≡ true → cond b (object_of ms p.id) None ≡ object_of ms id) [
      | true ↦ λ q. ap (object_of ms) (eqb-true p.id id q)
      | false ↦ λ q. absurd (cc)
    ] e

-- ---- ids that rise
none_with : (n : ℕ) (rs : List (ℕ × Mutex)) → ((k : ℕ) (d : ℕ × Mutex) → k < length rs → n < (get_or rs k d).0) → object_of rs n ≡ None
none_with n [] h = refl
none_with n (r ∷ rs) h =
    let above : n < r.0 = h 0 r (omega arith) in
    object_of-cons r.0 r.1 rs n ∙ ap (λ b. cond b (Some r.1) (object_of rs n)) (ne_eqb r.0 n (λ e. omega arith)) ∙ none_with n rs (λ k d hk. h (suc k) d (omega arith))

write_none : (rs : List (ℕ × Mutex)) (id : ℕ) (v : Mutex) → object_of rs id ≡ None → with_object rs id v ≡ rs
write_none [] id v e = refl
write_none (r ∷ rs) id v e =
    elim (eqb r.0 id) as (λ b. cond b (Some r.1) (object_of rs id) ≡ None → cond b (r.0, v) r ∷ with_object rs id v ≡ r ∷ rs) [
      | true ↦ λ q. absurd (cc)
      | false ↦ λ q. ap (λ xs. r ∷ xs) (write_none rs id v q)
    ] (sym (object_of-cons r.0 r.1 rs id) ∙ e)

without_none : (rs : List (ℕ × Mutex)) (id : ℕ) → object_of rs id ≡ None → without rs id ≡ rs
without_none [] id e = refl
without_none (r ∷ rs) id e =
    elim (eqb r.0 id) as (λ b. cond b (Some r.1) (object_of rs id) ≡ None → cond (not b) (r ∷ without rs id) (without rs id) ≡ r ∷ rs) [
      | true ↦ λ q. absurd (cc)
      | false ↦ λ q. ap (λ xs. r ∷ xs) (without_none rs id q)
    ] (sym (object_of-cons r.0 r.1 rs id) ∙ e)

-- ---- counts
pub count-cons : (i : ℕ) (r : ℕ × Mutex) (rs : List (ℕ × Mutex)) → held_count (r ∷ rs) i ≡ one (holds i r.1) + held_count rs i
count-cons i r rs = sum_by-cons (λ v. cond (holds i v.1) 1 0) r rs

-- after v replaces m, a count of owned mutexes has what v counts instead of what m counted
pub count_write : (ms : List (ℕ × Mutex)) (id : ℕ) (m v : Mutex) → Rising row_id ms → object_of ms id ≡ Some m → (i : ℕ) → held_count (with_object ms id v) i + one (holds i m) ≡ held_count ms i + one (holds i v)
count_write [] id m v up e i = absurd (cc)
count_write (r ∷ rs) id m v up e i =
    elim (eqb r.0 id) as (λ b. eqb r.0 id ≡ b → cond b (Some r.1) (object_of rs id) ≡ Some m → held_count (cond b (r.0, v) r ∷ with_object rs id v) i + one (holds i m) ≡ held_count (r ∷ rs) i + one (holds i v)) [
      | true ↦ λ b q.
          let none : object_of rs id ≡ None = subst (λ n. object_of rs n ≡ None) (eqb-true r.0 id b) (none_with r.0 rs (rising_head row_id r rs up)) in
          let rest = ap (λ xs. held_count xs i) (write_none rs id v none) in
          let own = ap (λ u. one (holds i u)) (same_Some r.1 m q) in
          let left = count-cons i (r.0, v) (with_object rs id v) in
          let right = count-cons i r rs in
          omega arith
      | false ↦ λ b q.
          let ih = count_write rs id m v (rising_tail row_id r rs up) q i in
          let left = count-cons i r (with_object rs id v) in
          let right = count-cons i r rs in
          omega arith
    ] refl (sym (object_of-cons r.0 r.1 rs id) ∙ e)

pub count_without : (ms : List (ℕ × Mutex)) (id : ℕ) (m : Mutex) → Rising row_id ms → object_of ms id ≡ Some m → (i : ℕ) → held_count (without ms id) i + one (holds i m) ≡ held_count ms i
count_without [] id m up e i = absurd (cc)
count_without (r ∷ rs) id m up e i =
    elim (eqb r.0 id) as (λ b. eqb r.0 id ≡ b → cond b (Some r.1) (object_of rs id) ≡ Some m → held_count (cond (not b) (r ∷ without rs id) (without rs id)) i + one (holds i m) ≡ held_count (r ∷ rs) i) [
      | true ↦ λ b q.
          let none : object_of rs id ≡ None = subst (λ n. object_of rs n ≡ None) (eqb-true r.0 id b) (none_with r.0 rs (rising_head row_id r rs up)) in
          let rest = ap (λ xs. held_count xs i) (without_none rs id none) in
          let own = ap (λ u. one (holds i u)) (same_Some r.1 m q) in
          let right = count-cons i r rs in
          omega arith
      | false ↦ λ b q.
          let ih = count_without rs id m (rising_tail row_id r rs up) q i in
          let left = count-cons i r (without rs id) in
          let right = count-cons i r rs in
          omega arith
    ] refl (sym (object_of-cons r.0 r.1 rs id) ∙ e)

-- ---- a task that owns none inherits nothing
count_zero : (ms : List (ℕ × Mutex)) (i : ℕ) → held_count ms i ≡ 0 → All (λ r. holds i r.1 ≡ false) ms
count_zero [] i z = All-nil (λ (r : ℕ × Mutex). holds i r.1 ≡ false)
count_zero (r ∷ rs) i z =
    let sum = count-cons i r rs in
    All-cons (λ (v : ℕ × Mutex). holds i v.1 ≡ false) r rs
    (elim (holds i r.1) as (λ b. held_count (r ∷ rs) i ≡ one b + held_count rs i → b ≡ false) [ true ↦ λ q. absurd (omega arith) | false ↦ λ q. refl ] sum)
    (count_zero rs i (omega (arith, sum)))

pub no_lender : (ms : List (ℕ × Mutex)) (i : ℕ) → held_count ms i ≡ 0 → (w : Option Place) → owner_at ms w ≡ Some i → ⊥
no_lender ms i z w e =
    let m = lender_is (mutex_at ms w) i e in
    let no : holds i m.0 ≡ false = mutex_at_has (λ v. holds i v ≡ false) ms w m.0 (count_zero ms i z) m.1 in
    let yes : holds i m.0 ≡ true = ap (λ b. b && is_id i m.0.owner) m.2 ∙ ap (is_id i) m.3 ∙ eq-eqb i i refl in
    cc
