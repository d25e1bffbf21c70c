-- Waits end one after the other: the first task that passes a test goes on, and the others keep their order.
use Rattle.std.proofs.Common.{◌≡◌, ℕ, ◌+◌, ◌≤◌, Bool, true, false, cond, not, List, ◌∷◌, length, Option, None, Some, IsSome, is_some, refl, sym, ap, ◌∙◌, subst, arith}
use Rattle.std.specs.List.{fold}
use Rattle.std.specs.Option.{option_map}
use Rattle.std.specs.Cmp.{IsStrictWeakOrder}
use Rattle.wind_base.specs.declared.errno.Errno.{Errno}
use Rattle.id_table.specs.declared.ident.Place.{Place}
use Rattle.task_block.specs.declared.task.Task.{Task}
use Rattle.id_table.specs.Records.{Rising}
use Rattle.id_table.specs.Sorting.{in_line, first}
use Rattle.id_table.proofs.Sorting.{first_is}
use Rattle.id_table.proofs.Passing.{in_line-change, length-in_line, front_found}
use Rattle.wind_core.specs.State.{KernState, Lives, task_id, task_of}
use Rattle.wind_core.specs.Orders.{waits_before, waits_at, waiters, first_waiter, arrives_before, is_due, due, first_due}
use Rattle.wind_core.specs.Moves.{answered, settled, renewed, move_found, move_task, end_wait, end_waits, wake_all}
use Rattle.wind_core.specs.Tick.{late_answer, late_errno, time_out, wake_due}
use Rattle.wind_core.proofs.Passes.{waits_before-order, arrives_before-order}

-- ---- one task goes on
-- after the first one has gone on and doesn't pass any more, the others keep their order
pub in_line-move : (lt : Task → Task → Bool) → IsStrictWeakOrder lt → (p : Task → Bool) (s : KernState) (f : Task → Task) (x : Task) (rest : List Task)
    → ((t : Task) → p (settled s.next_since (f t)) ≡ false) → Rising task_id s.tasks → in_line lt p s.tasks ≡ x ∷ rest
    → in_line lt p (move_task s x.id f).tasks ≡ rest
in_line-move lt order p s f x rest gone up e =
    ap (λ o. in_line lt p (move_found s x.id f o).tasks) (front_found task_id lt order p s.tasks x up (ap first e))
    ∙ in_line-change task_id lt order p s.tasks (λ t. settled s.next_since (f t)) x rest gone up e

settled_waits : (place : Place) (since answer : ℕ) (errno : Option Errno) (t : Task) → waits_at place (settled since (answered answer errno t)) ≡ false
settled_waits place since answer errno t =
    elim t.suspended as (λ b. waits_at place (cond (not b) (renewed since (answered answer errno t)) (answered answer errno t)) ≡ false) [ true ↦ refl | false ↦ refl ]

settled_due : (tick since answer : ℕ) (errno : Option Errno) (t : Task) → is_due tick (settled since (answered answer errno t)) ≡ false
settled_due tick since answer errno t =
    elim t.suspended as (λ b. is_due tick (cond (not b) (renewed since (answered answer errno t)) (answered answer errno t)) ≡ false) [ true ↦ refl | false ↦ refl ]

-- at most one order number is given
pub since-end_wait : (s : KernState) (who answer : ℕ) (errno : Option Errno) → (end_wait s who answer errno).next_since ≤ s.next_since + 1
since-end_wait s who answer errno =
    elim (task_of s.tasks who) as (λ o. (move_found s who (answered answer errno) o).next_since ≤ s.next_since + 1) [
      | None ↦ omega arith
      | Some t ↦ elim t.suspended as (λ b. s.next_since + cond (not b) 1 0 ≤ s.next_since + 1) [ true ↦ omega arith | false ↦ omega arith ]
    ]

-- what is read of the first one
pub id_found : (o : Option Task) (who : ℕ) → Some who ≡ option_map task_id o → (x : Task) × (o ≡ Some x) × (who ≡ x.id)
id_found None who e = absurd (cc)
id_found (Some x) who e = (x, refl, cc)

pub no_id : (o : Option Task) → None ≡ option_map task_id o → o ≡ None
no_id None e = refl
no_id (Some x) e = absurd (cc)

-- ---- all waiters of a place
pub length-waiters : (ts : List Task) (place : Place) → length (waiters ts place) ≤ length ts
length-waiters ts place = length-in_line task_id waits_before waits_before-order (waits_at place) ts

pub waiters-end_wait : (s : KernState) (place : Place) (answer : ℕ) (errno : Option Errno) (x : Task) (rest : List Task) → Rising task_id s.tasks → waiters s.tasks place ≡ x ∷ rest
    → waiters (end_wait s x.id answer errno).tasks place ≡ rest
waiters-end_wait s place answer errno x rest up e =
    in_line-move waits_before waits_before-order (waits_at place) s (answered answer errno) x rest (settled_waits place s.next_since answer errno) up e

-- one iteration of the loop that wakes all
pub record Woken (s : KernState) (place : Place) (answer : ℕ) (errno : Option Errno) (who : ℕ) : Type 0 where
  pub lives : Lives s who
  pub same : wake_all (end_wait s who answer errno) place answer errno ≡ wake_all s place answer errno
  pub fewer : length (waiters (end_wait s who answer errno).tasks place) + 1 ≡ length (waiters s.tasks place)
  pub sinces : (end_wait s who answer errno).next_since ≤ s.next_since + 1

wake_front : (s : KernState) (place : Place) (answer : ℕ) (errno : Option Errno) (x : Task) → Rising task_id s.tasks → first_waiter s.tasks place ≡ Some x → Woken s place answer errno x.id
wake_front s place answer errno x up e =
    let split = first_is waits_before (waiters s.tasks place) x e in
    let left = waiters-end_wait s place answer errno x split.0 up split.1 in
    record {
      lives = subst (λ o. IsSome o) (sym (front_found task_id waits_before waits_before-order (waits_at place) s.tasks x up e)) refl;
      same = ap (λ ws. end_waits (end_wait s x.id answer errno) ws answer errno) left ∙ ap (λ ws. end_waits s ws answer errno) (sym split.1);
      fewer = ap (λ ws. length ws + 1) left ∙ sym (ap length split.1 ∙ omega arith);
      sinces = since-end_wait s x.id answer errno;
    }

pub woken_first : (s : KernState) (place : Place) (answer : ℕ) (errno : Option Errno) (who : ℕ) → Rising task_id s.tasks → Some who ≡ option_map task_id (first_waiter s.tasks place)
    → Woken s place answer errno who
woken_first s place answer errno who up e =
    let x = id_found (first_waiter s.tasks place) who e in
    subst (Woken s place answer errno) (sym x.2) (wake_front s place answer errno x.0 up x.1)

-- ---- all tasks whose wake has come
pub length-due : (ts : List Task) (tick : ℕ) → length (due ts tick) ≤ length ts
length-due ts tick = length-in_line task_id arrives_before arrives_before-order (is_due tick) ts

pub due-end_wait : (s : KernState) (tick answer : ℕ) (errno : Option Errno) (x : Task) (rest : List Task) → Rising task_id s.tasks → due s.tasks tick ≡ x ∷ rest
    → due (end_wait s x.id answer errno).tasks tick ≡ rest
due-end_wait s tick answer errno x rest up e =
    in_line-move arrives_before arrives_before-order (is_due tick) s (answered answer errno) x rest (settled_due tick s.next_since answer errno) up e

-- one iteration of the loop that wakes the tasks that are due
pub record TimedOut (s : KernState) (tick : ℕ) (x : Task) : Type 0 where
  pub lives : Lives s x.id
  pub same : wake_due (time_out s x) tick ≡ wake_due s tick
  pub fewer : length (due (time_out s x).tasks tick) + 1 ≡ length (due s.tasks tick)
  pub sinces : (time_out s x).next_since ≤ s.next_since + 1

pub timed_out_first : (s : KernState) (tick : ℕ) (x : Task) → Rising task_id s.tasks → first_due s.tasks tick ≡ Some x → TimedOut s tick x
timed_out_first s tick x up e =
    let split = first_is arrives_before (due s.tasks tick) x e in
    let left = due-end_wait s tick (late_answer (is_some x.wait)) (late_errno (is_some x.wait)) x split.0 up split.1 in
    record {
      lives = subst (λ o. IsSome o) (sym (front_found task_id arrives_before arrives_before-order (is_due tick) s.tasks x up e)) refl;
      same = ap (fold time_out (time_out s x)) left ∙ ap (fold time_out s) (sym split.1);
      fewer = ap (λ ws. length ws + 1) left ∙ sym (ap length split.1 ∙ omega arith);
      sinces = since-end_wait s x.id (late_answer (is_some x.wait)) (late_errno (is_some x.wait));
    }
