-- Waits end without a result, one after the other.
use Rattle.std.proofs.Common.{◌≡◌, ℕ, ◌+◌, ◌≤◌, true, false, cond, not, List, [], ◌∷◌, length, None, Some, IsSome, refl, sym, ap, ◌∙◌, subst, arith}
use Rattle.std.specs.Option.{option_map}
use Rattle.id_table.specs.declared.ident.Place.{Place}
use Rattle.task_block.specs.declared.task.Task.{Task}
use Rattle.id_table.specs.Records.{Rising}
use Rattle.id_table.proofs.Sorting.{first_is}
use Rattle.id_table.proofs.Passing.{front_found}
use Rattle.wind_core.specs.State.{KernState, IsKern, Lives, task_id, task_of}
use Rattle.wind_core.specs.Orders.{waits_before, waits_at, waiters, first_waiter}
use Rattle.wind_core.specs.Moves.{released, settled, renewed, move_found, release}
use Rattle.wind_core.specs.Releases.{releases, release_all}
use Rattle.wind_core.proofs.Passes.{waits_before-order}
use Rattle.wind_core.proofs.Keeping.{release_keeps}
use Rattle.wind_core.proofs.Waking.{in_line-move, id_found}

settled_waits : (place : Place) (since : ℕ) (t : Task) → waits_at place (settled since (released t)) ≡ false
settled_waits place since t = elim t.suspended as (λ b. waits_at place (cond (not b) (renewed since (released t)) (released t)) ≡ false) [ true ↦ refl | false ↦ refl ]

-- at most one order number is given
pub since-release : (s : KernState) (who : ℕ) → (release s who).next_since ≤ s.next_since + 1
since-release s who =
    elim (task_of s.tasks who) as (λ o. (move_found s who released o).next_since ≤ s.next_since + 1) [
      | None ↦ omega arith
      | Some t ↦ elim t.suspended as (λ b. s.next_since + cond (not b) 1 0 ≤ s.next_since + 1) [ true ↦ omega arith | false ↦ omega arith ]
    ]

pub waiters-release : (s : KernState) (place : Place) (x : Task) (rest : List Task) → Rising task_id s.tasks → waiters s.tasks place ≡ x ∷ rest → waiters (release s x.id).tasks place ≡ rest
waiters-release s place x rest up e = in_line-move waits_before waits_before-order (waits_at place) s released x rest (settled_waits place s.next_since) up e

-- one iteration of the loop
pub record Freed (s : KernState) (place : Place) (who : ℕ) : Type 0 where
  pub lives : Lives s who
  pub same : release_all (release s who) place ≡ release_all s place
  pub fewer : length (waiters (release s who).tasks place) + 1 ≡ length (waiters s.tasks place)
  pub sinces : (release s who).next_since ≤ s.next_since + 1

front_freed : (s : KernState) (place : Place) (x : Task) → Rising task_id s.tasks → first_waiter s.tasks place ≡ Some x → Freed s place x.id
front_freed s place x up e =
    let split = first_is waits_before (waiters s.tasks place) x e in
    let left = waiters-release s place x split.0 up split.1 in
    record {
      lives = subst (λ o. IsSome o) (sym (front_found task_id waits_before waits_before-order (waits_at place) s.tasks x up e)) refl;
      same = ap (λ ws. releases (release s x.id) ws) left ∙ ap (λ ws. releases s ws) (sym split.1);
      fewer = ap (λ ws. length ws + 1) left ∙ sym (ap length split.1 ∙ omega arith);
      sinces = since-release s x.id;
    }

pub freed_first : (s : KernState) (place : Place) (who : ℕ) → Rising task_id s.tasks → Some who ≡ option_map task_id (first_waiter s.tasks place) → Freed s place who
freed_first s place who up e =
    let x = id_found (first_waiter s.tasks place) who e in
    subst (Freed s place) (sym x.2) (front_freed s place x.0 up x.1)

-- the invariant holds again
pub releases_keep : (s : KernState) (ts : List Task) → IsKern s → IsKern (releases s ts)
releases_keep s [] is = is
releases_keep s (t ∷ ts) is = releases_keep (release s t.id) ts (release_keeps s t.id is)

-- no task waits there any more
pub releases-clear : (s : KernState) (place : Place) (ts : List Task) → IsKern s → waiters s.tasks place ≡ ts → waiters (releases s ts).tasks place ≡ []
releases-clear s place [] is e = e
releases-clear s place (x ∷ rest) is e = releases-clear (release s x.id) place rest (release_keeps s x.id is) (waiters-release s place x rest is.rising e)
