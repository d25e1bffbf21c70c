-- Which waits a move of the kernel begins, from what it does to one task.
use Rattle.std.proofs.Common.{◌≡◌, ℕ, ◌≤◌, Bool, true, List, get_or, Option, None, Some, refl, subst, arith, inl, inr, ⊎_elim}
use Rattle.std.specs.List.{All, Contains}
use Rattle.std.proofs.lemmas.List.Elements.{All-contains, All-contains_itself, All-weaker}
use Rattle.id_table.specs.declared.ident.Place.{Place}
use Rattle.task_block.specs.declared.task.Task.{Task}
use Rattle.wind_core.specs.State.{KernState}
use Rattle.wind_core.specs.Moves.{change_task, renew_task, move_task}
use Rattle.wind_core.proofs.Stable.{All-change, renew_task-stable, move_task-stable}
use Rattle.wind_core.proofs.NextId.{next-move}
use Rattle.sem_plain.specs.Kept.{IsOldOr, BeginsOnly}
use Rattle.sem_plain.specs.Laws.{ThenLaw}

-- a property of the old waits, and of those at places where waits may begin, holds for a wait that is one of these
pub from_old : (Q : Option Place → Type 0) (begins : Place → Bool) (ts : List Task) (w : Option Place) → Q None → All (λ t. Q t.wait) ts → ((p : Place) → begins p ≡ true → Q (Some p)) → IsOldOr begins ts w → Q w
from_old Q begins ts None none all new old = none
from_old Q begins ts (Some p) none all new old =
    ⊎_elim (λ before. subst Q before.2 (All-contains (λ t. Q t.wait) ts before.0 all before.1)) (λ begun. new p begun) old

-- the same for all tasks after a move
pub all_old : (Q : Option Place → Type 0) (begins : Place → Bool) (ts us : List Task) → Q None → All (λ t. Q t.wait) ts → ((p : Place) → begins p ≡ true → Q (Some p)) → All (λ u. IsOldOr begins ts u.wait) us
    → All (λ u. Q u.wait) us
all_old Q begins ts us none all new old = All-weaker (λ u. IsOldOr begins ts u.wait) (λ u. Q u.wait) (λ u. from_old Q begins ts u.wait none all new) us old

pub then : ThenLaw
then begins k m n first second = record {
  next = omega (arith, first.next, second.next);
  waits = all_old (IsOldOr begins k.tasks) begins m.tasks n.tasks tt first.waits (λ p begun. inr begun) second.waits;
}

module _ (begins : Place → Bool) (k : KernState) where
  -- a wait of the task of k, or one that may begin
  abbrev pub IsOld : Task → Type 0
  IsOld u = IsOldOr begins k.tasks u.wait

  old_itself : (t : Task) → Contains k.tasks t → IsOld t
  old_itself t at = elim t.wait as (λ w. t.wait ≡ w → IsOldOr begins k.tasks w) [ None ↦ λ e. tt | Some p ↦ λ e. inl (t, at, e) ] refl

  pub themselves : All IsOld k.tasks
  themselves = λ i d within. old_itself (get_or k.tasks i d) (All-contains_itself k.tasks i d within)

  pub by_change : (who : ℕ) (f : Task → Task) → ((t : Task) → IsOld t → IsOld (f t)) → BeginsOnly begins k (change_task k who f)
  by_change who f keeps = record { next = omega arith; waits = All-change IsOld k.tasks who f keeps themselves }

  pub by_renewal : (who : ℕ) (f : Task → Task) → ((t : Task) → IsOld t → IsOld (f t)) → BeginsOnly begins k (renew_task k who f)
  by_renewal who f keeps = record { next = omega arith; waits = renew_task-stable IsOld (λ since t old. old) k who f keeps themselves }

  pub by_move : (who : ℕ) (f : Task → Task) → ((t : Task) → IsOld t → IsOld (f t)) → BeginsOnly begins k (move_task k who f)
  by_move who f keeps = record { next = omega (arith, next-move k who f); waits = move_task-stable IsOld (λ since t old. old) k who f keeps themselves }

  -- only the tasks change, and the next id doesn't fall
  pub by_tasks : (n : KernState) → k.next_id ≤ n.next_id → All IsOld n.tasks → BeginsOnly begins k n
  by_tasks n more all = record { next = more; waits = all }

-- the same waits, with more places allowed
pub begins_more : (few many : Place → Bool) (k n : KernState) → ((p : Place) → few p ≡ true → many p ≡ true) → BeginsOnly few k n → BeginsOnly many k n
begins_more few many k n more old = record {
  next = old.next;
  waits = all_old (IsOldOr many k.tasks) few k.tasks n.tasks tt (themselves many k) (λ p begun. inr (more p begun)) old.waits;
}
