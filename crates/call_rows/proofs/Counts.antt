-- Counts of tasks below a bound.
use Rattle.std.proofs.Common.{◌≡◌, ℕ, ◌<◌, ◌^◌, None, Some, refl, arith}
use Rattle.std.specs.List.{All}
use Rattle.std.proofs.lemmas.List.Elements.{All-contains}
use Rattle.id_table.proofs.Records.{found_at}
use Rattle.wind_core.specs.State.{KernState, task_id, task_of}
use Rattle.task_safety.specs.Safety.{safe_of}
use Rattle.call_rows.specs.TaskRows.{locks_in, locks_of}

-- no task's count is above a bound that all are below
pub locks_below : (k : KernState) (who : ℕ) → All (λ t. t.locks < 2 ^ 60) k.tasks → locks_of k who < 2 ^ 60
locks_below k who below =
    elim (task_of k.tasks who) as (λ o. task_of k.tasks who ≡ o → locks_in o < 2 ^ 60) [
      | None ↦ λ e. omega arith
      | Some t ↦ λ e. All-contains (λ u. u.locks < 2 ^ 60) k.tasks t below (found_at task_id k.tasks who t e)
    ] refl

-- the same of safe sections
pub safes_below : (k : KernState) (who : ℕ) → All (λ t. t.safe < 2 ^ 60) k.tasks → safe_of (task_of k.tasks who) < 2 ^ 60
safes_below k who below =
    elim (task_of k.tasks who) as (λ o. task_of k.tasks who ≡ o → safe_of o < 2 ^ 60) [
      | None ↦ λ e. omega arith
      | Some t ↦ λ e. All-contains (λ u. u.safe < 2 ^ 60) k.tasks t below (found_at task_id k.tasks who t e)
    ] refl
