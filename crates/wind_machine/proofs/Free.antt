-- Whoever runs is ready, and so waits for nothing.
use Rattle.std.proofs.Common.{◌≡◌, ℕ, true, false, cond, eqb, List, [], ◌∷◌, map, Option, Some, IfSome, refl, sym, ap, ◌∙◌, subst}
use Rattle.task_block.specs.declared.task.Task.{Task}
use Rattle.task_block.specs.Standing.{is_ready}
use Rattle.id_table.proofs.Records.{found_in}
use Rattle.wind_core.specs.State.{KernState, IsKern, task_id, task_of}
use Rattle.wind_core.specs.Orders.{running}
use Rattle.wind_core.specs.Moves.{unreserved}
use Rattle.wind_core.proofs.Lawful.{runner_may}
use Rattle.live_loading.specs.KernelWorldObjects.{IsReady}
use Rattle.wind_machine.specs.Reserving.{unless_own, drop_others}

abbrev ReadyIf : Option Task → Type 0
ReadyIf o = IfSome o (λ t. is_ready t ≡ true)

pub runner_ready : (k : KernState) → IsKern k → (x : Task) → running k ≡ Some x → IsReady k x.id
runner_ready k is x e =
    let may = runner_may k is x e in
    subst ReadyIf (sym (found_in task_id k.tasks x is.rising may.lives)) may.ready

-- the task that makes the step stays as it is
pub own_found : (ts : List Task) (who : ℕ) → task_of (map (unless_own who) ts) who ≡ task_of ts who
own_found [] who = refl
own_found (t ∷ ts) who =
    elim (eqb t.id who) as (λ b. eqb t.id who ≡ b → cond (eqb (cond b t (unreserved t)).id who) (Some (cond b t (unreserved t))) (task_of (map (unless_own who) ts) who) ≡ cond b (Some t) (task_of ts who)) [
      | true ↦ λ e. ap (λ c. cond c (Some t) (task_of (map (unless_own who) ts) who)) e
      | false ↦ λ e. ap (λ c. cond c (Some (unreserved t)) (task_of (map (unless_own who) ts) who)) e ∙ own_found ts who
    ] refl

pub step_start_ready : (k : KernState) (who : ℕ) → IsReady k who → IsReady (drop_others k who) who
step_start_ready k who ready = subst ReadyIf (sym (own_found k.tasks who)) ready
