-- The running task is ready, and interrupts may come unless it holds them back.
use Rattle.std.proofs.Common.{◌≡◌, ℕ, Bool, false, not, Option, None, Some, refl, sym, ap, ◌∙◌, subst}
use Rattle.std.specs.Prelude.{◌&&◌}
use Rattle.std.specs.Option.{option_map}
use Rattle.task_block.specs.declared.task.Task.{Task}
use Rattle.wind_core.specs.State.{KernState, IsKern, task_id}
use Rattle.wind_core.specs.Orders.{running}
use Rattle.live_loading.specs.KernelWorldObjects.{IsReady}
use Rattle.wind_machine.specs.State.{State}
use Rattle.wind_machine.specs.Next.{holds_back, is_open, is_active}
use Rattle.wind_machine.proofs.Free.{runner_ready}

-- the running task is ready
pub runner_is_ready : (k : KernState) → IsKern k → (who : ℕ) → Some who ≡ option_map task_id (running k) → IsReady k who
runner_is_ready k is who e = by_runner (running k) refl e where
  by_runner : (o : Option Task) → running k ≡ o → Some who ≡ option_map task_id o → IsReady k who
  by_runner None r q = absurd (cc)
  by_runner (Some t) r q = let same : who ≡ t.id = cc in subst (IsReady k) (sym same) (runner_ready k is t r)

-- interrupts may come if no routine is active and the running task doesn't hold them back
pub opens : (s : State) (b : Bool) → is_active s.world ≡ false → b ≡ not (holds_back (running s.world.kern)) → b ≡ is_open s
opens s b idle back = back ∙ ap (λ c. not c && not (holds_back (running s.world.kern))) (sym idle)
