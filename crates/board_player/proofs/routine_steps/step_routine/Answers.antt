use Rattle.std.proofs.Common.{ap, ◌∙◌}
use Rattle.live_loading.specs.KernelWorldState.{WorldState}
use Rattle.board_player.proofs.RoutineBursts.{routine_left}
use Rattle.board_player.proofs.routine_steps.step_routine.Goals as goal

pub returns-clause-routine : goal.returns-clause-routine
returns-clause-routine g c = routine_left _ _ _ c.run_routine-kind.result (ap (λ (w : WorldState). w.kern) c.start_routine_step.ensures.world) c.run_routine-kind.ensures.registers

pub returns-clause-kern : goal.returns-clause-kern
returns-clause-kern g c done = ap (λ (w : WorldState). w.kern) (c.run_routine-kind.ensures.registers done).world ∙ ap (λ (w : WorldState). w.kern) c.start_routine_step.ensures.world

pub returns-clause-objects : goal.returns-clause-objects
returns-clause-objects g c done = ap (λ (w : WorldState). w.objects) (c.run_routine-kind.ensures.registers done).world ∙ ap (λ (w : WorldState). w.objects) c.start_routine_step.ensures.world
