use Rattle.std.proofs.Common.{◌≡◌, sym, subst}
use Rattle.wind_machine.specs.State.{State}
use Rattle.board_actors.specs.declared.step_kind.StepKind.TheVariants as kinds
use Rattle.board_player.specs.Inside.{parts_by}
use Rattle.board_player.specs.Settling.{CanSettle}
use Rattle.board_player.proofs.Settled.{routine_still}
use Rattle.board_player.proofs.order.act_routine.Goals as goal

pub settle-requires-clause-left : goal.settle-requires-clause-left
settle-requires-clause-left g c = subst CanSettle (sym c.step_routine.ensures.step) c.requires.left

pub returns-in-Instruction-clause-step : goal.returns-in-Instruction-clause-step
returns-in-Instruction-clause-step g c =
    let s : State = parts_by (λ d. (goal.Device-dyn g (d.vtable, d.value)).kind_of d.value) (λ d. (goal.Device-dyn g (d.vtable, d.value)).words_of d.value) c.args.parts.now in
    let yes : c.step_routine.result ≡ kinds.Instruction = cc in
    routine_still s _ c.step_routine.ensures.step c.requires.left (c.step_routine.ensures.kern yes) (c.step_routine.ensures.objects yes) c.requires.good

pub returns-in-Other-clause-known : goal.returns-in-Other-clause-known
returns-in-Other-clause-known g c = c.after.ensures.known _ _
