use Rattle.std.proofs.Common.{◌∙◌, ap, sym, subst, arith}
use Rattle.wind_machine.specs.State.{State}
use Rattle.wind_machine.specs.Machine.{settled_state}
use Rattle.board_player.specs.Inside.{parts_by}
use Rattle.board_player.specs.Settling.{CanSettle}
use Rattle.board_player.proofs.Quiet.{event_still}
use Rattle.board_player.proofs.order.occur.Goals as goal

pub is_quiet-is_quiet-requires : goal.is_quiet-is_quiet-requires
is_quiet-is_quiet-requires g c = omega (arith, c.requires.good.kept.ticks, c.requires.few)

pub returns-then-is_quiet-clause-step : goal.returns-then-is_quiet-clause-step
returns-then-is_quiet-clause-step g c =
    let s : State = parts_by (λ d. (goal.Device-dyn g (d.vtable, d.value)).kind_of d.value) (λ d. (goal.Device-dyn g (d.vtable, d.value)).words_of d.value) c.args.parts.now in
    event_still s _ c.args.event (c.is_quiet-is_quiet.ensures c.if-is_quiet.true) c.come.ensures.step c.requires.left c.requires.good

pub settle-requires-clause-left : goal.settle-requires-clause-left
settle-requires-clause-left g c = subst CanSettle (sym c.come.ensures.step) c.requires.left

pub returns-clause-step : goal.returns-clause-step
returns-clause-step g c = c.settle.ensures.step ∙ ap settled_state c.come.ensures.step
