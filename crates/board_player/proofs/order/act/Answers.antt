use Rattle.std.proofs.Common.{◌≡◌, Ok, sym, subst}
use Rattle.wind_machine.specs.State.{State}
use Rattle.board_actors.specs.declared.step_kind.StepKind.TheVariants as kinds
use Rattle.board_player.specs.Inside.{parts_by}
use Rattle.board_player.specs.Settling.{CanSettle}
use Rattle.board_player.proofs.Deciding.{act_idle, act_runs, act_asks_none, act_lives, act_ready}
use Rattle.board_player.proofs.Going.{stays_known}
use Rattle.board_player.proofs.Settled.{stepped_still}
use Rattle.board_player.proofs.order.act.Goals as goal

pub run_task-requires-clause-live : goal.run_task-requires-clause-live
run_task-requires-clause-live g c = act_lives _ c.args.who c.requires.next c.requires.good.kept.world.kern.rising

pub run_task-requires-clause-ready : goal.run_task-requires-clause-ready
run_task-requires-clause-ready g c = act_ready _ c.args.who c.requires.next c.requires.good

pub run_task-requires-clause-asks : goal.run_task-requires-clause-asks
run_task-requires-clause-asks g c = act_asks_none _ c.args.who c.requires.next

pub returns-in-Ok-Instruction-clause-known : goal.returns-in-Ok-Instruction-clause-known
returns-in-Ok-Instruction-clause-known g c =
    let yes : c.run_task.result ≡ Ok kinds.Instruction = cc in
    stays_known _ _ _ _ c.args.who _ c.requires.good.kept.world.kern.rising (act_idle _ c.args.who c.requires.next) (act_runs _ c.args.who c.requires.next) c.requires.known
    (c.run_task.ensures.only yes) (c.run_task.ensures.watch yes)

pub returns-in-Ok-Instruction-clause-stepped : goal.returns-in-Ok-Instruction-clause-stepped
returns-in-Ok-Instruction-clause-stepped g c = λ e.
    let s : State = parts_by (λ d. (goal.Device-dyn g (d.vtable, d.value)).kind_of d.value) (λ d. (goal.Device-dyn g (d.vtable, d.value)).words_of d.value) c.args.parts.now in
    let yes : c.run_task.result ≡ Ok kinds.Instruction = cc in
    stepped_still s _ c.args.who c.in-Ok-Instruction.ensures.ok c.requires.left (c.run_task.ensures.only yes) (c.run_task.ensures.objects yes) c.requires.good

pub settle-requires-clause-left : goal.settle-requires-clause-left
settle-requires-clause-left g c = subst CanSettle (sym c.in-Ok-Other.ensures.ok) c.requires.left

pub returns-in-Ok-Other-clause-known : goal.returns-in-Ok-Other-clause-known
returns-in-Ok-Other-clause-known g c = c.after.ensures.known _ _
