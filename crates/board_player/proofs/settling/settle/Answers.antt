use Rattle.std.proofs.Common.{ap, arith}
use Rattle.inheritance.specs.Mutexes.{MutexState}
use Rattle.wind_machine.specs.State.{State}
use Rattle.board_player.specs.Inside.{parts_by}
use Rattle.board_player.proofs.settling.settle.Goals as goal

pub settle-requires-clause-kept : goal.settle-requires-clause-kept
settle-requires-clause-kept g c = c.requires.left.0.world.objects.mutexes

pub settle-requires-clause-since : goal.settle-requires-clause-since
settle-requires-clause-since g c = omega (arith, c.requires.left.0.sinces, c.requires.left.1)

pub returns-clause-step : goal.returns-clause-step
returns-clause-step g c =
    let s : State = parts_by (λ d. (goal.Device-dyn g (d.vtable, d.value)).kind_of d.value) (λ d. (goal.Device-dyn g (d.vtable, d.value)).words_of d.value) c.args.parts.now in
    ap (λ (m : MutexState). record s { world = record s.world { kern = m.kern } }) c.settle.ensures.state
