use Rattle.std.proofs.Common.{rules, ◌≡◌, true}
use Rattle.board_player.specs.Inside.{parts_by}
use Rattle.board_player.proofs.TaskBursts.{known_after}
use Rattle.board_player.proofs.bursts.burst_of_task.Goals as goal

pub returns-clause-runner : goal.returns-clause-runner
returns-clause-runner g c =
    let yes : c.runs_on.result ≡ true = search rules in
    known_after (parts_by (λ d. (goal.Device-dyn g (d.vtable, d.value)).kind_of d.value) (λ d. (goal.Device-dyn g (d.vtable, d.value)).words_of d.value) c.args.parts.now)
    c.in-Some.who c.go_on.ensures.regs.0 _ _ c.args.now c.requires.good.kept.world.kern.rising (c.runs_on.ensures yes) c.requires.runner c.in-Some.is c.go_on.ensures.regs.1 c.go_on.ensures.watch
