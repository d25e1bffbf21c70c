use Rattle.std.proofs.Common.{ap}
use Rattle.wind_core.proofs.Ticks.{runner_lives}
use Rattle.live_loading.specs.KernelWorldState.{WorldState}
use Rattle.live_loading.specs.KernelWorldActor.TheVariants.{Task as by_task}
use Rattle.wind_machine.specs.State.{State}
use Rattle.board_player.specs.declared.clock.Clock.{Clock}
use Rattle.board_player.specs.Inside.{parts_by}
use Rattle.board_player.proofs.Moving.{moves_last, task_last}
use Rattle.board_player.proofs.ManySteps.{gone}
use Rattle.board_player.proofs.TaskBursts.{task_goes_on}
use Rattle.board_player.proofs.Fetching.{ram_below_gates}
use Rattle.board_player.proofs.bursts.go_on.Goals as goal

pub execute_many-made-requires-clause-there : goal.execute_many-made-requires-clause-there
execute_many-made-requires-clause-there g c = runner_lives c.args.parts.now.world.kern c.args.who c.requires.good.kept.world.kern.rising c.requires.on.runs

pub returns-clause-made : goal.returns-clause-made
returns-clause-made g c =
    let s : State = parts_by (λ d. (goal.Device-dyn g (d.vtable, d.value)).kind_of d.value) (λ d. (goal.Device-dyn g (d.vtable, d.value)).words_of d.value) c.args.parts.now in
    gone s (by_task c.args.who) c.args.most (task_goes_on s c.args.who c.requires.good.kept.world.kern.rising c.requires.on c.requires.good.kept.world.kern c.requires.good.exact c.args.most c.requires.room)
    c.execute_many-made.result _ _ _ c.execute_many-made.ensures.within c.execute_many-made.ensures.ran (ap (λ (k : Clock). k.time) c.advance.ensures) (ap (λ (k : Clock). k.steps) c.advance.ensures)

pub returns-clause-regs : goal.returns-clause-regs
returns-clause-regs g c = (c.execute_many-made.ensures.ran.regs, ap (λ (w : WorldState). w.kern) c.execute_many-made.ensures.ran.world)

pub returns-clause-watch : goal.returns-clause-watch
returns-clause-watch g c = ap (λ (w : WorldState). w.watch) c.execute_many-made.ensures.ran.world

pub execute_many-made-requires-clause-ram : goal.execute_many-made-requires-clause-ram
execute_many-made-requires-clause-ram g c = ram_below_gates c.args.parts.now.world.board c.args.parts.now.world.bus.ram.bytes c.requires.good.kept.world.ram

pub returns-clause-only : goal.returns-clause-only
returns-clause-only g c = λ some. moves_last _ _ (by_task c.args.who) _ (task_last _ c.args.who c.requires.on) c.execute_many-made.ensures.ran
