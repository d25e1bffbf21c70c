use Rattle.std.proofs.Common.{rules, ◌≡◌, true, ap}
use Rattle.live_loading.specs.KernelWorldActor.TheVariants.{Interrupt}
use Rattle.wind_machine.specs.State.{State}
use Rattle.board_player.specs.declared.clock.Clock.{Clock}
use Rattle.board_player.specs.Inside.{parts_by}
use Rattle.board_player.proofs.Moving.{moves_last, routine_last}
use Rattle.board_player.proofs.ManySteps.{gone}
use Rattle.board_player.proofs.RoutineBursts.{routine_goes_on, still_routine}
use Rattle.board_player.proofs.Fetching.{ram_below_gates}
use Rattle.board_player.proofs.bursts.burst_of_routine.Goals as goal

pub returns-clause-made : goal.returns-clause-made
returns-clause-made g c =
    let s : State = parts_by (λ d. (goal.Device-dyn g (d.vtable, d.value)).kind_of d.value) (λ d. (goal.Device-dyn g (d.vtable, d.value)).words_of d.value) c.args.parts.now in
    let yes : c.routine_runs_on.result ≡ true = search rules in
    gone s Interrupt c.args.most (routine_goes_on s c.requires.good.kept.world.kern c.requires.good.exact (c.routine_runs_on.ensures yes) c.args.most)
    c.execute_many-made.result _ _ _ c.execute_many-made.ensures.within c.execute_many-made.ensures.ran (ap (λ (k : Clock). k.time) c.advance.ensures) (ap (λ (k : Clock). k.steps) c.advance.ensures)

pub returns-clause-routine : goal.returns-clause-routine
returns-clause-routine g c = still_routine _ _ _ c.execute_many-made.ensures.ran c.requires.routine

pub execute_many-made-requires-clause-ram : goal.execute_many-made-requires-clause-ram
execute_many-made-requires-clause-ram g c = ram_below_gates c.args.parts.now.world.board c.args.parts.now.world.bus.ram.bytes c.requires.good.kept.world.ram

pub returns-clause-only : goal.returns-clause-only
returns-clause-only g c =
    let s : State = parts_by (λ d. (goal.Device-dyn g (d.vtable, d.value)).kind_of d.value) (λ d. (goal.Device-dyn g (d.vtable, d.value)).words_of d.value) c.args.parts.now in
    λ some. moves_last s.world _ Interrupt _ (routine_last s.world c.requires.routine) c.execute_many-made.ensures.ran
