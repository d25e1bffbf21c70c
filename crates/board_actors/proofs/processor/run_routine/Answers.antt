use Rattle.live_loading.specs.KernelWorldSeen.{world_seen}
use Rattle.wind_machine.proofs.KernelCallsReading.{routine_asks_none}
use Rattle.board_actors.proofs.processor.run_routine.Goals as goal

pub at_gate-requires-clause-unasked : goal.at_gate-requires-clause-unasked
at_gate-requires-clause-unasked g c =
    routine_asks_none c.in-Some.gate (world_seen {I = g.dyn-1.0.I} {X = λ x. (g.dyn-1.0.entry x).0.Denot} (λ vtable. (g.dyn-1.0.entry vtable).1) c.args.world.now)
