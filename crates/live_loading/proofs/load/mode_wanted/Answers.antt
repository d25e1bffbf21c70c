use Rattle.std.proofs.Common.{[]}
use Rattle.kernel_calls.specs.KernelWorldSeen.{world_with}
use Rattle.live_loading.proofs.Whole.{mode_is, no_load}
use Rattle.live_loading.proofs.load.mode_wanted.Goals as goal

pub returns : goal.returns
returns g c = mode_is (world_with [] c.args.w.now) c.shell.result c.in-Some.load c.in-Some.ensures c.shell.ensures

pub unreachable-requires : goal.unreachable-requires
unreachable-requires g c = no_load (world_with [] c.args.w.now) c.shell.result c.in-None.ensures c.shell.ensures
