use Rattle.std.proofs.Common.{[]}
use Rattle.kernel_world.specs.Seen.{world_with}
use Rattle.call_cases.proofs.Benches.{used_irqs}
use Rattle.call_cases.proofs.bench.Bench.raise.Goals as goal

pub invariant_of-self : goal.invariant_of-self
invariant_of-self g c =
    let b = c.self.inside in
    used_irqs (world_with [] b.world) c.raise.new.self b.calls c.self.invariant
