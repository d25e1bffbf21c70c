use Rattle.std.proofs.Common.{[]}
use Rattle.std.specs.Prelude.{replicate}
use Rattle.std.proofs.lemmas.List.{length-replicate}
use Rattle.kernel_world.specs.Seen.{world_with}
use Rattle.call_cases.proofs.Benches.{used_bytes}
use Rattle.call_cases.proofs.bench.Bench.fill.Goals as goal

pub invariant_of-self : goal.invariant_of-self
invariant_of-self g c =
    let b = c.self.inside in
    used_bytes (world_with [] b.world) c.fill.new.self.bytes c.args.address c.args.count b.calls (replicate c.args.count c.args.byte) (length-replicate c.args.count c.args.byte) c.fill.ensures.bytes c.self.invariant
