use Rattle.std.proofs.Common.{[], length, refl}
use Rattle.kernel_world.specs.Seen.{world_with}
use Rattle.call_cases.proofs.Benches.{used_bytes}
use Rattle.call_cases.proofs.bench.Bench.write.Goals as goal

pub invariant_of-self : goal.invariant_of-self
invariant_of-self g c =
    let b = c.self.inside in
    used_bytes (world_with [] b.world) c.copy_in.new.self.bytes c.args.address (length c.args.bytes.now) b.calls c.args.bytes.now refl c.copy_in.ensures.bytes c.self.invariant
