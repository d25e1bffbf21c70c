use Rattle.std.proofs.Common.{[]}
use Rattle.kernel_world.specs.Seen.{world_with}
use Rattle.kernel_world.proofs.Living.{ready_free}
use Rattle.call_cases.proofs.Benches.{used_regs}
use Rattle.call_cases.proofs.bench.Bench.set_task.Goals as goal

pub invariant_of-self : goal.invariant_of-self
invariant_of-self g c =
    let free = ready_free c.self.inside.world.kern c.args.who (c.may_call.ensures.free c.if-may_call.true) in
    used_regs (world_with [] c.self.inside.world) c.set_regs.new.self c.args.who c.self.inside.calls c.args.regs free c.set_regs.ensures c.self.invariant
