use Rattle.call_cases.proofs.Benches.{used_called}
use Rattle.call_cases.proofs.bench.Bench.make.Goals as goal

pub invariant_of-self : goal.invariant_of-self
invariant_of-self g c =
    let called = c.kernel_call-called in
    let free = c.may_call.ensures.free c.if-not-may_call.false in
    used_called called.result c.args.gate _ _ c.args.who.now c.self.inside.calls free called.ensures.made called.ensures.unchanged c.self.invariant
