use Rattle.call_cases.proofs.Benches.{used_end}
use Rattle.call_cases.proofs.bench.Bench.end_task.Goals as goal

pub invariant_of-self : goal.invariant_of-self
invariant_of-self g c = used_end _ _ c.args.who c.self.inside.calls c.end_task.ensures.world c.self.invariant
