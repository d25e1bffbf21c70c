use Rattle.std.proofs.Common.{ap}
use Rattle.ready_queue.proofs.Rotation.{mapped_empty}
use Rattle.ready_queue.proofs.ready.Ready.reserved.Goals as goal

pub invariant_of-result : goal.invariant_of-result
invariant_of-result c = mapped_empty c.in_ok-tasks.tasks.chains (ap (λ t. t.chains) c.in_ok-tasks.ensures)
