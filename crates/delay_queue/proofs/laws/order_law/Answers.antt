use Rattle.linked_lists.proofs.IdTableArrivals.{arrivals_sorted}
use Rattle.delay_queue.specs.Wakes.{task_id, task_wake}
use Rattle.delay_queue.proofs.laws.order_law.Goals as goal

pub returns : goal.returns
returns c = arrivals_sorted task_id task_wake
