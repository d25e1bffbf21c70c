use Rattle.linked_lists.proofs.IdTableArrivals.{arrivals_sorted}
use Rattle.ready_queue.specs.Order.{task_id, task_pri}
use Rattle.ready_queue.proofs.laws.order_law.Goals as goal

pub returns : goal.returns
returns c = arrivals_sorted task_id task_pri
