use Rattle.wait_order.proofs.LineOrder.{put_in}
use Rattle.wait_order.proofs.laws.put_law.Goals as goal

pub returns : goal.returns
returns c = put_in
