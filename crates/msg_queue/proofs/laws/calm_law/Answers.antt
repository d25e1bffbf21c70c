use Rattle.msg_queue.proofs.Calm.{calms, calm_then, calm_series}
use Rattle.msg_queue.proofs.laws.calm_law.Goals as goal

pub returns : goal.returns
returns c = record { one = calms; both = calm_then; series = calm_series }
