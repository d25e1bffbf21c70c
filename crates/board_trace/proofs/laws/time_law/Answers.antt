use Rattle.board_trace.proofs.Timing.{times_rise}
use Rattle.board_trace.proofs.laws.time_law.Goals as goal

pub returns : goal.returns
returns c = times_rise c.extend_law.ensures.time
