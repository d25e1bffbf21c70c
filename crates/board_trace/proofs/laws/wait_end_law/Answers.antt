use Rattle.board_trace.proofs.Ending.{ends_told}
use Rattle.board_trace.proofs.laws.wait_end_law.Goals as goal

pub returns : goal.returns
returns c = ends_told
