use Rattle.board_trace.proofs.Naming.{errors_named}
use Rattle.board_trace.proofs.laws.error_law.Goals as goal

pub returns : goal.returns
returns c = errors_named
