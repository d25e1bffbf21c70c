use Rattle.board_trace.proofs.Raising.{causes_are_traps}
use Rattle.board_trace.proofs.laws.cause_law.Goals as goal

pub returns : goal.returns
returns c = causes_are_traps
