use Rattle.board_trace.proofs.Replying.{replies_told}
use Rattle.board_trace.proofs.laws.reply_law.Goals as goal

pub returns : goal.returns
returns c = replies_told
