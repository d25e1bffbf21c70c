use Rattle.board_changes.proofs.Replaying.{replays}
use Rattle.board_changes.proofs.laws.replay_law.Goals as goal

pub returns : goal.returns
returns c = replays
