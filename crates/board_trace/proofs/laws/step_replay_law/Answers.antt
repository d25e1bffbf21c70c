use Rattle.board_trace.proofs.Replaying.{step_replays}
use Rattle.board_trace.proofs.laws.step_replay_law.Goals as goal

pub returns : goal.returns
returns c = step_replays c.step_law.ensures.step
