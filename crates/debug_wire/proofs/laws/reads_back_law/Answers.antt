use Rattle.debug_wire.proofs.FrameLemmas.{reads_back}
use Rattle.debug_wire.proofs.laws.reads_back_law.Goals as goal

pub returns : goal.returns
returns c = reads_back
