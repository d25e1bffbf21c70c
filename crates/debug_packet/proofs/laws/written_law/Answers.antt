use Rattle.debug_packet.proofs.ReadBack.{read_back}
use Rattle.debug_packet.proofs.laws.written_law.Goals as goal

pub returns : goal.returns
returns c = read_back
