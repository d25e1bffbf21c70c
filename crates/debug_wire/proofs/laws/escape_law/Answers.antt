use Rattle.debug_wire.proofs.EscapeLemmas.{escapes_read_back}
use Rattle.debug_wire.proofs.laws.escape_law.Goals as goal

pub returns : goal.returns
returns c = escapes_read_back
