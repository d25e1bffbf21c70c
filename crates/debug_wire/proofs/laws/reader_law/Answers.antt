use Rattle.debug_wire.proofs.ReaderLemmas.{reads_on}
use Rattle.debug_wire.proofs.laws.reader_law.Goals as goal

pub returns : goal.returns
returns c = reads_on
