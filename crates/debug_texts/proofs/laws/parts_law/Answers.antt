use Rattle.debug_texts.proofs.PartLemmas.{parts_whole}
use Rattle.debug_texts.proofs.laws.parts_law.Goals as goal

pub returns : goal.returns
returns c = parts_whole
