use Rattle.tick_family.proofs.PlainLemmas.{all_plain}
use Rattle.tick_family.proofs.plain_law.Goals as goal

pub returns : goal.returns
returns c = all_plain
