use Rattle.isr_watch.proofs.Links.{link_stays}
use Rattle.isr_watch.proofs.laws.link_law.Goals as goal

pub returns : goal.returns
returns c = link_stays
