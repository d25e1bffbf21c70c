use Rattle.isr_watch.proofs.Ids.{ids_stay}
use Rattle.isr_watch.proofs.laws.ids_law.Goals as goal

pub returns : goal.returns
returns c = ids_stay
