use Rattle.isr_watch.proofs.Keeping.{watch_stays}
use Rattle.isr_watch.proofs.laws.kept_law.Goals as goal

pub returns : goal.returns
returns c = watch_stays
