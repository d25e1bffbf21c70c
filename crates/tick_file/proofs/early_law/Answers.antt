use Rattle.tick_file.proofs.Early.{all_early}
use Rattle.tick_file.proofs.early_law.Goals as goal

pub returns : goal.returns
returns c = all_early
