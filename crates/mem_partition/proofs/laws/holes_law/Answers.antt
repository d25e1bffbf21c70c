use Rattle.mem_partition.proofs.Rising.{law_rise, law_inside, law_exact}
use Rattle.mem_partition.proofs.laws.holes_law.Goals as goal

pub returns : goal.returns
returns c = record { rise = law_rise; inside = law_inside; exact = law_exact }
