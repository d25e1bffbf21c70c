use Rattle.reloc_link.proofs.Order.{own_number}
use Rattle.reloc_link.proofs.laws.types_law.Goals as goal

pub returns : goal.returns
returns c = own_number
