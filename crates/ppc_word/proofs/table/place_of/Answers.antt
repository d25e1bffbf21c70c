use Rattle.std.proofs.Common.{refl}
use Rattle.ppc_word.specs.Table.{number}
use Rattle.ppc_word.proofs.table.place_of.Goals as goal

pub returns-clause-is : goal.returns-clause-is
unfolding number
returns-clause-is c = refl
