use Rattle.std.proofs.Common.{refl}
use Rattle.ppc_word.specs.Places.{by_opcode}
use Rattle.ppc_word.proofs.index.opcode_place.Goals as goal

pub returns : goal.returns
unfolding by_opcode
returns c = refl
