use Rattle.std.proofs.Common.{refl}
use Rattle.ppc_word.specs.Places.{by_31}
use Rattle.ppc_word.proofs.index.place_in_31.Goals as goal

pub returns : goal.returns
unfolding by_31
returns c = refl
