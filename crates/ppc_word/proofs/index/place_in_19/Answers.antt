use Rattle.std.proofs.Common.{refl}
use Rattle.ppc_word.specs.Places.{by_19}
use Rattle.ppc_word.proofs.index.place_in_19.Goals as goal

pub returns : goal.returns
unfolding by_19
returns c = refl
