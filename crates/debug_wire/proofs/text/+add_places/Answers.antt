use Rattle.std.proofs.Common.{arith}
use Rattle.std.proofs.lemmas.Grind.{common_steps}
use Rattle.debug_wire.proofs.NumberLemmas.{places_more}
use Rattle.debug_wire.proofs.text.+add_places.Goals as goal

pub returns : goal.returns
returns t c = grind (arith, common_steps, places_more c.args.places c.args.n (omega arith))
