use Rattle.ppc_word.proofs.Leads.{led-31}
use Rattle.ppc_word.proofs.index.place_for_31.Goals as goal

pub returns-clause-within : goal.returns-clause-within
returns-clause-within c = rw (c.place_in_31-place.ensures, c.part.ensures) (led-31 c.args.word c.requires).0

pub returns-clause-only : goal.returns-clause-only
returns-clause-only c = rw (c.place_in_31-place.ensures, c.part.ensures) (led-31 c.args.word c.requires).1
