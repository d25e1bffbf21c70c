use Rattle.debug_wire.proofs.NumberLemmas.{number_text, places_text}
use Rattle.debug_wire.proofs.laws.number_law.Goals as goal

pub returns-clause-text : goal.returns-clause-text
returns-clause-text c = number_text

pub returns-clause-places : goal.returns-clause-places
returns-clause-places c = places_text
