use Rattle.std.proofs.Common.{refl}
use Rattle.wind_session.proofs.ToldLemmas.{counted_told, untouched_told}
use Rattle.wind_session.proofs.count.count_board.Goals as goal

pub tell_run-requires-clause-tells : goal.tell_run-requires-clause-tells
tell_run-requires-clause-tells g c = λ said. (refl, refl)

pub returns-clause-counted : goal.returns-clause-counted
returns-clause-counted g c = counted_told _ _ _ c.in-Ok.end _ _ _ c.args.limit _ _ c.in-Ok.ensures.told

pub returns-clause-untouched : goal.returns-clause-untouched
returns-clause-untouched g c = untouched_told _ _ _ c.in-Ok.end _ _ _ c.args.limit _ _ c.in-Ok.ensures.told
