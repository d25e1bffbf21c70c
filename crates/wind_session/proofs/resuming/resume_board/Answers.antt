use Rattle.std.proofs.Common.{refl}
use Rattle.wind_session.proofs.Continuing.{resumed}
use Rattle.wind_session.proofs.ToldLemmas.{ran_told}
use Rattle.wind_session.proofs.resuming.resume_board.Goals as goal

-- the run that had reached its limit went on
pub returns-clause-ran : goal.returns-clause-ran
returns-clause-ran g c = λ start first ran.
    ran_told c.in-Ok.end _ _ _ _ _ _ (c.in-Ok.ensures.told ran.said start _ _ first refl (resumed _ start _ c.args.most first _ ran))
