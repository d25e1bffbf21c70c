use Rattle.std.proofs.Common.{◌+◌}
use Rattle.trace_session.proofs.Covering.{covers_step}
use Rattle.trace_session.proofs.coverage.CovererTeller.tell.Goals as goal

pub returns-clause-tells : goal.returns-clause-tells
returns-clause-tells g c = λ done first said next s u i reads ready on covers.
    c.put_gone.ensures.done done first.bytes next s (i + 1)
    (covers_step said next s u _ _ i on _ _ first.bytes _ _ _ reads c.world-world.ensures
    (λ given k holds. c.in_ok-follow.ensures given _ (c.execute.ensures given k holds)) covers)

pub returns-clause-lost : goal.returns-clause-lost
returns-clause-lost g c = λ failed first said next s u i reads ready on covers.
    c.put_gone.ensures.part failed first.bytes next s (i + 1)
    (covers_step said next s u _ _ i on _ _ first.bytes _ _ _ reads c.world-world.ensures
    (λ given k holds. c.in_ok-follow.ensures given _ (c.execute.ensures given k holds)) covers)
