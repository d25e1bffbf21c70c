use Rattle.std.proofs.Common.{◌∙◌}
use Rattle.wind_session.proofs.Putting.{cut_on, put_on}
use Rattle.wind_session.proofs.output.OutputTeller.tell.Goals as goal

pub returns-clause-tells : goal.returns-clause-tells
returns-clause-tells g c = λ done first said next s u i reads ready on put.
    put_on first _ said next s u _ _ i on _ put (rw c.output.ensures at c.put_some.ensures.done done) (rw (c.output.ensures, done) at c.put_some.ensures.pieces)

pub returns-clause-lost : goal.returns-clause-lost
returns-clause-lost g c = λ failed first said next s u i reads ready on put.
    cut_on first _ said next s u _ _ i on _ put (rw c.output.ensures at c.put_some.ensures.part failed) (λ e. c.put_some.ensures.some failed (c.output.ensures ∙ e))
    (rw (c.output.ensures, failed) at c.put_some.ensures.pieces)
