use Rattle.std.proofs.Common.{◌+◌, Bor, subst, sym}
use Rattle.trace_session.specs.Choice.{choice_state}
use Rattle.trace_session.specs.Chrome.{ChartsSteps, charted}
use Rattle.trace_session.specs.declared.choice.Choice.{Choice}
use Rattle.trace_session.proofs.Charting.{charted_burst}
use Rattle.trace_session.proofs.chrome.CharterTeller.burst.Goals as goal

-- instructions have no objects
pub returns-clause-tells : goal.returns-clause-tells
returns-clause-tells g c = λ first now said s i here charts.
    let later = c.burst.new.charter in
    subst (λ (x : Bor Choice). ChartsSteps (choice_state x.now) (charted later.spans later.level later.flows) first.bytes now.bytes later.text.items said s (i + c.burst.result)) (sym c.burst.ensures.choice)
    (charted_burst _ _ _ first.bytes now.bytes _ _ said s i c.burst.result c.burst.ensures.chart c.burst.ensures.text (c.burst.ensures.objects said s i here) (c.burst.ensures.goes_on said s i here) charts)
