use Rattle.std.proofs.Common.{ap, subst, sym}
use Rattle.trace_session.specs.Choice.{choice_state}
use Rattle.trace_session.specs.Chrome.{ChartState}
use Rattle.trace_session.specs.Shown.{Pictures}
use Rattle.trace_session.proofs.timeline.ObserverTeller.burst.Goals as goal

-- the first and the last step that is shown is none of them
pub returns-clause-tells : goal.returns-clause-tells
returns-clause-tells g c = λ first now said s i here drawn.
    subst (Pictures (choice_state c.args.self.now.choice.now) c.args.self.now.spans c.args.self.now.areas) (sym (ap (λ (x : ChartState). x.spans) (c.burst_within.ensures.chart said s i here))) drawn
