use Rattle.std.proofs.Common.{◌≤◌, ◌-◌, subst, arith}
use Rattle.trace_session.specs.Choice.{AreAlike, choice_state}
use Rattle.trace_session.proofs.SilentLines.{charts_on, objects_on}
use Rattle.trace_session.proofs.part_spans.burst_within.Goals as goal

pub returns-clause-chart : goal.returns-clause-chart
returns-clause-chart g c = λ said s i here.
    let choice = choice_state c.args.choice.now in
    let few : c.burst.result ≤ c.most_alike-alike.result - 1 = omega (arith, c.burst.ensures.within) in
    charts_on c.silent_law.ensures said s _ i here choice c.most_alike-alike.result (subst (λ n. AreAlike choice n c.most_alike-alike.result) c.steps.ensures c.most_alike-alike.ensures.alike) c.burst.result _ c.burst.ensures.made few

pub returns-clause-objects : goal.returns-clause-objects
returns-clause-objects g c = λ said s i here.
    let choice = choice_state c.args.choice.now in
    let few : c.burst.result ≤ c.most_alike-alike.result - 1 = omega (arith, c.burst.ensures.within) in
    objects_on c.silent_law.ensures said s _ i here choice c.most_alike-alike.result (subst (λ n. AreAlike choice n c.most_alike-alike.result) c.steps.ensures c.most_alike-alike.ensures.alike) c.burst.result _ c.burst.ensures.made few
