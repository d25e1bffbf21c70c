use Rattle.std.proofs.Common.{sym, refl, ◌∙◌}
use Rattle.wind_session.proofs.LeftLemmas.{summed_none, summed_whole, summed_cut}
use Rattle.wind_session.proofs.playing.sum_up.Goals as goal

-- the run was given up
pub returns-then-is_given_up-clause-summed : goal.returns-then-is_given_up-clause-summed
returns-then-is_given_up-clause-summed g c = summed_none c.args.tally.end _ _ _ _ (sym c.is_given_up.ensures ∙ c.if-is_given_up.true) c.from-status.ensures refl

-- the line was put
pub returns-in-Done-clause-summed : goal.returns-in-Done-clause-summed
returns-in-Done-clause-summed g c =
    summed_whole c.args.rounds c.args.tally.bytes c.steps.result c.ticks.result _ _ c.number.result c.args.tally.end c.from-status.result
    (sym c.is_given_up.ensures ∙ c.if-is_given_up.false) c.steps.ensures c.ticks.ensures c.from-status.ensures c.number.ensures _ _ c.in-Done.ensures.puts

-- a put of it failed
pub returns-in-Failed-clause-summed : goal.returns-in-Failed-clause-summed
returns-in-Failed-clause-summed g c =
    summed_cut c.args.rounds c.args.tally.bytes c.steps.result c.ticks.result _ _ c.number.result c.args.tally.end c.from-status.result
    (sym c.is_given_up.ensures ∙ c.if-is_given_up.false) c.steps.ensures c.ticks.ensures c.from-status.ensures c.number.ensures _ _ c.in-Failed.ensures.puts
