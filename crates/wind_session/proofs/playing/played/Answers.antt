use Rattle.generated_session.specs.Puts.{sink_log}
use Rattle.wind_session.proofs.LeftLemmas.{left_put, left_summed, summed_from}
use Rattle.wind_session.proofs.PlanLemmas.{few_rounds}
use Rattle.wind_session.proofs.playing.played.Goals as goal

-- what the steps wrote was put
pub returns-in-Files-clause-left : goal.returns-in-Files-clause-left
returns-in-Files-clause-left g c = (
  c.run_board-end.result,
  left_put _ c.from.result c.run_board-end.result _ _ _ _ _ _ c.in-Files.is c.from.ensures c.run_board-end.ensures.ran,
)

-- a generated session was summed up
pub returns-in-Generated-clause-left : goal.returns-in-Generated-clause-left
returns-in-Generated-clause-left g c = (
  c.count_board-tally.result.end,
  left_summed c.args.command.now.limit c.count_board-tally.result.bytes _ _ _ _ _ _ c.count_board-tally.ensures.counted c.sum_up.result (sink_log g.O.Sink c.args.out.now) (sink_log g.O.Sink c.sum_up.new.out) _ c.in-Generated.rounds c.in-Generated.is
      (summed_from c.count_board-tally.result.end c.sum_up.result _ _ _ _ c.count_board-tally.ensures.untouched c.sum_up.ensures.summed),
)

pub sum_up-requires-clause-rounds : goal.sum_up-requires-clause-rounds
sum_up-requires-clause-rounds g c = few_rounds _ c.in-Generated.rounds c.in-Generated.is c.requires.rounds
