use Rattle.std.proofs.Common.{rules}
use Rattle.wind_session.specs.Command.{rows_given}
use Rattle.wind_session.proofs.CommandLemmas.{nothing_given}
use Rattle.wind_session.proofs.command.matches_of.Goals as goal

-- clap refuses the words
pub returns-in-Err-2-clause-err : goal.returns-in-Err-2-clause-err
unfolding rows_given
returns-in-Err-2-clause-err c = λ other. nothing_given _ _ c.in-Err-2.error (c.in-Err-2.ensures.kinds c.requires) (search rules)
