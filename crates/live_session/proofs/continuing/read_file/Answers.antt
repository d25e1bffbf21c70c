use Rattle.std.proofs.Common.{refl}
use Rattle.live_session.specs.Words.{command_state}
use Rattle.live_session.proofs.Taking.{long_there}
use Rattle.live_session.proofs.continuing.read_file.Goals as goal

pub returns-in-TooLong-clause-reason : goal.returns-in-TooLong-clause-reason
returns-in-TooLong-clause-reason g c = long_there (command_state c.args.target.command.now) _ c.args.file _ _ _ c.path_of.ensures refl c.in-TooLong.is c.read.ensures.answers
