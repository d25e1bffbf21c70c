use Rattle.trace_session.proofs.Covering.{covers_part_later}
use Rattle.trace_session.proofs.coverage.CovererTeller.part_law.Goals as goal

pub returns : goal.returns
returns c = λ first now said next s i same covers. covers_part_later c.args.self.now.coverage first.bytes now.bytes said next s i same covers
