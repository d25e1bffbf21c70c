use Rattle.con_line.proofs.Kept.{byte_keeps, drop_keeps}
use Rattle.con_line.proofs.laws.kept_law.Goals as goal

pub returns-clause-byte : goal.returns-clause-byte
returns-clause-byte c = byte_keeps

pub returns-clause-dropped : goal.returns-clause-dropped
returns-clause-dropped c = drop_keeps
