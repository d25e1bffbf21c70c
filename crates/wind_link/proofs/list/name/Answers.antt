use Rattle.std.proofs.Common.{sym}
use Rattle.wind_link.proofs.Naming.{name_is}
use Rattle.wind_link.proofs.list.name.Goals as goal

pub returns-in-Ok : goal.returns-in-Ok
returns-in-Ok c = name_is c.args.word.now c.in-Ok.name.now c.in-Ok.ensures.cases.0 (sym c.if-is_empty.ensures) c.in-Ok.ensures.cases.1
