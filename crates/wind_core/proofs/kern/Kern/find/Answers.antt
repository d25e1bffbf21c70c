use Rattle.std.proofs.Common.{subst}
use Rattle.wind_core.specs.State.{IsKern}
use Rattle.wind_core.proofs.Finding.{no_id}
use Rattle.wind_core.proofs.kern.Kern.find.Goals as goal

pub returns-in_default : goal.returns-in_default
returns-in_default c = no_id c.args.self.now (subst IsKern c.self.view_is c.self.invariant.0.2) c.args.number c.in_default.ensures
