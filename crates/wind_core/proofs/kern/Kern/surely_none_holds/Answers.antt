use Rattle.std.proofs.Common.{ap, subst}
use Rattle.id_table.specs.Rows.{objects}
use Rattle.wind_core.specs.Notes.{NoneHolds, AreNoted}
use Rattle.wind_core.proofs.Noting.{none_holds}
use Rattle.wind_core.proofs.kern.Kern.surely_none_holds.Goals as goal

pub returns : goal.returns
returns c e = subst NoneHolds (ap (λ s. s.tasks) c.self.view_is) (none_holds c.self.inside.all_normal (objects c.self.inside.tasks.rows) (subst (λ b. AreNoted c.self.inside.all_normal b (objects c.self.inside.tasks.rows)) e c.self.invariant.1))
