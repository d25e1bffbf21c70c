use Rattle.std.proofs.Common.{ap, subst}
use Rattle.id_table.specs.Rows.{objects}
use Rattle.wind_core.specs.Notes.{AllNormal, AreNoted}
use Rattle.wind_core.proofs.Noting.{all_normal}
use Rattle.wind_core.proofs.kern.Kern.surely_all_normal.Goals as goal

pub returns : goal.returns
returns c e = subst AllNormal (ap (λ s. s.tasks) c.self.view_is) (all_normal c.self.inside.none_holds (objects c.self.inside.tasks.rows) (subst (λ b. AreNoted b c.self.inside.none_holds (objects c.self.inside.tasks.rows)) e c.self.invariant.1))
