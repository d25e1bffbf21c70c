use Rattle.std.proofs.Common.{ap, sym, subst}
use Rattle.id_table.specs.Rows.{objects}
use Rattle.wind_core.specs.Notes.{AllNormal}
use Rattle.wind_core.proofs.Noting.{note_normal}
use Rattle.wind_core.proofs.kern.Kern.note_all_normal.Goals as goal

pub invariant_of-self : goal.invariant_of-self
invariant_of-self c =
    let k = c.self.inside in
    (c.self.invariant.0, note_normal k.all_normal k.none_holds (objects k.tasks.rows) c.self.invariant.1 (subst AllNormal (ap (λ s. s.tasks) (sym c.self.view_is)) c.requires))
