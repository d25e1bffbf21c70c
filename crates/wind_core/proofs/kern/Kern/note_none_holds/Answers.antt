use Rattle.std.proofs.Common.{ap, sym, subst}
use Rattle.id_table.specs.Rows.{objects}
use Rattle.wind_core.specs.Notes.{NoneHolds}
use Rattle.wind_core.proofs.Noting.{note_held}
use Rattle.wind_core.proofs.kern.Kern.note_none_holds.Goals as goal

pub invariant_of-self : goal.invariant_of-self
invariant_of-self c =
    let k = c.self.inside in
    (c.self.invariant.0, note_held k.all_normal k.none_holds (objects k.tasks.rows) c.self.invariant.1 (subst NoneHolds (ap (λ s. s.tasks) (sym c.self.view_is)) c.requires))
