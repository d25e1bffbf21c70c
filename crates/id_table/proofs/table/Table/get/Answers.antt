use Rattle.std.proofs.Common.{ap, ◌∙◌, sym}
use Rattle.slab.specs.Slab as slabs
use Rattle.id_table.specs.Rows.{object_of}
use Rattle.id_table.proofs.Kept.{object_at, object_none}
use Rattle.id_table.proofs.table.Table.get.Goals as goal

pub returns-in_err-at : goal.returns-in_err-at
returns-in_err-at g c =
    rw c.from_residual.ensures (
    sym (object_none c.self.inside.order.items c.self.inside.slots c.args.id c.self.invariant.1.present (rw c.deref.ensures.value at c.in_err-at.ensures))
    ∙ ap (λ t. object_of t.rows c.args.id) c.self.view_is)

pub returns : goal.returns
returns g c =
    let k = c.self.inside in
    c.get.ensures
    ∙ ap (λ e. slabs.get k.slots e.key) c.index.ensures
    ∙ sym (object_at k.order.items k.slots c.args.id c.in_ok-at.at c.index.result.now c.self.invariant.1.present c.self.invariant.1.rising (rw c.deref.ensures.value at c.in_ok-at.ensures))
    ∙ ap (λ t. object_of t.rows c.args.id) c.self.view_is
