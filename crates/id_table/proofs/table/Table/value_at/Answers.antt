use Rattle.std.proofs.Common.{ap, ◌∙◌, sym, subst, arith, get_or, IsSome, length}
use Rattle.slab.specs.Slab as slabs
use Rattle.id_table.specs.Rows.{objects}
use Rattle.id_table.proofs.Kept.{object_in, length-rows}
use Rattle.id_table.proofs.table.Table.value_at.Goals as goal

pub index-requires : goal.index-requires
index-requires g c =
    omega (arith, length-rows c.self.inside.order.items c.self.inside.slots c.self.invariant.1.present, ap (λ t. length t.rows) c.self.view_is, c.requires)

pub index-requires-2 : goal.index-requires-2
index-requires-2 g c =
    subst (λ e. IsSome (slabs.get c.self.inside.slots e.key)) (sym c.index.ensures) (c.self.invariant.1.present c.args.position c.index.result.now (omega (arith, length-rows c.self.inside.order.items c.self.inside.slots c.self.invariant.1.present, ap (λ t. length t.rows) c.self.view_is, c.requires)))

pub returns : goal.returns
returns g c =
    let k = c.self.inside in
    object_in k.order.items k.slots c.args.position c.index.result.now c.index-2.result.now c.self.invariant.1.present (omega (arith, length-rows c.self.inside.order.items c.self.inside.slots c.self.invariant.1.present, ap (λ t. length t.rows) c.self.view_is, c.requires))
    (sym (ap (λ e. slabs.get k.slots e.key) c.index.ensures) ∙ c.index-2.ensures)
    ∙ ap (λ t. get_or (objects t.rows) c.args.position c.index-2.result.now) c.self.view_is
