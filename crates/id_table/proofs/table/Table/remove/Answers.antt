use Rattle.std.proofs.Common.{ap, ◌∙◌, sym, subst, arith, IsSome}
use Rattle.slab.specs.Slab as slabs
use Rattle.id_table.specs.Rows.{object_of, without, removed}
use Rattle.id_table.specs.Inside.{rows_in}
use Rattle.id_table.proofs.Kept.{object_at, object_none, IsKept-remove, without_none, rows_alike}
use Rattle.id_table.proofs.table.Table.remove.Goals as goal

pub returns-in_err-at-clause-value : goal.returns-in_err-at-clause-value
returns-in_err-at-clause-value g c =
    c.from_residual.ensures
    ∙ sym (object_none c.self.inside.order.items c.self.inside.slots c.args.id c.self.invariant.1.present (rw c.deref.ensures.value at c.in_err-at.ensures))
    ∙ ap (λ t. object_of t.rows c.args.id) c.self.view_is

pub returns-in_err-at-clause-rows : goal.returns-in_err-at-clause-rows
returns-in_err-at-clause-rows g c =
    let k = c.self.inside in
    sym c.self.view_is
    ∙ rows_alike (rows_in k.order.items k.slots) (without (rows_in k.order.items k.slots) c.args.id) k.room
    (without_none k.order.items k.slots k.room c.args.id c.self.invariant.1 (rw c.deref.ensures.value at c.in_err-at.ensures))
    ∙ ap (λ t. removed t c.args.id) c.self.view_is

pub remove-requires : goal.remove-requires
remove-requires g c =
    let k = c.self.inside in
    let at = rw c.deref.ensures.value at c.in_ok-at.ensures in
    subst (λ e. IsSome (slabs.get k.slots e.key)) (sym c.remove-key.ensures.value) (c.self.invariant.1.present c.in_ok-at.at c.remove-key.result at.within)

pub invariant_of-self : goal.invariant_of-self
invariant_of-self g c =
    let k = c.self.inside in
    let at = rw c.deref.ensures.value at c.in_ok-at.ensures in (
      omega (arith, c.remove-key.ensures.capacity, c.self.invariant.0),
      rw c.remove-key.ensures.items (
          (IsKept-remove k.order.items k.slots c.remove.new.self k.room c.args.id c.in_ok-at.at c.remove-key.result c.self.invariant.1 at c.remove-key.ensures.value
          c.remove.ensures.updates c.remove.ensures.len c.remove.ensures.capacity).0),
    )

pub returns : goal.returns
returns g c =
    let k = c.self.inside in
    let is = c.self.invariant.1 in
    let at = rw c.deref.ensures.value at c.in_ok-at.ensures in
    let gone = (IsKept-remove k.order.items k.slots c.remove.new.self k.room c.args.id c.in_ok-at.at c.remove-key.result is at c.remove-key.ensures.value
    c.remove.ensures.updates c.remove.ensures.len c.remove.ensures.capacity).1 in
    record {
      value = sym c.remove.ensures.value
          ∙ ap (λ e. slabs.get k.slots e.key) c.remove-key.ensures.value
          ∙ sym (object_at k.order.items k.slots c.args.id c.in_ok-at.at c.remove-key.result is.present is.rising at)
          ∙ ap (λ t. object_of t.rows c.args.id) c.self.view_is;
      rows = rows_alike (rows_in c.remove-key.new.self.items c.remove.new.self) (without (rows_in k.order.items k.slots) c.args.id) k.room
          (ap (λ es. rows_in es c.remove.new.self) c.remove-key.ensures.items ∙ gone)
          ∙ ap (λ t. removed t c.args.id) c.self.view_is;
    }
