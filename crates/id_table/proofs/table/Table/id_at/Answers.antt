use Rattle.std.proofs.Common.{ap, ◌∙◌, sym, arith, get_or, length}
use Rattle.std.proofs.lemmas.List.{get_or-map}
use Rattle.id_table.specs.Rows.{ids}
use Rattle.id_table.specs.Entries.{entry_id}
use Rattle.id_table.proofs.Kept.{ids_rows, length-rows}
use Rattle.id_table.proofs.table.Table.id_at.Goals as goal

pub index-requires : goal.index-requires
index-requires g c =
    omega (arith, length-rows c.self.inside.order.items c.self.inside.slots c.self.invariant.1.present, ap (λ t. length t.rows) c.self.view_is, c.requires)

pub returns : goal.returns
returns g c =
    let k = c.self.inside in
    let x = c.index.result.now in
    let present = c.self.invariant.1.present in
    ap entry_id c.index.ensures
    ∙ sym (get_or-map entry_id k.order.items c.args.position x x.id (omega (arith, length-rows k.order.items k.slots present, ap (λ t. length t.rows) c.self.view_is, c.requires)))
    ∙ sym (ap (λ is. get_or is c.args.position x.id) (ids_rows k.order.items k.slots present))
    ∙ ap (λ t. get_or (ids t.rows) c.args.position x.id) c.self.view_is
