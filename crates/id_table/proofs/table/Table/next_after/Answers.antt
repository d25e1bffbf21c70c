use Rattle.std.proofs.Common.{ap, ◌∙◌, sym, subst, map, nat_lt}
use Rattle.std.specs.List.{find}
use Rattle.id_table.specs.Rows.{Rises, next_above}
use Rattle.id_table.specs.Entries.{entry_id}
use Rattle.id_table.proofs.Kept.{above_rows, rows_rise}
use Rattle.id_table.proofs.table.Table.next_after.Goals as goal

pub returns : goal.returns
returns g c =
    let k = c.self.inside in
    record {
      value = c.id_above.ensures
          ∙ ap (λ es. find (λ id. nat_lt c.args.id id) (map entry_id es)) c.deref.ensures.value
          ∙ sym (above_rows k.order.items k.slots c.args.id c.self.invariant.1.present)
          ∙ ap (λ t. next_above t.rows c.args.id) c.self.view_is;
      rising = subst (λ t. Rises t.rows) c.self.view_is (rows_rise k.order.items k.slots c.self.invariant.1.present c.self.invariant.1.rising);
    }

pub id_above-requires : goal.id_above-requires
id_above-requires g c = rw c.deref.ensures.value c.self.invariant.1.rising
