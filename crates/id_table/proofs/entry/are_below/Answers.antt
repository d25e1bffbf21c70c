use Rattle.std.proofs.Common.{arith, sym, ap}
use Rattle.std.proofs.lemmas.Bool.{ltb-true}
use Rattle.id_table.proofs.Halving.{below_last}
use Rattle.id_table.specs.Entries.{entry_id}
use Rattle.id_table.proofs.entry.are_below.Goals as goal

pub returns : goal.returns
returns c below =
    let es = c.args.order.now in
    let last = c.index-order-order.result in
    let less = ltb-true c.get.result c.get-2.result below in
    below_last entry_id es last c.args.id c.requires c.index-order-order.is (omega (arith, less, c.get.ensures.same, c.get-2.ensures.same, sym (ap (λ e. e.id) c.index-order-order.is)))
