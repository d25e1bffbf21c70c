use Rattle.std.proofs.Common.{get_or, ap, ◌∙◌, sym, subst}
use Rattle.linked_lists.specs.Chains.{value_of, IsOnlyIn}
use Rattle.linked_lists.proofs.Naming.{no_value, node_there, entry_found, entry_got, cells_alike, listed_in}
use Rattle.linked_lists.proofs.id_lists.IdLists.list_of.Goals as goal

pub returns-in_err-at : goal.returns-in_err-at
returns-in_err-at g c =
    let k = c.self.inside in
    rw c.from_residual.ensures (
    sym (ap (λ t. value_of t.chains c.args.who) c.self.view_is) ∙ no_value k.lists.chains k.index.items c.self.invariant.1 c.args.who (rw c.as_slice-index.ensures at c.in_err-at.ensures))

pub list_of-requires : goal.list_of-requires
list_of-requires g c = node_there c.self.inside.lists.chains c.self.inside.index.items c.self.invariant.1 c.args.who c.in_ok-at.at (get_or c.as_slice-index.result.now c.in_ok-at.at c.index-index-at.result) (rw c.as_slice-index.ensures at c.in_ok-at.ensures) (entry_got c.self.inside.index.items c.as_slice-index.result.now c.in_ok-at.at c.index-index-at.result c.as_slice-index.ensures c.index-index-at.is)

pub returns : goal.returns
returns g c =
    let k = c.self.inside in
    let entry = entry_found k.index.items c.args.who c.in_ok-at.at (get_or c.as_slice-index.result.now c.in_ok-at.at c.index-index-at.result) (rw c.as_slice-index.ensures at c.in_ok-at.ensures) c.self.invariant.1.rising (entry_got c.self.inside.index.items c.as_slice-index.result.now c.in_ok-at.at c.index-index-at.result c.as_slice-index.ensures c.index-index-at.is) in
    let alike = cells_alike k.lists.chains k.index.items c.self.invariant.1 c.args.who (get_or c.as_slice-index.result.now c.in_ok-at.at c.index-index-at.result) entry in
    subst (λ t. IsOnlyIn t.chains c.args.who c.list_of.result) c.self.view_is
    (listed_in k.lists.chains c.list_of.result (get_or c.as_slice-index.result.now c.in_ok-at.at c.index-index-at.result).key c.args.who alike c.list_of.ensures)
