use Rattle.std.proofs.Common.{ap, ◌∙◌, sym, ltb, length}
use Rattle.linked_lists.proofs.IdTableSorting.{length-sorted}
use Rattle.wait_order.specs.declared.waits.Waiter.{Waiter}
use Rattle.wait_order.specs.Inside.{waiters_in}
use Rattle.wait_order.proofs.Standing.{own_length}
use Rattle.wait_order.proofs.waits.Waits.len.Goals as goal

pub returns : goal.returns
returns c =
    let cs = c.self.inside.waiters.chains in
    c.len.ensures ∙ own_length cs c.self.invariant.1.own ∙ sym (length-sorted (λ (v w : Waiter). ltb v.who w.who) (waiters_in cs)) ∙ ap (λ l. length l.waiters) c.self.view_is
