use Rattle.std.proofs.Common.{ltb, subst, arith}
use Rattle.linked_lists.proofs.IdTableSorting.{length-sorted}
use Rattle.wait_order.specs.declared.waits.Waiter.{Waiter}
use Rattle.wait_order.specs.Line.{IsLine}
use Rattle.wait_order.specs.Inside.{waiters_in}
use Rattle.wait_order.proofs.Standing.{own_length, own_one, own_apart, rising_by_id}
use Rattle.wait_order.proofs.waits.Waits.facts.Goals as goal

pub returns : goal.returns
returns c =
    let t = c.self.inside.waiters in
    let own = c.self.invariant.1.own in
    let ws = waiters_in t.chains in
    subst IsLine c.self.view_is
    (record {
      few = omega (arith, c.facts.ensures.few, own_length t.chains own, length-sorted (λ (v w : Waiter). ltb v.who w.who) ws);
      rising = rising_by_id ws (own_apart t.chains own (c.facts.ensures.apart 0 (omega (arith, own_one t.chains own))));
    })
