use Rattle.std.proofs.Common.{◌≡◌, ◌≤◌, ◌<◌, ap, ◌∙◌, sym, subst, arith, is_some, length, vec_capacity}
use Rattle.linked_lists.specs.IdTableRecords.{without}
use Rattle.linked_lists.proofs.IdTablePlaces.{none_without}
use Rattle.wait_order.specs.Line.{Line, waiter_id, waiter_of, without_waiter}
use Rattle.wait_order.specs.Inside.{waiters_in, by_id, IsOwn, IsKept, IsGone, precedes}
use Rattle.linked_lists.specs.IdTableSorting.{sorted}
use Rattle.wait_order.proofs.LineOrder.{line_alike}
use Rattle.wait_order.proofs.Standing.{own_one, own_value, by_id_fewer, there_by_id, absent_by_id}
use Rattle.wait_order.proofs.Changing.{goes, none_goes}
use Rattle.wait_order.proofs.waits.Waits.take.Goals as goal

pub invariant_of-self : goal.invariant_of-self
invariant_of-self c =
    let k = c.self.inside in
    let same = c.in_default.ensures.chains ∙ none_goes k.waiters c.args.who c.self.invariant.1.own (sym c.in_default.ensures.value) in
    subst (λ u. (u.room ≤ vec_capacity k.fronts) × IsKept u.chains k.fronts.items) (sym same) c.self.invariant

pub returns-in_default-clause-value : goal.returns-in_default-clause-value
returns-in_default-clause-value c =
    let t = c.self.inside.waiters in
    let none = absent_by_id (waiters_in t.chains) c.args.who (sym (own_value t.chains c.self.invariant.1.own c.args.who) ∙ sym c.in_default.ensures.value) in
    sym (ap is_some none) ∙ ap (λ l. is_some (waiter_of l.waiters c.args.who)) c.self.view_is

pub returns-in_default-clause-waiters : goal.returns-in_default-clause-waiters
returns-in_default-clause-waiters c =
    let t = c.self.inside.waiters in
    let ws = waiters_in t.chains in
    let same = c.in_default.ensures.chains ∙ none_goes t c.args.who c.self.invariant.1.own (sym c.in_default.ensures.value) in
    let none = absent_by_id ws c.args.who (sym (own_value t.chains c.self.invariant.1.own c.args.who) ∙ sym c.in_default.ensures.value) in
    ap {B = Line} (λ u. record { waiters = by_id (waiters_in u.chains); room = u.room }) same
    ∙ line_alike (by_id ws) (without waiter_id (by_id ws) c.args.who) t.room (sym (none_without waiter_id (by_id ws) c.args.who none))
    ∙ ap (λ l. without_waiter l c.args.who) c.self.view_is

pub go-requires : goal.go-requires
go-requires c =
    let k = c.self.inside in
    let one : 0 < length k.waiters.chains = omega (arith, own_one k.waiters.chains c.self.invariant.1.own) in
    let g = goes k.waiters k.fronts.items c.args.who c.next-next.result c.in-Some.gone c.self.invariant.1 (c.facts.ensures.apart 0 one) (sym c.in-Some.ensures.value) c.next-next.ensures.after in
    subst (λ u. IsGone u.chains k.fronts.items c.in-Some.gone c.next-next.result) (sym c.in-Some.ensures.chains) g.gone

pub invariant_of-self-2 : goal.invariant_of-self-2
invariant_of-self-2 c =
    let k = c.self.inside in
    let one : 0 < length k.waiters.chains = omega (arith, own_one k.waiters.chains c.self.invariant.1.own) in
    let g = goes k.waiters k.fronts.items c.args.who c.next-next.result c.in-Some.gone c.self.invariant.1 (c.facts.ensures.apart 0 one) (sym c.in-Some.ensures.value) c.next-next.ensures.after in (
      omega (arith, c.self.invariant.0, c.go.ensures.capacity, ap (λ u. u.room) c.in-Some.ensures.chains),
      record {
        own = subst (λ u. IsOwn u.chains) (sym c.in-Some.ensures.chains) g.own;
        order = subst (λ u. waiters_in u.chains ≡ sorted precedes (waiters_in u.chains)) (sym c.in-Some.ensures.chains) g.order;
        ahead = c.go.ensures.fronts;
      },
    )

pub returns-clause-value : goal.returns-clause-value
returns-clause-value c =
    let t = c.self.inside.waiters in
    ap is_some (c.in-Some.ensures.value ∙ own_value t.chains c.self.invariant.1.own c.args.who)
    ∙ sym (there_by_id (waiters_in t.chains) c.args.who)
    ∙ ap (λ l. is_some (waiter_of l.waiters c.args.who)) c.self.view_is

pub returns-clause-waiters : goal.returns-clause-waiters
returns-clause-waiters c =
    let k = c.self.inside in
    let ws = waiters_in k.waiters.chains in
    let one : 0 < length k.waiters.chains = omega (arith, own_one k.waiters.chains c.self.invariant.1.own) in
    let g = goes k.waiters k.fronts.items c.args.who c.next-next.result c.in-Some.gone c.self.invariant.1 (c.facts.ensures.apart 0 one) (sym c.in-Some.ensures.value) c.next-next.ensures.after in
    ap {B = Line} (λ u. record { waiters = by_id (waiters_in u.chains); room = u.room }) c.in-Some.ensures.chains
    ∙ line_alike _ (without waiter_id (by_id ws) c.args.who) k.waiters.room (ap by_id g.waiters ∙ by_id_fewer ws c.args.who)
    ∙ ap (λ l. without_waiter l c.args.who) c.self.view_is
