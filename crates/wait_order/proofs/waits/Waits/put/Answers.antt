use Rattle.std.proofs.Common.{◌≡◌, ◌<◌, ap, ◌∙◌, sym, subst, arith, length, ltb}
use Rattle.linked_lists.specs.IdTableSorting.{sorted}
use Rattle.linked_lists.specs.IdTableRecords.{with_record}
use Rattle.linked_lists.proofs.IdTableSorting.{length-sorted}
use Rattle.wait_order.specs.declared.waits.Waiter.{Waiter}
use Rattle.wait_order.specs.Line.{Line, waiter_id, waiter_of, with_waiter}
use Rattle.wait_order.specs.Fronts.{first_from}
use Rattle.wait_order.specs.Inside.{waiters_in, by_id, precedes, IsOwn, IsAfter, AreFronts}
use Rattle.wait_order.proofs.LineOrder.{line_alike}
use Rattle.wait_order.proofs.Standing.{own_one, own_length, own_value, absent_in_list, by_id_more}
use Rattle.wait_order.proofs.Changing.{start_after, few_fronts, comes, place_there}
use Rattle.wait_order.proofs.waits.Waits.put.Goals as goal

pub place_of-next-requires-clause-start : goal.place_of-next-requires-clause-start
place_of-next-requires-clause-start c =
    let k = c.self.inside in
    let kept = c.self.invariant.1 in
    let w : Waiter = record { place = c.args.place; who = c.args.who; pri = c.args.pri; since = c.args.since } in
    subst (λ o. IsAfter (waiters_in k.waiters.chains) o w) (sym (c.first_from-start.ensures ∙ ap (λ fs. first_from fs c.args.place) c.deref.ensures.value)) (start_after (waiters_in k.waiters.chains) k.fronts.items w kept.order kept.ahead)

pub come-requires-clause-room : goal.come-requires-clause-room
come-requires-clause-room c =
    let k = c.self.inside in
    let ws = waiters_in k.waiters.chains in
    omega (arith, few_fronts ws k.fronts.items c.self.invariant.1.ahead, c.self.invariant.0, c.requires.room, ap (λ l. length l.waiters) c.self.view_is, ap (λ l. l.room) c.self.view_is, length-sorted (λ (v w : Waiter). ltb v.who w.who) ws)

pub insert_before-requires-clause-next : goal.insert_before-requires-clause-next
insert_before-requires-clause-next c =
    let cs = c.self.inside.waiters.chains in
    let own = c.self.invariant.1.own in
    let one : 0 < length cs = omega (arith, own_one cs own) in
    let w : Waiter = record { place = c.args.place; who = c.args.who; pri = c.args.pri; since = c.args.since } in
    place_there cs c.place_of-next.result w own (c.facts.ensures.apart 0 one) c.place_of-next.ensures

pub insert_before-requires-clause-absent : goal.insert_before-requires-clause-absent
insert_before-requires-clause-absent c =
    let cs = c.self.inside.waiters.chains in
    own_value cs c.self.invariant.1.own c.args.who ∙ absent_in_list (waiters_in cs) c.args.who (ap (λ l. waiter_of l.waiters c.args.who) c.self.view_is ∙ c.requires.absent)

pub insert_before-requires-clause-room : goal.insert_before-requires-clause-room
insert_before-requires-clause-room c =
    let cs = c.self.inside.waiters.chains in
    omega (arith, c.requires.room, ap (λ l. length l.waiters) c.self.view_is, ap (λ l. l.room) c.self.view_is, length-sorted (λ (v w : Waiter). ltb v.who w.who) (waiters_in cs), own_length cs c.self.invariant.1.own)

pub invariant_of-self : goal.invariant_of-self
invariant_of-self c =
    let t = c.self.inside.waiters in
    let kept = c.self.invariant.1 in
    let one : 0 < length t.chains = omega (arith, own_one t.chains kept.own) in
    let w : Waiter = record { place = c.args.place; who = c.args.who; pri = c.args.pri; since = c.args.since } in
    let more = comes t c.place_of-next.result w kept.own kept.order (c.facts.ensures.apart 0 one) c.place_of-next.ensures in
    let made = c.insert_before.ensures in (
      omega (arith, c.self.invariant.0, c.come.ensures.capacity, ap (λ u. u.room) made),
      record {
        own = subst (λ u. IsOwn u.chains) (sym made) more.own;
        order = subst (λ u. waiters_in u.chains ≡ sorted precedes (waiters_in u.chains)) (sym made) more.order;
        ahead = subst (λ vs. AreFronts vs c.come.new.fronts.items) (sym (ap (λ u. waiters_in u.chains) made ∙ more.waiters)) c.come.ensures.fronts;
      },
    )

pub returns : goal.returns
returns c =
    let t = c.self.inside.waiters in
    let kept = c.self.invariant.1 in
    let ws = waiters_in t.chains in
    let one : 0 < length t.chains = omega (arith, own_one t.chains kept.own) in
    let w : Waiter = record { place = c.args.place; who = c.args.who; pri = c.args.pri; since = c.args.since } in
    let more = comes t c.place_of-next.result w kept.own kept.order (c.facts.ensures.apart 0 one) c.place_of-next.ensures in
    let none = absent_in_list ws c.args.who (ap (λ l. waiter_of l.waiters c.args.who) c.self.view_is ∙ c.requires.absent) in
    ap {B = Line} (λ u. record { waiters = by_id (waiters_in u.chains); room = u.room }) c.insert_before.ensures
    ∙ line_alike _ (with_record waiter_id (by_id ws) w) t.room (ap by_id more.waiters ∙ by_id_more ws w none)
    ∙ ap (λ l. with_waiter l w) c.self.view_is
