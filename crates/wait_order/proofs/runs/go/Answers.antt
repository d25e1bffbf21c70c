use Rattle.std.proofs.Common.{◌≡◌, ap, ◌∙◌, sym, arith, true, false, eqb, Some, None}
use Rattle.std.proofs.lemmas.Bool.{eqb-true, eqb-false}
use Rattle.std.proofs.lemmas.Option.{same_Some}
use Rattle.wait_order.specs.Fronts.{front_of}
use Rattle.wait_order.proofs.Firsts.{firsts_left, firsts_follow, left_own, next_found}
use Rattle.wait_order.proofs.runs.go.Goals as goal

pub returns-in_default-clause-fronts : goal.returns-in_default-clause-fronts
returns-in_default-clause-fronts c =
    let none : front_of c.args.fronts.now.items c.args.gone.now.place ≡ None = ap (λ fs. front_of fs c.args.gone.now.place) (sym c.deref.ensures.value) ∙ sym c.in_default.ensures in
    firsts_left c.args.waiters.now.chains c.args.fronts.now.items c.args.gone.now c.args.next c.requires (λ e. absurd (cc))

pub returns-then-ne-clause-fronts : goal.returns-then-ne-clause-fronts
returns-then-ne-clause-fronts c =
    let found = ap (λ fs. front_of fs c.args.gone.now.place) (sym c.deref.ensures.value) ∙ sym c.in-Some.ensures in
    let other : eqb c.in-Some.first c.args.gone.now.who ≡ false = grind (arith, c.if-ne.ensures) in
    firsts_left c.args.waiters.now.chains c.args.fronts.now.items c.args.gone.now c.args.next c.requires
    (λ e. eqb-false c.in-Some.first c.args.gone.now.who other (same_Some c.in-Some.first c.args.gone.now.who (sym found ∙ e)))

pub next_at-requires-clause-own : goal.next_at-requires-clause-own
next_at-requires-clause-own c = left_own c.args.waiters.now.chains c.args.fronts.now.items c.args.gone.now c.args.next c.requires

pub next_at-requires-clause-next : goal.next_at-requires-clause-next
next_at-requires-clause-next c = next_found c.args.waiters.now.chains c.args.fronts.now.items c.args.gone.now c.args.next c.requires

pub returns-in-Some-next_at-clause-fronts : goal.returns-in-Some-next_at-clause-fronts
returns-in-Some-next_at-clause-fronts c =
    let found = ap (λ fs. front_of fs c.args.gone.now.place) (sym c.deref.ensures.value) ∙ sym c.in-Some.ensures in
    let same : eqb c.in-Some.first c.args.gone.now.who ≡ true = grind (arith, c.if-ne.ensures) in
    firsts_follow c.args.waiters.now.chains c.args.fronts.now.items c.args.gone.now c.args.next c.requires c.put.new.fronts.items (Some c.in-Some-next_at.id)
    (found ∙ ap (λ k. Some k) (eqb-true c.in-Some.first c.args.gone.now.who same)) c.in-Some-next_at.ensures c.put.ensures.put

pub returns-in-None-clause-fronts : goal.returns-in-None-clause-fronts
returns-in-None-clause-fronts c =
    let found = ap (λ fs. front_of fs c.args.gone.now.place) (sym c.deref.ensures.value) ∙ sym c.in-Some.ensures in
    let same : eqb c.in-Some.first c.args.gone.now.who ≡ true = grind (arith, c.if-ne.ensures) in
    firsts_follow c.args.waiters.now.chains c.args.fronts.now.items c.args.gone.now c.args.next c.requires c.remove.new.fronts.items None
    (found ∙ ap (λ k. Some k) (eqb-true c.in-Some.first c.args.gone.now.who same)) c.in-None.ensures c.remove.ensures.put
