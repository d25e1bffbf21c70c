use Rattle.std.proofs.Common.{ap, ◌∙◌, sym, subst, refl, ◌<◌, length, arith}
use Rattle.std.specs.Prelude.{IsSome}
use Rattle.std.proofs.lemmas.Option.{same_Some}
use Rattle.wait_order.specs.Inside.{precedes, is_after}
use Rattle.wait_order.proofs.Standing.{own_one}
use Rattle.wait_order.proofs.Firsts.{first_found}
use Rattle.wait_order.proofs.runs.first_stays.Goals as goal

pub value-requires : goal.value-requires
value-requires c =
    let cs = c.args.waiters.now.chains in
    let one : 0 < length cs = omega (arith, own_one cs c.requires.own) in
    let found = first_found cs c.args.fronts.now c.args.waiter.now.place c.in-Some.id c.requires (c.facts.ensures.apart 0 one) (sym c.in-Some.ensures) in
    subst IsSome (sym found.found) refl

pub returns-in-Some : goal.returns-in-Some
returns-in-Some c =
    let cs = c.args.waiters.now.chains in
    let w = c.args.waiter.now in
    let one : 0 < length cs = omega (arith, own_one cs c.requires.own) in
    let found = first_found cs c.args.fronts.now w.place c.in-Some.id c.requires (c.facts.ensures.apart 0 one) (sym c.in-Some.ensures) in
    let same = same_Some c.value.result.now found.waiter (sym c.value.ensures ∙ found.found) in
    c.precedes.ensures ∙ ap (λ v. precedes v w) same ∙ sym (ap (λ o. is_after o w) found.leads)
