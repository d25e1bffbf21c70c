use Rattle.std.proofs.Common.{ℕ, ◌+◌, ◌-◌, ◌<◌, min, List, length, get_or, sym, ap, ◌∙◌, arith}
use Rattle.std.proofs.lemmas.List.{get_or_default}
use Rattle.inheritance.specs.Reach.{boss, path}
use Rattle.inheritance.proofs.Lending.{lent, lend_on, path_ends, path_goes_on}
use Rattle.inheritance.proofs.settling.lend.Goals as goal

pub returns-in_default : goal.returns-in_default
returns-in_default c = λ i d e h.
    let up = boss c.args.k.now.tasks c.args.mutexes.now.rows in
    sym (ap (λ xs. lent xs c.args.pri (get_or c.args.k.now.tasks i d).id (get_or c.loop-step.goals i e)) (path_ends up c.args.steps c.loop-step.step c.loop-step.at c.loop-step-test.true (sym c.in_default.ensures)))
    ∙ c.loop-step.invariant i d e h

pub loop-step-preserved : goal.loop-step-preserved
loop-step-preserved c = λ i d e h.
    let ts = c.args.k.now.tasks in
    let up = boss ts c.args.mutexes.now.rows in
    let goals : List ℕ = c.loop-step.goals in
    let place = c.place_of-place.result in
    let was = c.index-goals-place.result in
    let now = c.more_urgent.result in
    let within : place < length goals = omega (arith, c.place_of-place.ensures.within, c.requires, c.loop-step.auto.goals) in
    lend_on ts (path up (c.args.steps - (c.loop-step.step + 1)) c.in-Some.owner) goals c.args.pri c.in-Some.owner place now c.facts.ensures.rising c.place_of-place.ensures (omega (arith, c.requires, c.loop-step.auto.goals))
    (c.more_urgent.ensures ∙ ap (min c.args.pri) (c.index-goals-place.is ∙ get_or_default goals place was now within)) i d e h
    ∙ ap (λ xs. lent xs c.args.pri (get_or ts i d).id (get_or goals i e)) (sym (path_goes_on up c.args.steps c.loop-step.step c.loop-step.at c.in-Some.owner c.loop-step-test.true (sym c.in-Some.ensures)))
    ∙ c.loop-step.invariant i d e h
