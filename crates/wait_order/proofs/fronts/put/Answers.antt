use Rattle.std.proofs.Common.{sym, arith, subst, Some}
use Rattle.wait_order.specs.Fronts.{IsPut, StandsHere, GoesHere}
use Rattle.wait_order.proofs.Places.{no_front, found_put, new_put}
use Rattle.wait_order.proofs.fronts.put.Goals as goal

pub unreachable-requires : goal.unreachable-requires
unreachable-requires c =
    let fs = c.args.fronts.now.items in
    let goes = subst (λ es. GoesHere es c.args.place c.in-Err.at) c.deref.ensures.value c.in-Err.ensures.found in
    omega (arith, c.requires.room (no_front fs c.args.place c.in-Err.at goes), c.in_default.ensures.full)

pub returns-in-Ok-clause-put : goal.returns-in-Ok-clause-put
returns-in-Ok-clause-put c =
    let stands = subst (λ es. StandsHere es c.args.place c.in-Ok.at) c.deref.ensures.value c.in-Ok.ensures.found in
    found_put c.args.fronts.now.items c.args.place c.args.first c.in-Ok.at c.requires.rising stands

pub returns-in-Ok-insert-clause-put : goal.returns-in-Ok-insert-clause-put
returns-in-Ok-insert-clause-put c =
    let fs = c.args.fronts.now.items in
    let goes = subst (λ es. GoesHere es c.args.place c.in-Err.at) c.deref.ensures.value c.in-Err.ensures.found in
    subst (IsPut fs c.args.place (Some c.args.first)) (sym c.in-Ok-insert.ensures.items) (new_put fs c.args.place c.args.first c.in-Err.at c.requires.rising goes)
