use Rattle.std.proofs.Common.{sym, subst, None}
use Rattle.wait_order.specs.Fronts.{IsPut, StandsHere, GoesHere}
use Rattle.wait_order.proofs.Places.{found_removed, none_removed}
use Rattle.wait_order.proofs.fronts.remove.Goals as goal

pub returns-in-Ok-clause-put : goal.returns-in-Ok-clause-put
returns-in-Ok-clause-put c =
    let fs = c.args.fronts.now.items in
    let stands = subst (λ es. StandsHere es c.args.place.now c.in-Ok.at) c.deref.ensures.value c.in-Ok.ensures.found in
    subst (IsPut fs c.args.place.now None) (sym c.remove.ensures.items) (found_removed fs c.args.place.now c.in-Ok.at c.requires.rising stands)

pub returns-in_default-clause-put : goal.returns-in_default-clause-put
returns-in_default-clause-put c =
    let goes = subst (λ es. GoesHere es c.args.place.now c.in_default.field-0) c.deref.ensures.value c.in_default.ensures.found in
    none_removed c.args.fronts.now.items c.args.place.now c.in_default.field-0 c.requires.rising goes
