use Rattle.std.proofs.Common.{ap, ◌∙◌, sym}
use Rattle.wait_order.specs.Line.{first_at}
use Rattle.wait_order.specs.Inside.{waiters_in}
use Rattle.wait_order.specs.Fronts.{front_of}
use Rattle.wait_order.proofs.Standing.{run_first}
use Rattle.wait_order.proofs.waits.Waits.first.Goals as goal

pub returns : goal.returns
returns c =
    let kept = c.self.invariant.1 in
    let p = c.args.place in
    c.first_at.ensures
    ∙ ap (λ fs. front_of fs p) c.deref.ensures.value
    ∙ kept.ahead.firsts p
    ∙ sym (run_first (waiters_in c.self.inside.waiters.chains) p kept.order)
    ∙ ap (λ l. first_at l.waiters p) c.self.view_is
