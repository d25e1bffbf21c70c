use Rattle.std.proofs.Common.{ap, ◌∙◌, sym, subst, arith, ◌<◌}
use Rattle.ready_queue.specs.Order.{first_id}
use Rattle.ready_queue.proofs.Rotation.{first_from, nobody_from}
use Rattle.ready_queue.proofs.ready.Ready.first.Goals as goal

pub returns-in_err-list : goal.returns-in_err-list
returns-in_err-list c =
    let cs = c.self.inside.tasks.chains in
    let is = c.self.invariant in
    c.from_residual.ensures
    ∙ sym (nobody_from 0 cs (λ r h. let low = subst (λ n. r < n) is.lists h in sym (c.in_err-list.ensures r low) ∙ is.bits r low))
    ∙ ap (λ o. first_id o.tasks) c.self.view_is

pub returns : goal.returns
returns c =
    let cs = c.self.inside.tasks.chains in
    let is = c.self.invariant in
    let found = c.in_ok-list.ensures in
    c.first-2.ensures
    ∙ sym (first_from 0 c.in_ok-list.list cs (subst (λ n. c.in_ok-list.list < n) (sym is.lists) found.0) (sym found.1 ∙ is.bits c.in_ok-list.list found.0)
    (λ r h. sym (found.2 r h) ∙ is.bits r (omega (arith, h, found.0))))
    ∙ ap (λ o. first_id o.tasks) c.self.view_is
