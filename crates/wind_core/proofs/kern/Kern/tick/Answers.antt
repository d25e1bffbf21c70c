use Rattle.std.proofs.Common.{◌≡◌, ap, ◌∙◌, ◌+◌}
use Rattle.wind_core.specs.Orders.{first_due}
use Rattle.wind_core.specs.Tick.{count_slice, wake_due}
use Rattle.wind_core.proofs.Ticks.{at_tick, tick_is, tick-count_slice, counted_keeps}
use Rattle.wind_core.proofs.kern.Kern.tick.Goals as goal

pub invariant_of-self : goal.invariant_of-self
invariant_of-self c =
    let n = c.self.inside.tick + 1 in
    (counted_keeps c.self-2.inside n c.self-2.invariant.0 (ap (λ s. first_due s.tasks n) c.self-2.view_is ∙ c.wake_due.ensures.done), c.self-2.invariant.1)

pub returns : goal.returns
returns c =
    let s = c.args.self.now in
    let n = c.self.inside.tick + 1 in
    let count : n ≡ s.tick + 1 = ap (λ r. r.tick + 1) (c.self.view_is ∙ c.count_slice.ensures.slice) ∙ ap (λ m. m + 1) (tick-count_slice s) in
    ap (at_tick n) (c.self-2.view_is ∙ c.wake_due.ensures.state ∙ ap (λ r. wake_due r n) c.count_slice.ensures.slice)
    ∙ ap (λ m. at_tick m (wake_due (count_slice s) m)) count
    ∙ tick_is s
