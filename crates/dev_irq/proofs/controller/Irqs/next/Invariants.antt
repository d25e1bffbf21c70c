use Rattle.std.proofs.Common.{◌≡◌, ℕ, ◌<◌, false}
use Rattle.dev_irq.specs.Laws.{can_deliver}
use Rattle.dev_irq.proofs.controller.Irqs.next.Given as goal

abbrev pub invariant-loop-slot : goal.invariant-loop-slot
invariant-loop-slot l = (k : ℕ) → k < l.slot → can_deliver l.full l.line-items k ≡ false
