use Rattle.std.proofs.Common.{◌≡◌, ◌<◌, false, length, ap, sym, ◌∙◌, below_more, arith}
use Rattle.dev_irq.specs.State.{next}
use Rattle.dev_irq.specs.Laws.{can_deliver}
use Rattle.dev_irq.proofs.Nexts.{next_is, delivers_at, empty_at, quiet_at, none_at_all}
use Rattle.dev_irq.proofs.controller.Irqs.next.Goals as goal
use Rattle.dev_irq.proofs.controller.Irqs.next.Goals.{else-full-slot-via-then-full-slot+else-is_waiting, else-full-slot-via-else-full-slot}

pub returns-then-is_waiting : goal.returns-then-is_waiting
returns-then-is_waiting c =
    let full = c.args.full.now in
    let lines = c.self.inside.lines in
    let within : c.loop-slot.slot < length lines = omega (arith, c.self.invariant.0.all, c.loop-slot-test.true) in
    let here = delivers_at full lines c.loop-slot.slot c.line-item.result within c.if-full-slot.true (sym c.is_waiting.ensures ∙ c.if-is_waiting.true) in
    sym (next_is full lines c.loop-slot.slot here c.loop-slot.invariant) ∙ ap (next full) c.self.view_is

pub loop-slot-preserved : goal.loop-slot-preserved
loop-slot-preserved c =
    let full = c.args.full.now in
    let lines = c.self.inside.lines in
    let within : c.loop-slot.slot < length lines = omega (arith, c.self.invariant.0.all, c.loop-slot-test.true) in
    let here : can_deliver full lines c.loop-slot.slot ≡ false =
    elim c.else-full-slot.branch [
      | else-full-slot-via-then-full-slot+else-is_waiting w ↦ quiet_at full lines c.loop-slot.slot c.line-item.result within (sym w.is_waiting.ensures ∙ w.if-is_waiting.false)
      | else-full-slot-via-else-full-slot w ↦ empty_at full lines c.loop-slot.slot w.if-full-slot.false
    ] in
    below_more (λ k. can_deliver full lines k ≡ false) c.loop-slot.slot c.loop-slot.invariant here

pub returns : goal.returns
returns c =
    let full = c.args.full.now in
    let lines = c.self.inside.lines in
    sym (none_at_all full lines c.loop-slot.slot (omega (arith, c.self.invariant.0.all, c.loop-slot-test.false)) c.loop-slot.invariant) ∙ ap (next full) c.self.view_is
