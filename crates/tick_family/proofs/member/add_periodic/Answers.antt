use Rattle.std.proofs.Common.{◌≡◌, ℕ, ◌+◌, ◌-◌, ◌++◌, List, ap, refl, subst, arith}
use Rattle.tick_file.specs.declared.event.Event.{Event}
use Rattle.tick_family.specs.Members.{periodic}
use Rattle.tick_family.proofs.TextLemmas.{from_first, push_step, push_end}
use Rattle.tick_family.proofs.member.add_periodic.Goals as goal

pub loop-done-init : goal.loop-done-init
loop-done-init c = ap (λ (v : List (ℕ × Event)). c.args.events.now.items ++ v) (from_first c.args.shift c.args.period c.args.event c.args.count)

pub loop-done-preserved : goal.loop-done-preserved
loop-done-preserved c =
    push_step c.args.shift c.args.period c.args.event c.args.count c.loop-done.done _ c.loop-done.events.items _ _ (omega arith) refl c.in_ok-push.ensures.items c.loop-done.invariant

pub returns : goal.returns
returns c =
    let whole = c.args.events.now.items ++ periodic c.args.shift c.args.period c.args.event 1 c.args.count in
    let e : c.loop-done.done ≡ c.args.count = omega arith in
    push_end c.args.shift c.args.period c.args.event c.args.count c.loop-done.events.items whole
    (subst (λ (n : ℕ). c.loop-done.events.items ++ periodic c.args.shift c.args.period c.args.event (n + 1) (c.args.count - n) ≡ whole) e c.loop-done.invariant)
