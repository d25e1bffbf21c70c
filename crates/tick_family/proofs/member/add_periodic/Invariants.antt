use Rattle.std.proofs.Common.{◌≡◌, ◌+◌, ◌-◌, ◌++◌}
use Rattle.tick_family.specs.Members.{periodic}
use Rattle.tick_family.proofs.member.add_periodic.Given as goal

-- the events so far, with those that are left, are all
abbrev pub invariant-loop-done : goal.invariant-loop-done
invariant-loop-done l = l.events.items ++ periodic l.shift l.period l.event (l.done + 1) (l.count - l.done) ≡ l.fn.events.items ++ periodic l.shift l.period l.event 1 l.count
