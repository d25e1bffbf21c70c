use Rattle.std.proofs.Common.{◌≡◌, ◌++◌, drop}
use Rattle.tick_file.specs.Writing.{recorded}
use Rattle.tick_family.proofs.member.text_of.Given as goal

-- the lines so far, with those that are left, are all
abbrev pub invariant-loop-event : goal.invariant-loop-event
invariant-loop-event l = l.text.items ++ recorded (drop l.event-index l.events) ≡ recorded l.events
