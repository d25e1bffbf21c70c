use Rattle.std.proofs.Common.{◌≡◌, ◌<◌, ◌++◌, drop}
use Rattle.tick_family.specs.Members.{members_of, choice_of}
use Rattle.tick_family.specs.Ranges.{chosen_times}
use Rattle.tick_family.proofs.ranges.times_of.Given as goal

-- the times so far, with those that the entries that are left choose, are all
abbrev pub invariant-loop-entry : goal.invariant-loop-entry
invariant-loop-entry l = record {
  below : l.below ≡ members_of (drop l.entry-index l.entries);
  left : l.left < l.below;
  times : l.chosen.items ++ chosen_times (drop l.entry-index l.entries) (choice_of (drop l.entry-index l.entries) l.left) ≡ chosen_times l.entries (choice_of l.entries l.fn.number);
}
