use Rattle.std.proofs.Common.{◌≡◌, ◌<◌, ◌≤◌, ◌++◌, drop}
use Rattle.wind_base.specs.Limits.{greatest_word}
use Rattle.tick_family.specs.Members.{members_of, choice_of, chosen_events}
use Rattle.tick_family.proofs.member.chosen.Given as goal

-- the events of the entries so far, with those of the entries that are left, are all
abbrev pub invariant-loop-entry : goal.invariant-loop-entry
invariant-loop-entry l = record {
  below : l.below ≡ members_of (drop l.entry-index l.entries);
  left : l.left < l.below;
  shift : l.shift ≤ greatest_word;
  events : l.events.items ++ chosen_events l.shift (drop l.entry-index l.entries) (choice_of (drop l.entry-index l.entries) l.left) ≡ chosen_events 0 l.entries (choice_of l.entries l.fn.number);
}
