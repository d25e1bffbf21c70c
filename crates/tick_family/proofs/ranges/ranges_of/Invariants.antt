use Rattle.std.proofs.Common.{◌≡◌, ◌++◌, drop}
use Rattle.tick_family.specs.Ranges.{ranges_in}
use Rattle.tick_family.proofs.ranges.ranges_of.Given as goal

-- the ranges so far, with those of the entries that are left, are all
abbrev pub invariant-loop-entry : goal.invariant-loop-entry
invariant-loop-entry l = l.ranges.items ++ ranges_in (drop l.entry-index l.entries) ≡ ranges_in l.entries
