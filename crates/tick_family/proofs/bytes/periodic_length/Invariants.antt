use Rattle.std.proofs.Common.{◌≡◌, ◌+◌, ◌-◌, ◌≤◌}
use Rattle.wind_base.specs.Limits.{longest_text_file}
use Rattle.tick_family.specs.Members.{periodic}
use Rattle.tick_family.specs.Reading.{text_length}
use Rattle.tick_family.proofs.bytes.periodic_length.Given as goal

-- the lines so far, with those that are left, are all
abbrev pub invariant-loop-done : goal.invariant-loop-done
invariant-loop-done l = record {
  sum : l.bytes + text_length (periodic l.shift l.period l.event (l.done + 1) (l.count - l.done)) ≡ l.fn.used + text_length (periodic l.shift l.period l.event 1 l.count);
  fits : l.bytes ≤ longest_text_file;
}
