use Rattle.std.proofs.Common.{◌≡◌, ◌++◌, map, ◌+◌, ◌≤◌, length}
use Rattle.tick_file.specs.Lines.{tick_lines, rules_from, bad_from}
use Rattle.tick_file.specs.Inside.{waiting_of}
use Rattle.tick_file.proofs.reading.kept_rules.Given as goal

abbrev pub invariant-loop-rest : goal.invariant-loop-rest
invariant-loop-rest l = record {
  rules : l.kept.items ++ map waiting_of (rules_from (l.line + 1) (tick_lines l.rest)) ≡ map waiting_of (rules_from 1 (tick_lines l.text));
  bad : bad_from (l.line + 1) (tick_lines l.rest) ≡ bad_from 1 (tick_lines l.text);
  lines : l.line + length l.rest ≤ length l.text;
}

abbrev pub decreases-loop-rest : goal.decreases-loop-rest
decreases-loop-rest l = length l.rest
