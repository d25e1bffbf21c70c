use Rattle.std.proofs.Common.{◌≡◌, ◌+◌, ◌≤◌, length}
use Rattle.tick_file.specs.Lines.{tick_lines}
use Rattle.tick_family.specs.Members.{members_of}
use Rattle.tick_family.specs.Reading.{read_from, start}
use Rattle.tick_family.specs.Inside.{IsWithin, before_all}
use Rattle.tick_family.proofs.reading.read_family.Given as goal

-- the entries so far, with those of the lines that are left, are those of the text
abbrev pub invariant-loop-rest : goal.invariant-loop-rest
invariant-loop-rest l = record {
  entries : before_all l.kept.entries.items (read_from (l.line + 1) l.kept.extent (tick_lines l.rest)) ≡ read_from 1 start (tick_lines l.text);
  within : IsWithin l.kept.extent;
  members : l.kept.extent.members ≡ members_of l.kept.entries.items;
  lines : l.line + length l.rest ≤ length l.text;
}

abbrev pub decreases-loop-rest : goal.decreases-loop-rest
decreases-loop-rest l = length l.rest
