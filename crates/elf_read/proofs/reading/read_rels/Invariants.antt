use Rattle.std.proofs.Common.{◌≡◌, ◌-◌, ◌++◌}
use Rattle.elf_read.specs.Tables.{header_count}
use Rattle.elf_read.specs.Numbered.{gathered}
use Rattle.elf_read.specs.Contents.{rels_at}
use Rattle.elf_read.proofs.reading.read_rels.Given as goal

abbrev pub invariant-loop-i : goal.invariant-loop-i
invariant-loop-i l = l.list.items ++ gathered l.i (l.count - l.i) (rels_at l.bytes) ≡ gathered 0 (header_count l.bytes) (rels_at l.bytes)
