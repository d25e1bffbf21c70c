use Rattle.std.proofs.Common.{◌≡◌, ◌≤◌, length, ◌+◌}
use Rattle.elf_build.specs.File.{tables_of}
use Rattle.elf_build.proofs.groups.table_count.Given as goal

abbrev pub invariant-loop-rest : goal.invariant-loop-rest
invariant-loop-rest l = record {
  all : l.count + length (tables_of l.rest) ≡ length (tables_of l.relocs);
  few : l.count + length l.rest ≤ length l.relocs;
}

abbrev pub decreases-loop-rest : goal.decreases-loop-rest
decreases-loop-rest l = length l.rest
