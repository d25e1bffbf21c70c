use Rattle.std.proofs.Common.{◌≡◌, ◌+◌, ◌*◌, ◌++◌, ◌≤◌, length}
use Rattle.std.specs.List.{All}
use Rattle.elf_build.specs.File.{tables_of, table_headers}
use Rattle.elf_build.specs.Writable.{HasSection}
use Rattle.elf_build.proofs.headers.put_table_headers.Given as goal

abbrev pub invariant-loop-rest : goal.invariant-loop-rest
invariant-loop-rest l = record {
  made : l.out.items ++ table_headers l.sections l.symtab l.place (tables_of l.rest) ≡ l.fn.out.items ++ table_headers l.sections l.symtab l.at (tables_of l.relocs);
  left : l.place + 12 * length l.rest ≡ l.at + 12 * length l.relocs;
  few : length l.rest ≤ length l.relocs;
  fit : All (HasSection (length l.sections)) l.rest;
}

abbrev pub decreases-loop-rest : goal.decreases-loop-rest
decreases-loop-rest l = length l.rest
