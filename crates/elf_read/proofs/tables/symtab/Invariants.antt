use Rattle.std.proofs.Common.{◌≡◌, ◌-◌}
use Rattle.elf_read.specs.Numbered.{first_from}
use Rattle.elf_read.specs.Tables.{is_symtab, header_count}
use Rattle.elf_read.proofs.tables.symtab.Given as goal

abbrev pub invariant-loop-i : goal.invariant-loop-i
invariant-loop-i l = first_from l.i (l.count - l.i) (is_symtab l.bytes) ≡ first_from 0 (header_count l.bytes) (is_symtab l.bytes)
