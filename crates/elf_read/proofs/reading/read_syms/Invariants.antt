use Rattle.std.proofs.Common.{◌≡◌, ◌-◌, ◌++◌}
use Rattle.elf_read.specs.Tables.{symbol_count}
use Rattle.elf_read.specs.Numbered.{gathered}
use Rattle.elf_read.specs.Contents.{syms_at}
use Rattle.elf_read.proofs.reading.read_syms.Given as goal

abbrev pub invariant-loop-k : goal.invariant-loop-k
invariant-loop-k l = l.list.items ++ gathered l.k (l.count - l.k) (syms_at l.bytes) ≡ gathered 1 (symbol_count l.bytes - 1) (syms_at l.bytes)
