use Rattle.std.proofs.Common.{◌≡◌, ◌-◌}
use Rattle.elf_read.specs.Tables.{rela_count}
use Rattle.elf_read.specs.Rule.{each}
use Rattle.elf_read.specs.Rules.{relocation_rule}
use Rattle.elf_read.proofs.relocation_rules.check_relocations_of.Given as goal

abbrev pub invariant-loop-k : goal.invariant-loop-k
invariant-loop-k l = each l.k (l.count - l.k) (relocation_rule l.bytes l.i) ≡ each 0 (rela_count l.bytes l.i) (relocation_rule l.bytes l.i)
