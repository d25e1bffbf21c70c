use Rattle.std.proofs.Common.{◌≡◌, ◌-◌}
use Rattle.elf_read.specs.Tables.{header_count}
use Rattle.elf_read.specs.Rule.{each}
use Rattle.elf_read.specs.Rules.{section_rule}
use Rattle.elf_read.proofs.section_rules.check_sections.Given as goal

abbrev pub invariant-loop-i : goal.invariant-loop-i
invariant-loop-i l = each l.i (l.count - l.i) (section_rule l.rule l.bytes) ≡ each 0 (header_count l.bytes) (section_rule l.rule l.bytes)
