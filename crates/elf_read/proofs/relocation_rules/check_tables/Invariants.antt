use Rattle.std.proofs.Common.{◌≡◌, ◌-◌, ◌*◌, ◌≤◌, ◌^◌}
use Rattle.elf_read.specs.Tables.{header_count, rela_count}
use Rattle.elf_read.specs.Rule.{each}
use Rattle.elf_read.specs.Numbered.{total}
use Rattle.elf_read.specs.Rules.{table_rule}
use Rattle.elf_read.proofs.relocation_rules.check_tables.Given as goal

abbrev pub invariant-loop-i : goal.invariant-loop-i
invariant-loop-i l = record {
  rest : each l.i (l.count - l.i) (table_rule l.bytes) ≡ each 0 (header_count l.bytes) (table_rule l.bytes);
  all : l.sofar ≡ total l.i (rela_count l.bytes);
  few : l.sofar ≤ l.i * 2 ^ 29;
}
