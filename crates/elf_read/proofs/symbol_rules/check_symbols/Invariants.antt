use Rattle.std.proofs.Common.{◌≡◌, ◌-◌}
use Rattle.elf_read.specs.Tables.{symbol_count}
use Rattle.elf_read.specs.Rule.{each}
use Rattle.elf_read.specs.Rules.{symbol_rule}
use Rattle.elf_read.proofs.symbol_rules.check_symbols.Given as goal

abbrev pub invariant-loop-k : goal.invariant-loop-k
invariant-loop-k l = each l.k (l.count - l.k) (symbol_rule l.bytes) ≡ each 1 (symbol_count l.bytes - 1) (symbol_rule l.bytes)
