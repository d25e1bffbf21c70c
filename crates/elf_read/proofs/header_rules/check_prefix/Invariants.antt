use Rattle.std.proofs.Common.{◌≡◌, drop}
use Rattle.elf_read.specs.Rules.{ident_from}
use Rattle.elf_read.proofs.header_rules.check_prefix.Given as goal

abbrev pub invariant-loop-i : goal.invariant-loop-i
invariant-loop-i l = ident_from l.i (drop l.i l.prefix) l.bytes ≡ ident_from 0 l.prefix l.bytes
