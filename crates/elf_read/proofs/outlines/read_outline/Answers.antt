use Rattle.std.proofs.Common.{rules, ◌≡◌, Ok, refl}
use Rattle.elf_read.specs.Contents.{module_at}
use Rattle.elf_read.specs.Rules.{checked}
use Rattle.elf_read.proofs.Holding.{module_is}
use Rattle.elf_read.proofs.outlines.read_outline.Goals as goal

pub returns-clause-known : goal.returns-clause-known
returns-clause-known c = let passes : checked c.args.bytes.now ≡ Ok tt = search rules in module_is c.args.bytes.now (module_at c.args.bytes.now) passes refl
