use Rattle.elf_read.proofs.Holding.{holds_module}
use Rattle.elf_read.proofs.laws.module_law.Goals as goal

pub returns : goal.returns
returns c = holds_module
