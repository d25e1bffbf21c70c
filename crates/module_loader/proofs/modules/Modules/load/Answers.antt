use Rattle.elf_read.proofs.Holding.{module_is}
use Rattle.module_loader.proofs.modules.Modules.load.Goals as goal

pub returns-in-Err-clause-refused : goal.returns-in-Err-clause-refused
returns-in-Err-clause-refused c = c.in-Err.ensures.refused c.args.ram.now.bytes

pub load_module-requires-clause-module : goal.load_module-requires-clause-module
load_module-requires-clause-module c = module_is c.args.file.now c.in-Ok-fill.m c.in-Ok.ensures.module.passes c.in-Ok-fill.ensures
