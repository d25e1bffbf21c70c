use Rattle.elf_read.proofs.Holding.{module_is}
use Rattle.live_loading.proofs.load.load_outlined.Goals as goal

pub load_read-requires-clause-module : goal.load_read-requires-clause-module
load_read-requires-clause-module g c = module_is c.args.file.now c.in_ok-m.m c.requires.module.passes c.in_ok-m.ensures
