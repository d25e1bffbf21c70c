use Rattle.std.proofs.Common.{sym, subst}
use Rattle.module_loader.specs.contracts.modules.Modules.{the_view}
use Rattle.module_loader.specs.Modules.{LoadedModules, modules_on}
use Rattle.module_loader.specs.Steps.{state_of}
use Rattle.module_loader.specs.Holding.{KeepsModules}
use Rattle.module_loader.proofs.Holds.{kept_after_module}
use Rattle.module_loader.proofs.modules.Modules.load_module.Goals as goal

pub returns-clause-kept : goal.returns-clause-kept
returns-clause-kept c =
    kept_after_module c.load_module.result
    (state_of c.args.kern.now c.args.syms.now.list (the_view c.self.inside) c.args.part.now c.args.ram.now.bytes)
    (state_of c.load_module.new.kern c.load_module.new.syms.list (modules_on c.self.inside.board c.load_module.new.table.rows) c.load_module.new.part c.load_module.new.ram.bytes)
    c.args.name c.args.m.now c.args.mode c.requires.module
    (subst (λ (ms : LoadedModules). KeepsModules (state_of c.args.kern.now c.args.syms.now.list ms c.args.part.now c.args.ram.now.bytes)) (sym c.self.view_is) c.requires.kept)
    c.load_module.ensures.sound c.load_module.ensures.accepted c.load_module.ensures.unchanged
