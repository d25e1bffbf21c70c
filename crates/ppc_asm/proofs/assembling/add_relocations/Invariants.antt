use Rattle.std.proofs.Common.{◌≡◌, List, ◌++◌, map, take}
use Rattle.elf_read.specs.declared.module.Sym.{Sym}
use Rattle.ppc_asm.specs.Assembly.{relocation, Numbers}
use Rattle.ppc_asm.proofs.assembling.add_relocations.Given as goal

abbrev pub invariant-loop-fix : goal.invariant-loop-fix
invariant-loop-fix l = (ss : List Sym) → Numbers l.numbers ss → l.list.items ≡ l.fn.list.items ++ map (relocation ss l.section) (take l.fix-index l.fixes)
