-- The outcome of assembling a text, from the outcome of its lines.
use Rattle.std.proofs.Common.{◌≡◌, ℕ, List, Ok, sym, ap, ◌∙◌}
use Rattle.elf_read.specs.declared.module.Module.{Module}
use Rattle.asm_lines.specs.declared.error.AsmErr.{AsmErr}
use Rattle.asm_lines.specs.declared.error.AsmErr.TheVariants.{Bad, NoMemory}
use Rattle.asm_lines.specs.Items.{Placed}
use Rattle.asm_lines.specs.Causes.{Tells, items}
use Rattle.ppc_asm.specs.Assembly.{module_of, module_or, assembly}

pub made : (text : List ℕ) (ps : List Placed) (m : Module) → items text ≡ Ok ps → m ≡ module_of ps → assembly text ≡ Ok m
unfolding assembly
made text ps m e h = ap module_or e ∙ ap (λ (n : Module). Ok n) (sym h)

pub module_tells : (text : List ℕ) (e : AsmErr) → Tells (items text) e → Tells (assembly text) e
unfolding assembly
module_tells text (Bad n c) h = ap module_or h
module_tells text NoMemory h = tt
