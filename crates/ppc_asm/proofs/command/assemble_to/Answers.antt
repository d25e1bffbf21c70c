use Rattle.std.proofs.Common.{List, ℕ, refl, sym, subst}
use Rattle.elf_read.specs.Contents.{ModuleOf}
use Rattle.ppc_asm.proofs.Worded.{written, written_part}
use Rattle.ppc_asm.proofs.command.assemble_to.Goals as goal

pub returns-in-Done-clause-assembles : goal.returns-in-Done-clause-assembles
returns-in-Done-clause-assembles g c =
    written c.args.text.now c.deref.result.now c.in-Ok.module (g.O.Sink.bytes c.args.out.now) (g.O.Sink.bytes c.put.new.self) c.in-Ok.ensures.good
    (subst (λ (file : List ℕ). ModuleOf file c.in-Ok.module) (sym c.deref.ensures.value) c.in-Ok-build.ensures.read_back) (c.in-Done.ensures.done refl)

pub returns-clause-assembles : goal.returns-clause-assembles
returns-clause-assembles g c = (
  written_part c.args.text.now c.deref.result.now c.in-Ok.module (g.O.Sink.bytes c.args.out.now) (g.O.Sink.bytes c.put.new.self) c.in-Ok.ensures.good
      (subst (λ (file : List ℕ). ModuleOf file c.in-Ok.module) (sym c.deref.ensures.value) c.in-Ok-build.ensures.read_back) c.in-Failed.ensures.part,
  c.in-Failed.ensures.failed refl,
)
