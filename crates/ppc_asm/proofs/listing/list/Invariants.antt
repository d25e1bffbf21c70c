use Rattle.std.proofs.Common.{◌≡◌, ◌++◌, List, ℕ}
use Rattle.wind_base.specs.OutBuf.{KeepsSpace}
use Rattle.wind_outside.specs.declared.sink.Put.TheVariants.{Done}
use Rattle.elf_read.specs.Contents.{module_at}
use Rattle.program_main.specs.Messages.{PutsText}
use Rattle.ppc_asm.specs.Listing.{listing}
use Rattle.ppc_asm.proofs.Listed.{lines_on}
use Rattle.ppc_asm.proofs.listing.list.Given as goal

-- the lines of the sections so far are written, and those of the sections left follow them
abbrev pub invariant-loop-i : goal.invariant-loop-i
invariant-loop-i g l = record {
  listed : (before : List ℕ) × PutsText before Done (g.O.Sink.bytes l.fn.out) (g.O.Sink.bytes l.out) (g.O.Sink.faults l.fn.out) (g.O.Sink.faults l.out)
      × (before ++ lines_on l.bytes l.i l.count ≡ listing (module_at l.bytes));
  space : KeepsSpace l.fn.line l.line;
}
