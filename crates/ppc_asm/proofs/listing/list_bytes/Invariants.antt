use Rattle.std.proofs.Common.{◌≡◌, ℕ, ◌+◌, List, ◌++◌, length}
use Rattle.wind_base.specs.OutBuf.{KeepsSpace}
use Rattle.wind_outside.specs.declared.sink.Put.TheVariants.{Done}
use Rattle.program_main.specs.Messages.{PutsText}
use Rattle.ppc_asm.specs.Listing.{lines_from}
use Rattle.ppc_asm.proofs.listing.list_bytes.Given as goal

-- the lines so far are written, and those of the bytes left follow them
abbrev pub invariant-loop-left : goal.invariant-loop-left
invariant-loop-left g l = record {
  listed : (before : List ℕ) × PutsText before Done (g.O.Sink.bytes l.fn.out) (g.O.Sink.bytes l.out) (g.O.Sink.faults l.fn.out) (g.O.Sink.faults l.out) × (before ++ lines_from l.offset l.left ≡ lines_from 0 l.bytes);
  space : KeepsSpace l.fn.line l.line;
  place : l.offset + length l.left ≡ length l.bytes;
}

abbrev pub decreases-loop-left : goal.decreases-loop-left
decreases-loop-left g l = length l.left
