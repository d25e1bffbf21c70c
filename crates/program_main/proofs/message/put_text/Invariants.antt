use Rattle.std.proofs.Common.{take}
use Rattle.wind_outside.specs.declared.sink.Put.TheVariants.{Done}
use Rattle.program_main.specs.Messages.{PutsText}
use Rattle.program_main.proofs.Putting.{bytes_of}
use Rattle.program_main.proofs.message.put_text.Given as goal

-- the pieces so far were put
abbrev pub invariant-loop-piece : goal.invariant-loop-piece
invariant-loop-piece g l = PutsText (bytes_of (take l.piece-index l.pieces)) Done (g.E.Sink.bytes l.fn.err) (g.E.Sink.bytes l.err) (g.E.Sink.faults l.fn.err) (g.E.Sink.faults l.err)
