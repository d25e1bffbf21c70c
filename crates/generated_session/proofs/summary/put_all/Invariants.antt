use Rattle.std.proofs.Common.{◌≤◌, take}
use Rattle.generated_session.specs.Puts.{ArePut, sink_log}
use Rattle.generated_session.proofs.Appended.{texts_of}
use Rattle.generated_session.proofs.summary.put_all.Given as goal

-- the pieces so far were put
abbrev pub invariant-loop-piece : goal.invariant-loop-piece
invariant-loop-piece g l = record {
  put : ArePut (texts_of (take l.piece-index l.pieces)) (sink_log g.O.Sink l.fn.out) (sink_log g.O.Sink l.out);
  faults : g.O.Sink.faults l.fn.out ≤ g.O.Sink.faults l.out;
}
