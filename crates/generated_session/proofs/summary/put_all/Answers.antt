use Rattle.std.proofs.Common.{refl, arith}
use Rattle.std.proofs.lemmas.List.{take_more}
use Rattle.generated_session.specs.Puts.{sink_log}
use Rattle.generated_session.proofs.Appended.{piece_put, piece_cut, put_none}
use Rattle.generated_session.proofs.summary.put_all.Goals as goal

pub loop-piece-init : goal.loop-piece-init
loop-piece-init g c = record { put = put_none (sink_log g.O.Sink c.args.out.now); faults = omega arith }

pub returns-in-Failed-clause-puts : goal.returns-in-Failed-clause-puts
returns-in-Failed-clause-puts g c =
    piece_cut c.args.pieces.now c.loop-piece.piece-index _ (take_more c.args.pieces.now c.loop-piece.piece-index _ (omega (arith, c.loop-piece-test.true)))
    (sink_log g.O.Sink c.args.out.now) (sink_log g.O.Sink c.loop-piece.out) (sink_log g.O.Sink c.put.new.self) c.loop-piece.invariant.put c.in-Failed.ensures.part c.in-Failed.ensures.noted

pub loop-piece-preserved : goal.loop-piece-preserved
loop-piece-preserved g c = record {
  put =
      piece_put c.args.pieces.now c.loop-piece.piece-index _ (take_more c.args.pieces.now c.loop-piece.piece-index _ (omega (arith, c.loop-piece-test.true)))
      (sink_log g.O.Sink c.args.out.now) (sink_log g.O.Sink c.loop-piece.out) (sink_log g.O.Sink c.put.new.self) c.loop-piece.invariant.put (c.in-Done.ensures.done refl) c.in-Done.ensures.noted;
  faults = omega (arith, c.loop-piece.invariant.faults, c.put.ensures.never_falls);
}
