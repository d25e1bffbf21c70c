use Rattle.std.proofs.Common.{refl, ap, take, arith}
use Rattle.std.proofs.lemmas.List.{take_more, take_all}
use Rattle.wind_outside.specs.declared.sink.Put.TheVariants.{Done}
use Rattle.program_main.proofs.Putting.{bytes_of, piece_put, piece_cut, puts_none, puts_as}
use Rattle.program_main.proofs.message.put_text.Goals as goal

pub loop-piece-init : goal.loop-piece-init
loop-piece-init g c = puts_none (g.E.Sink.bytes c.args.err.now) (g.E.Sink.faults c.args.err.now)

pub returns-in-Failed : goal.returns-in-Failed
returns-in-Failed g c =
    piece_cut c.args.pieces.now c.loop-piece.piece-index _ (take_more c.args.pieces.now c.loop-piece.piece-index _ (omega (arith, c.loop-piece-test.true)))
    (g.E.Sink.bytes c.args.err.now) (g.E.Sink.bytes c.loop-piece.err) (g.E.Sink.bytes c.put.new.self)
    (g.E.Sink.faults c.args.err.now) (g.E.Sink.faults c.loop-piece.err) (g.E.Sink.faults c.put.new.self)
    c.loop-piece.invariant c.in-Failed.ensures.part (c.in-Failed.ensures.failed refl) c.in-Failed.ensures.never_falls

pub loop-piece-preserved : goal.loop-piece-preserved
loop-piece-preserved g c =
    piece_put c.args.pieces.now c.loop-piece.piece-index _ (take_more c.args.pieces.now c.loop-piece.piece-index _ (omega (arith, c.loop-piece-test.true)))
    (g.E.Sink.bytes c.args.err.now) (g.E.Sink.bytes c.loop-piece.err) (g.E.Sink.bytes c.put.new.self)
    (g.E.Sink.faults c.args.err.now) (g.E.Sink.faults c.loop-piece.err) (g.E.Sink.faults c.put.new.self)
    c.loop-piece.invariant (c.in-Done.ensures.done refl) c.in-Done.ensures.never_falls

pub returns : goal.returns
returns g c =
    puts_as _ _ _ _ (bytes_of (take c.loop-piece.piece-index c.args.pieces.now)) (bytes_of c.args.pieces.now) Done
    (ap bytes_of (take_all c.loop-piece.piece-index c.args.pieces.now (omega (arith, c.loop-piece-test.false))))
    c.loop-piece.invariant
