use Rattle.std.proofs.Common.{arith, ap}
use Rattle.ppc_word.specs.declared.piece.Piece.TheVariants.{Field}
use Rattle.ppc_word.specs.Words.{bits}
use Rattle.ppc_word.proofs.Read.{piece_at, piece_fits, fixed_step, field_step, whole-parts}
use Rattle.ppc_word.proofs.word.read_pieces.Goals as goal
use Rattle.ppc_word.proofs.word.read_pieces.Goals.{in-Fixed, in-Field}

pub part-requires-clause-place : goal.part-requires-clause-place
part-requires-clause-place c =
    let e = piece_at c.args.pieces.now c.loop-piece.piece-index _ _ c.loop-piece-test.true c.in-Field.is in
    let f = piece_fits c.args.pieces.now c.loop-piece.piece-index (Field c.in-Field.width) c.requires e in
    let b = ap bits e in omega arith

pub part-requires-clause-size : goal.part-requires-clause-size
part-requires-clause-size c =
    let e = piece_at c.args.pieces.now c.loop-piece.piece-index _ _ c.loop-piece-test.true c.in-Field.is in
    let f = piece_fits c.args.pieces.now c.loop-piece.piece-index (Field c.in-Field.width) c.requires e in omega arith

pub loop-piece-preserved : goal.loop-piece-preserved
loop-piece-preserved c =
    elim c.match-piece.branch [
      | in-Fixed w ↦
          let e = piece_at c.args.pieces.now c.loop-piece.piece-index _ _ c.loop-piece-test.true w.in-Fixed.is in
          rw (w.rest-is, w.count-is, w.found-is) (fixed_step _ _ _ _ _ _ _ _ e c.loop-piece.invariant)
      | in-Field w ↦
          let e = piece_at c.args.pieces.now c.loop-piece.piece-index _ _ c.loop-piece-test.true w.in-Field.is in
          rw (w.rest-is, w.count-is, w.found-is, w.part.ensures) (field_step _ _ _ _ _ _ _ e c.loop-piece.invariant (whole-parts c.args.pieces.now c.requires).1)
    ]
