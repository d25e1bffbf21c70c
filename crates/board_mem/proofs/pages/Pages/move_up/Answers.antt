use Rattle.std.proofs.Common.{◌≡◌, sym, ap, ◌∙◌, arith}
use Rattle.board_mem.proofs.Moves.{moved, piece-up}
use Rattle.board_mem.proofs.Writings.{written_at-none}
use Rattle.board_mem.proofs.pages.Pages.move_up.Goals as goal

pub loop-left-preserved : goal.loop-left-preserved
loop-left-preserved c =
    let l = c.loop-left in
    let next = piece-up l.self c.move_block.new.self c.args.from c.args.to c.min-count.result l.left c.move_block.ensures (omega arith) c.requires.up l.invariant.0 in
    (omega (arith, next.0, l.invariant.0), next.0 ∙ l.invariant.1, next.1 ∙ l.invariant.2)

pub returns : goal.returns
returns c =
    let none : 0 ≡ c.loop-left.left = omega arith in
    sym (written_at-none c.loop-left.self c.args.to) ∙ ap (moved c.loop-left.self c.args.from c.args.to) none ∙ c.loop-left.invariant.2
