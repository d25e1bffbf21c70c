use Rattle.std.proofs.Common.{◌≡◌, sym, ap, ◌∙◌, arith}
use Rattle.board_mem.proofs.Moves.{moved, piece-down}
use Rattle.board_mem.proofs.Writings.{written_at-none}
use Rattle.board_mem.proofs.pages.Pages.move_down.Goals as goal

pub loop-left-preserved : goal.loop-left-preserved
loop-left-preserved c =
    let l = c.loop-left in
    let next = piece-down l.self c.move_block.new.self l.from l.to c.min-count.result l.left c.move_block.ensures (omega arith) l.invariant.0 l.invariant.1 in
    (omega arith, omega (arith, next.0, l.invariant.1), next.0 ∙ l.invariant.2, next.1 ∙ l.invariant.3)

pub returns : goal.returns
returns c =
    let none : 0 ≡ c.loop-left.left = omega arith in
    sym (written_at-none c.loop-left.self c.loop-left.to) ∙ ap (moved c.loop-left.self c.loop-left.from c.loop-left.to) none ∙ c.loop-left.invariant.3
