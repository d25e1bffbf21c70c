use Rattle.std.proofs.Common.{◌≡◌, ◌+◌, ◌≤◌, length, replicate}
use Rattle.board_mem.specs.Pages.{written_at}
use Rattle.board_mem.proofs.pages.Pages.put_same_across.Given as goal

abbrev pub invariant-loop-left : goal.invariant-loop-left
invariant-loop-left l =
    (l.at + l.left ≤ length l.self.bytes) × (length l.self.bytes ≡ length l.fn.self.bytes) × (written_at l.self l.at (replicate l.left l.byte) ≡ written_at l.fn.self l.fn.at (replicate l.fn.n l.byte))

abbrev pub decreases-loop-left : goal.decreases-loop-left
decreases-loop-left l = l.left
