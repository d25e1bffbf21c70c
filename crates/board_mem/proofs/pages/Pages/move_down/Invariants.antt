use Rattle.std.proofs.Common.{◌≡◌, ◌+◌, ◌≤◌, length}
use Rattle.board_mem.proofs.Moves.{moved}
use Rattle.board_mem.proofs.pages.Pages.move_down.Given as goal

abbrev pub invariant-loop-left : goal.invariant-loop-left
invariant-loop-left l =
    (l.to ≤ l.from) × (l.from + l.left ≤ length l.self.bytes) × (length l.self.bytes ≡ length l.fn.self.bytes) × (moved l.self l.from l.to l.left ≡ moved l.fn.self l.fn.from l.fn.to l.fn.n)

abbrev pub decreases-loop-left : goal.decreases-loop-left
decreases-loop-left l = l.left
