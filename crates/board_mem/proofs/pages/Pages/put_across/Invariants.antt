use Rattle.std.proofs.Common.{◌≡◌, ◌+◌, ◌≤◌, length}
use Rattle.board_mem.specs.Pages.{written_at}
use Rattle.board_mem.proofs.pages.Pages.put_across.Given as goal

abbrev pub invariant-loop-rest : goal.invariant-loop-rest
invariant-loop-rest l =
    (l.at + length l.rest ≤ length l.self.bytes) × (length l.self.bytes ≡ length l.fn.self.bytes) × (written_at l.self l.at l.rest ≡ written_at l.fn.self l.fn.at l.fn.src)

abbrev pub decreases-loop-rest : goal.decreases-loop-rest
decreases-loop-rest l = length l.rest
