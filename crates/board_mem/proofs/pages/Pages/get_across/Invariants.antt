use Rattle.std.proofs.Common.{◌≡◌, ◌-◌, ◌≤◌, length, take}
use Rattle.board_mem.specs.Memory.{bytes_at}
use Rattle.board_mem.proofs.pages.Pages.get_across.Given as goal

abbrev pub invariant-loop-done : goal.invariant-loop-done
invariant-loop-done l =
    (l.done ≤ length l.dst) × (length l.dst ≡ length l.fn.dst) × (take l.done l.dst ≡ bytes_at l.self.bytes l.at l.done)

abbrev pub decreases-loop-done : goal.decreases-loop-done
decreases-loop-done l = length l.dst - l.done
