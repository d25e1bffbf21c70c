-- The registers and the stack frame with which a task begins, or the shell's task at a call.
use Rattle.std.specs.Prelude.{ℕ, ◌+◌, List, [], ◌∷◌, None, slice_index, replicate, if◌then◌else◌}
use Rattle.wind_base.specs.Limits.{frame_bytes}
use Rattle.wind_base.specs.declared.regs.Regs.{Regs}
use Rattle.board_mem.specs.Memory.{has, written, with_bytes}

-- no register has a value
abbrev pub no_regs : Regs
no_regs = record { gpr = 0 ∷ 0 ∷ 0 ∷ 0 ∷ 0 ∷ 0 ∷ 0 ∷ 0 ∷ 0 ∷ 0 ∷ 0 ∷ 0 ∷ 0 ∷ 0 ∷ 0 ∷ 0 ∷ 0 ∷ 0 ∷ 0 ∷ 0 ∷ 0 ∷ 0 ∷ 0 ∷ 0 ∷ 0 ∷ 0 ∷ 0 ∷ 0 ∷ 0 ∷ 0 ∷ 0 ∷ 0 ∷ []; cr = 0; xer = 0; lr = 0; ctr = 0; pc = 0; reserve = None }

-- r1 points to the frame, r3 to r10 hold the first eight of ten words, the link register is the return address,
-- and the program counter is the start (System V ABI, PowerPC supplement, function calls)
abbrev pub starting_regs : ℕ → ℕ → ℕ → List ℕ → Regs
starting_regs pointer link start words = record no_regs {
  gpr = 0 ∷ pointer ∷ 0 ∷ slice_index words 0 ∷ slice_index words 1 ∷ slice_index words 2 ∷ slice_index words 3 ∷ slice_index words 4 ∷ slice_index words 5 ∷ slice_index words 6 ∷ slice_index words 7 ∷ 0 ∷ 0 ∷ 0 ∷ 0 ∷ 0 ∷ 0 ∷ 0 ∷ 0 ∷ 0 ∷ 0 ∷ 0 ∷ 0 ∷ 0 ∷ 0 ∷ 0 ∷ 0 ∷ 0 ∷ 0 ∷ 0 ∷ 0 ∷ 0 ∷ [];
  lr = link;
  pc = start;
}

-- n zeros from an address on
abbrev pub cleared : List ℕ → ℕ → ℕ → List ℕ
cleared ram at n = if has ram at n then with_bytes ram at (replicate n 0) else ram

-- RAM with a frame: 16 zero words, except the ninth of ten words at 8(r1) and the tenth at 12(r1)
unfoldable pub framed : List ℕ → ℕ → List ℕ → List ℕ
framed ram pointer words =
    written 4 (written 4 (cleared ram pointer frame_bytes) (pointer + 8) (slice_index words 8)) (pointer + 12) (slice_index words 9)
