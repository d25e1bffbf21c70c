-- Moving a range piece by piece moves it as a whole, even if it overlaps its destination.
use Rattle.std.proofs.Common.{◌≡◌, ℕ, ◌+◌, ◌-◌, ◌≤◌, List, length, drop, sym, ap, ap₂, ◌∙◌, arith}
use Rattle.std.proofs.lemmas.List.{length-drop, length-take-le}
use Rattle.board_mem.specs.Memory.{bytes_at}
use Rattle.board_mem.specs.Pages.{PagesState, written_at}
use Rattle.board_mem.proofs.Sizes.{length-with_bytes}
use Rattle.board_mem.proofs.Splices.{bytes_at-append, bytes_at-with_below, bytes_at-with_after}
use Rattle.board_mem.proofs.Writings.{written_at-append, written_at-prepend}

-- the pages after n bytes are moved
abbrev pub moved : PagesState → ℕ → ℕ → ℕ → PagesState
moved s from to n = written_at s to (bytes_at s.bytes from n)

pub length-bytes_at : (ram : List ℕ) (at n : ℕ) → at + n ≤ length ram → length (bytes_at ram at n) ≡ n
length-bytes_at ram at n le = length-take-le n (drop at ram) (omega (arith, length-drop at ram))

-- the number of bytes stays
pub length-moved : (s : PagesState) (from to n : ℕ) → from + n ≤ length s.bytes → to + n ≤ length s.bytes → length (moved s from to n).bytes ≡ length s.bytes
length-moved s from to n source place =
    length-with_bytes s.bytes to (bytes_at s.bytes from n) (omega (arith, length-bytes_at s.bytes from n source, place))

-- to a lower address, lowest byte first
pub moved_down : (s : PagesState) (from to n m : ℕ) → to ≤ from → from + (n + m) ≤ length s.bytes → moved (moved s from to n) (from + n) (to + n) m ≡ moved s from to (n + m)
moved_down s from to n m down there =
    let first = bytes_at s.bytes from n in
    let second = bytes_at s.bytes (from + n) m in
    let size : length first ≡ n = length-bytes_at s.bytes from n (omega arith) in
    let kept : bytes_at (moved s from to n).bytes (from + n) m ≡ second = bytes_at-with_after s.bytes to first (from + n) m (omega (arith, size)) (omega arith) in
    ap₂ (λ (at : ℕ) (bytes : List ℕ). written_at (moved s from to n) at bytes) (ap (λ k. to + k) (sym size)) kept
    ∙ written_at-append s to first second (omega arith) ∙ ap (written_at s to) (bytes_at-append s.bytes from n m)

-- to a higher address, highest byte first
pub moved_up : (s : PagesState) (from to n m : ℕ) → from ≤ to → to + (n + m) ≤ length s.bytes → moved (moved s (from + n) (to + n) m) from to n ≡ moved s from to (n + m)
moved_up s from to n m up there =
    let first = bytes_at s.bytes from n in
    let second = bytes_at s.bytes (from + n) m in
    let size : length first ≡ n = length-bytes_at s.bytes from n (omega arith) in
    let kept : bytes_at (moved s (from + n) (to + n) m).bytes from n ≡ first = bytes_at-with_below s.bytes (to + n) second from n (omega arith) (omega arith) in
    ap (written_at (moved s (from + n) (to + n) m) to) kept ∙ ap (λ k. written_at (written_at s (to + k) second) to first) (sym size)
    ∙ written_at-prepend s to first second (omega (arith, size)) ∙ ap (written_at s to) (bytes_at-append s.bytes from n m)

-- a piece is moved to a lower address: the number of bytes stays, and moving the rest moves the whole
pub piece-down : (s after : PagesState) (from to n left : ℕ) → after ≡ moved s from to n → n ≤ left → to ≤ from → from + left ≤ length s.bytes → (length after.bytes ≡ length s.bytes) × (moved after (from + n) (to + n) (left - n) ≡ moved s from to left)
piece-down s after from to n left is most down there =
    let whole : n + (left - n) ≡ left = omega arith in (
      ap (λ (p : PagesState). length p.bytes) is ∙ length-moved s from to n (omega arith) (omega arith),
      ap (λ (p : PagesState). moved p (from + n) (to + n) (left - n)) is ∙ moved_down s from to n (left - n) down (omega arith) ∙ ap (moved s from to) whole,
    )

-- a piece is moved to a higher address: the number of bytes stays, and moving the rest moves the whole
pub piece-up : (s after : PagesState) (from to n left : ℕ) → after ≡ moved s (from + (left - n)) (to + (left - n)) n → n ≤ left → from ≤ to → to + left ≤ length s.bytes → (length after.bytes ≡ length s.bytes) × (moved after from to (left - n) ≡ moved s from to left)
piece-up s after from to n left is most up there =
    let whole : left - n + n ≡ left = omega arith in (
      ap (λ (p : PagesState). length p.bytes) is ∙ length-moved s (from + (left - n)) (to + (left - n)) n (omega arith) (omega arith),
      ap (λ (p : PagesState). moved p from to (left - n)) is ∙ moved_up s from to (left - n) n up (omega arith) ∙ ap (moved s from to) whole,
    )
