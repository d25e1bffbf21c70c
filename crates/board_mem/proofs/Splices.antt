-- Bytes written into a list, byte by byte, and one range after another.
use Rattle.std.proofs.Common.{◌≡◌, ℕ, ◌+◌, ◌-◌, ◌<◌, ◌≤◌, List, ◌++◌, length, get_or, take, drop, sym, ap, ap₂, ◌∙◌, arith}
use Rattle.std.proofs.lemmas.List.{get_or_append_left, get_or-append_right, get_or-take, get_or-drop, length-append, length-take-le, take-append-drop, take-append-le, take-take, drop_at, drop-drop, drop-take}
use Rattle.board_mem.specs.Memory.{bytes_at, with_bytes}

-- the written bytes
pub get_or-with_inside : (ram : List ℕ) (at : ℕ) (bytes : List ℕ) (k : ℕ) → at ≤ k → k < at + length bytes → at ≤ length ram → get_or (with_bytes ram at bytes) k 0 ≡ get_or bytes (k - at) 0
get_or-with_inside ram at bytes k lo hi le =
    let prefix = length-take-le at ram le in
    get_or_append_left (take at ram ++ bytes) (drop (at + length bytes) ram) 0 k (omega (arith, prefix, length-append (take at ram) bytes))
    ∙ get_or-append_right (take at ram) bytes at k 0 prefix lo

-- those before them
pub get_or-with_below : (ram : List ℕ) (at : ℕ) (bytes : List ℕ) (k : ℕ) → k < at → at ≤ length ram → get_or (with_bytes ram at bytes) k 0 ≡ get_or ram k 0
get_or-with_below ram at bytes k h le =
    let prefix = length-take-le at ram le in
    get_or_append_left (take at ram ++ bytes) (drop (at + length bytes) ram) 0 k (omega (arith, prefix, length-append (take at ram) bytes))
    ∙ get_or_append_left (take at ram) bytes 0 k (omega (arith, prefix)) ∙ get_or-take at ram k 0 h

-- those after them
pub get_or-with_after : (ram : List ℕ) (at : ℕ) (bytes : List ℕ) (k : ℕ) → at + length bytes ≤ k → at ≤ length ram → get_or (with_bytes ram at bytes) k 0 ≡ get_or ram k 0
get_or-with_after ram at bytes k h le =
    let prefix = length-take-le at ram le in
    let size : length (take at ram ++ bytes) ≡ at + length bytes = omega (arith, prefix, length-append (take at ram) bytes) in
    get_or-append_right (take at ram ++ bytes) (drop (at + length bytes) ram) (at + length bytes) k 0 size h
    ∙ get_or-drop (at + length bytes) ram (k - (at + length bytes)) 0 ∙ ap (λ i. get_or ram i 0) (omega arith)

-- a range and the next one are one range
pub bytes_at-append : (ram : List ℕ) (at n m : ℕ) → bytes_at ram at n ++ bytes_at ram (at + n) m ≡ bytes_at ram at (n + m)
bytes_at-append ram at n m =
    let rest = drop at ram in
    let first : take n (take (n + m) rest) ≡ take n rest = take-take n (n + m) rest (omega arith) in
    let second : drop n (take (n + m) rest) ≡ bytes_at ram (at + n) m = drop-take n m rest ∙ ap (take m) (drop-drop n at ram) in
    sym (ap₂ (λ xs ys. xs ++ ys) first second) ∙ take-append-drop n (take (n + m) rest)

-- a range before the written bytes
pub bytes_at-with_below : (ram : List ℕ) (at : ℕ) (bytes : List ℕ) (from n : ℕ) → from + n ≤ at → at ≤ length ram → bytes_at (with_bytes ram at bytes) from n ≡ bytes_at ram from n
bytes_at-with_below ram at bytes from n h le =
    let whole = with_bytes ram at bytes in
    let prefix : take (from + n) whole ≡ take (from + n) ram =
    take-append-le (from + n) (take at ram ++ bytes) (drop (at + length bytes) ram) (omega (arith, length-append (take at ram) bytes, length-take-le at ram le))
    ∙ take-append-le (from + n) (take at ram) bytes (omega (arith, length-take-le at ram le)) ∙ take-take (from + n) at ram h in
    sym (drop-take from n whole) ∙ ap (drop from) prefix ∙ drop-take from n ram

-- a range after the written bytes
pub bytes_at-with_after : (ram : List ℕ) (at : ℕ) (bytes : List ℕ) (from n : ℕ) → at + length bytes ≤ from → at ≤ length ram → bytes_at (with_bytes ram at bytes) from n ≡ bytes_at ram from n
bytes_at-with_after ram at bytes from n h le =
    let prefix = take at ram ++ bytes in
    let back = drop (at + length bytes) ram in
    let size : length prefix ≡ at + length bytes = omega (arith, length-append (take at ram) bytes, length-take-le at ram le) in
    let split : at + length bytes + (from - (at + length bytes)) ≡ from = omega arith in
    ap (take n) (ap (λ k. drop k (prefix ++ back)) (sym split) ∙ sym (drop-drop (from - (at + length bytes)) (at + length bytes) (prefix ++ back))
    ∙ ap (drop (from - (at + length bytes))) (drop_at prefix back (at + length bytes) size)
    ∙ drop-drop (from - (at + length bytes)) (at + length bytes) ram ∙ ap (λ k. drop k ram) split)
