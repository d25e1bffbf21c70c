-- RAM keeps its size, whatever is written.
use Rattle.std.proofs.Common.{◌≡◌, ℕ, zero, suc, ◌+◌, ◌<◌, ◌≤◌, ◌^◌, ◌%◌, true, false, cond, List, [], ◌∷◌, ◌++◌, length, take, drop, refl, ◌∙◌, arith, length-append, length-drop}
use Rattle.std.proofs.lemmas.Bool.Decides.{nat_tests}
use Rattle.std.proofs.lemmas.List.{length-take, length-take-le}
use Rattle.byteorder.specs.Endian.{big_bytes}
use Rattle.byteorder.specs.Numbers.{length-bytes_high_first}
use Rattle.board_mem.specs.Memory.{has, with_bytes, with_number, written}

-- bytes that are written inside keep the length
pub length-with_bytes : (ram : List ℕ) (at : ℕ) (bytes : List ℕ) → at + length bytes ≤ length ram → length (with_bytes ram at bytes) ≡ length ram
length-with_bytes ram at bytes le =
    length-append (take at ram ++ bytes) (drop (at + length bytes) ram) ∙ omega (arith, le, length-append (take at ram) bytes, length-take-le at ram (omega arith), length-drop (at + length bytes) ram)

-- and so does an empty range, wherever it begins
length-no_bytes : (ram : List ℕ) (at : ℕ) → length (with_bytes ram at []) ≡ length ram
length-no_bytes ram at = length-append (take at ram ++ []) (drop (at + 0) ram) ∙ omega (arith, length-append (take at ram) [], length-drop (at + 0) ram, length-take at ram)

-- the end of a range in RAM
has_end : (ram : List ℕ) (at n : ℕ) → 0 < n → has ram at n ≡ true → at + n ≤ length ram
has_end ram at n some h = grind (arith, nat_tests)

pub length-with_number : (n : ℕ) (ram : List ℕ) (at v : ℕ) → has ram at n ≡ true → length (with_number n ram at v) ≡ length ram
length-with_number zero ram at v h = length-no_bytes ram at
length-with_number (suc n) ram at v h =
    let bytes = big_bytes (suc n) (v % 256 ^ suc n) in
    let size : length bytes ≡ suc n = length-bytes_high_first (suc n) (v % 256 ^ suc n) in
    let le : at + suc n ≤ length ram = has_end ram at (suc n) (omega arith) h in
    length-with_bytes ram at bytes (omega (arith, size, le))

-- a write changes nothing if a byte is outside
pub length-written : (n : ℕ) (ram : List ℕ) (at v : ℕ) → length (written n ram at v) ≡ length ram
length-written n ram at v =
    elim (has ram at n) as (λ b. has ram at n ≡ b → length (cond b (with_number n ram at v) ram) ≡ length ram) [
      | true ↦ λ h. length-with_number n ram at v h
      | false ↦ λ h. refl
    ] refl

-- bytes written to a range of their length in RAM
pub length-with_range : (ram : List ℕ) (at : ℕ) (bytes : List ℕ) → has ram at (length bytes) ≡ true → length (with_bytes ram at bytes) ≡ length ram
length-with_range ram at [] h = length-no_bytes ram at
length-with_range ram at (b ∷ bs) h = length-with_bytes ram at (b ∷ bs) (has_end ram at (suc (length bs)) (omega arith) h)
