-- A word in RAM after a word is written.
use Rattle.std.proofs.Common.{◌≡◌, ℕ, ◌+◌, ◌%◌, ◌^◌, ◌<◌, ◌≤◌, List, ◌++◌, length, get_or, take, drop, ◌⊎◌, inl, inr, sym, ap, ◌∙◌, arith, append_assoc}
use Rattle.std.proofs.lemmas.List.{length-take-le, drop_at}
use Rattle.byteorder.specs.Endian.{big_number, big_bytes}
use Rattle.byteorder.specs.Numbers.{big_from-take, big_number-reads_back, length-bytes_high_first}
use Rattle.board_mem.specs.Memory.{bytes_at, word_at, with_word}
use Rattle.board_mem.proofs.Splices.{bytes_at-with_below, get_or-with_below, get_or-with_after}

-- the written word
pub word_at-same : (ram : List ℕ) (at value : ℕ) → at ≤ length ram → value < 2 ^ 32 → word_at (with_word ram at value) at ≡ value
word_at-same ram at value le lt =
    let whole : value % 256 ^ 4 ≡ value = omega arith in
    let bytes = big_bytes 4 (value % 256 ^ 4) in
    let back = drop (at + length bytes) ram in
    let split : drop at ((take at ram ++ bytes) ++ back) ≡ bytes ++ back =
    ap (drop at) (append_assoc (take at ram) bytes back) ∙ drop_at (take at ram) (bytes ++ back) at (length-take-le at ram le) in
    ap (big_number 4) split ∙ big_number-reads_back 4 (value % 256 ^ 4) back (omega arith) ∙ whole

word_at-bytes : (ram : List ℕ) (at : ℕ) → word_at ram at ≡ big_number 4 (bytes_at ram at 4)
word_at-bytes ram at = sym (big_from-take 0 4 4 (drop at ram) (omega arith))

-- a word before it
pub word_at-below : (ram : List ℕ) (at value before : ℕ) → before + 4 ≤ at → at ≤ length ram → word_at (with_word ram at value) before ≡ word_at ram before
word_at-below ram at value before h le =
    word_at-bytes (with_word ram at value) before
    ∙ ap (big_number 4) (bytes_at-with_below ram at (big_bytes 4 (value % 256 ^ 4)) before 4 h le)
    ∙ sym (word_at-bytes ram before)

-- a byte elsewhere
pub byte-elsewhere : (ram : List ℕ) (at value a : ℕ) → at ≤ length ram → (a < at) ⊎ (at + 4 ≤ a) → get_or (with_word ram at value) a 0 ≡ get_or ram a 0
byte-elsewhere ram at value a le (inl before) = get_or-with_below ram at (big_bytes 4 (value % 256 ^ 4)) a before le
byte-elsewhere ram at value a le (inr after) =
    get_or-with_after ram at (big_bytes 4 (value % 256 ^ 4)) a (omega (arith, length-bytes_high_first 4 (value % 256 ^ 4))) le
