-- Words are numbers below 2 ^ 32. Their bits are numbered from the most significant, which is bit 0 (Book I 1.3.2).
use Rattle.std.specs.Prelude.{ℕ, ◌+◌, ◌-◌, ◌/◌, ◌%◌, ◌^◌, nat_lt, nat_le, if◌then◌else◌}

-- the number in bits `first` to `last` of a word
abbrev pub bits : ℕ → ℕ → ℕ → ℕ
bits word first last = word / 2 ^ (31 - last) % 2 ^ (last + 1 - first)

-- a word with every bit inverted
abbrev pub complement : ℕ → ℕ
complement word = 2 ^ 32 - 1 - word

-- a number of the given number of bits, sign-extended to a word
abbrev pub sign_extended : ℕ → ℕ → ℕ
sign_extended width n = if nat_lt n (2 ^ (width - 1)) then n else n + (2 ^ 32 - 2 ^ width)

-- the word with ones in bits `first` to `last`, and zeros elsewhere
abbrev pub ones : ℕ → ℕ → ℕ
ones first last = 2 ^ (32 - first) - 2 ^ (31 - last)

-- the same, but the bits wrap around from 31 to 0
abbrev pub mask : ℕ → ℕ → ℕ
mask first last = if nat_le first last then ones first last else complement (ones (last + 1) (first - 1))
