-- Memory: RAM as a list of bytes, and numbers of several bytes in it, most significant byte first (Power ISA, Book I, byte ordering).
use Rattle.std.specs.Prelude.{ℕ, ◌+◌, ◌^◌, ◌%◌, Bool, ◌||◌, if◌then◌else◌, ◌==◌, nat_le, List, ◌++◌, length, take, drop, Option, Some, None, position}
use Rattle.std.specs.Option.{option_map}
use Rattle.byteorder.specs.Endian.{big_number, big_bytes}
use Rattle.wind_base.specs.Limits.{longest_string}

-- whether the n bytes from an address on are all in RAM; an empty range is in RAM, wherever it begins
abbrev pub has : List ℕ → ℕ → ℕ → Bool
has ram at n = n == 0 || nat_le (at + n) (length ram)

-- the n bytes from an address on
abbrev pub bytes_at : List ℕ → ℕ → ℕ → List ℕ
bytes_at ram at n = take n (drop at ram)

-- the number in the n bytes from an address on
abbrev pub number_at : ℕ → List ℕ → ℕ → ℕ
number_at n ram at = big_number n (drop at ram)

-- the word at an address
abbrev pub word_at : List ℕ → ℕ → ℕ
word_at ram at = number_at 4 ram at

-- RAM with these bytes from an address on
abbrev pub with_bytes : List ℕ → ℕ → List ℕ → List ℕ
with_bytes ram at bytes = take at ram ++ bytes ++ drop (at + length bytes) ram

-- RAM with the lowest n bytes of a number from an address on
abbrev pub with_number : ℕ → List ℕ → ℕ → ℕ → List ℕ
with_number n ram at value = with_bytes ram at (big_bytes n (value % 256 ^ n))

-- RAM with this word at an address
abbrev pub with_word : List ℕ → ℕ → ℕ → List ℕ
with_word ram at value = with_number 4 ram at value

-- the result of a read of n bytes: the number, or none if a byte is outside RAM
abbrev pub read : ℕ → List ℕ → ℕ → Option ℕ
read n ram at = if has ram at n then Some (number_at n ram at) else None

-- RAM after a write of n bytes: with the number, or unchanged if a byte is outside RAM
abbrev pub written : ℕ → List ℕ → ℕ → ℕ → List ℕ
written n ram at value = if has ram at n then with_number n ram at value else ram

-- the number of bytes before the first zero from an address on, if there is one among as many bytes as the longest string has with its zero
abbrev pub string_length : List ℕ → ℕ → Option ℕ
string_length ram at = position (λ b. b == 0) (bytes_at ram at (longest_string + 1))

-- the string at an address, without its zero
abbrev pub string_at : List ℕ → ℕ → Option (List ℕ)
string_at ram at = option_map (bytes_at ram at) (string_length ram at)

-- these bytes after the string at an address is copied to their beginning
abbrev pub string_over : List ℕ → ℕ → Option ℕ → List ℕ → List ℕ
string_over ram at None old = old
string_over ram at (Some n) old = bytes_at ram at n ++ drop n old
