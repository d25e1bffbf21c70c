-- The memory that is told: RAM, and after it the gates.
use Rattle.std.specs.Prelude.{ℕ, zero, suc, ◌+◌, ◌==◌, ◌&&◌, nat_lt, nat_le, if◌then◌else◌, Bool, List, [], ◌∷◌, ◌++◌, length, take, drop}
use Rattle.hex.specs.Hex.{encode_lower}
use Rattle.debug_texts.specs.Replies.{refused}

-- how many gates there are
abbrev pub gate_count : ℕ
gate_count = 58

-- the 16 bytes of a gate: the instructions `sc` and `blr`, and two words 0
abbrev pub gate_code : List ℕ
gate_code = 0x44 ∷ 0 ∷ 0 ∷ 2 ∷ 0x4e ∷ 0x80 ∷ 0 ∷ 0x20 ∷ 0 ∷ 0 ∷ 0 ∷ 0 ∷ 0 ∷ 0 ∷ 0 ∷ 0 ∷ []

-- the bytes of so many gates
unfoldable pub gate_codes : ℕ → List ℕ
gate_codes zero = []
gate_codes (suc n) = gate_codes n ++ gate_code

-- the memory of a board with this RAM, from address 0 on
unfoldable pub memory_of : List ℕ → List ℕ
memory_of ram = ram ++ gate_codes gate_count

-- the bytes from an address on: so many, or as many as there are
abbrev pub bytes_told : List ℕ → ℕ → ℕ → List ℕ
bytes_told ram at count = take count (drop at (memory_of ram))

-- these bytes in hexadecimal digits, or an error if there is none
abbrev pub hex_or_refused : List ℕ → List ℕ
hex_or_refused bytes = if length bytes == 0 then refused else encode_lower bytes

abbrev pub memory_reply : List ℕ → ℕ → ℕ → List ℕ
memory_reply ram at count = hex_or_refused (bytes_told ram at count)

-- ---- watch points
-- the most bytes of a watched range
abbrev pub most_watched : ℕ
most_watched = 4096

-- a range can be watched: it isn't empty or too long, and it is in RAM
abbrev pub is_watchable : List ℕ → ℕ → ℕ → Bool
is_watchable ram at count = nat_lt 0 count && (nat_le count most_watched && nat_le (at + count) (length ram))
