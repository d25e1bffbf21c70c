-- The fields of packets.
use Rattle.std.specs.Prelude.{ℕ, ◌+◌, ◌==◌, List, take, drop, Option, Some, option_and_then, position}
use Prim.Native.Char.{code}
use Rattle.debug_wire.specs.Numbers.{hex_number}
use Rattle.debug_packet.specs.declared.packet.Range.{Range}

-- the steps of a form: none, if one of them gives none
infixl 10 ◌>>=◌
abbrev pub ◌>>=◌ : {A B : Type 0} → Option A → (A → Option B) → Option B
o >>= f = option_and_then f o

-- how many bytes come before the first one that is this byte; none if it doesn't occur
abbrev pub place_of : ℕ → List ℕ → Option ℕ
place_of byte text = position (λ b. b == byte) text

-- two numbers, with a comma between them
unfoldable pub two_numbers : List ℕ → Option (ℕ × ℕ)
two_numbers text = do
  comma ← place_of (code ",") text
  first ← hex_number (take comma text)
  second ← hex_number (drop (comma + 1) text)
  Some (first, second)

-- an address or offset, and a count of bytes
unfoldable pub range_of : List ℕ → Option Range
range_of text = do
  numbers ← two_numbers text
  Some (record { at = numbers.0; count = numbers.1 })
