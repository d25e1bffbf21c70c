-- Binary data in replies ("Binary Data" in "Overview" of GDB's remote protocol).
use Rattle.std.specs.Prelude.{ℕ, ◌==◌, ◌||◌, if◌then◌else◌, bit_xor, Bool, List, [], ◌∷◌, ◌++◌}
use Prim.Native.Char.{code}

-- a byte that a reply can't have as it is: `#` and `$` belong to the frame, `}` escapes, and `*` repeats
abbrev pub is_escaped : ℕ → Bool
is_escaped b = b == code "#" || b == code "$" || b == code "}" || b == code "*"

-- a byte of a reply: one that it can't have as it is becomes `}` and the byte with bit 0x20 turned over
abbrev pub escaped_byte : ℕ → List ℕ
escaped_byte b = if is_escaped b then code "}" ∷ bit_xor b 32 ∷ [] else b ∷ []

-- bytes as they are in a reply
abbrev pub escaped : List ℕ → List ℕ
escaped [] = []
escaped (b ∷ bs) = escaped_byte b ++ escaped bs

-- the bytes for which those of a reply stand
abbrev pub unescaped : List ℕ → List ℕ
unescaped [] = []
unescaped (b ∷ []) = b ∷ []
unescaped (b ∷ c ∷ bs) = if b == code "}" then bit_xor c 32 ∷ unescaped bs else b ∷ unescaped (c ∷ bs)
