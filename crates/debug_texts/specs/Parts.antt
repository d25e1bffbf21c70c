-- The parts of a text that is transferred ("qXfer object read" in the GDB manual).
use Rattle.std.specs.Prelude.{◌≡◌, ℕ, zero, suc, ◌+◌, ◌*◌, ◌<◌, ◌≤◌, nat_lt, if◌then◌else◌, List, [], ◌∷◌, ◌++◌, length, take, drop}
use Prim.Native.Char.{code}
use Rattle.debug_wire.specs.Escapes.{escaped}

-- the bytes of a part: so many from an offset on, or as many as there are
abbrev pub part : List ℕ → ℕ → ℕ → List ℕ
part text at count = take count (drop at text)

-- the reply with a part: `m` if more comes after it, or `l` if it is the last, and its bytes
abbrev pub part_text : List ℕ → ℕ → ℕ → List ℕ
part_text text at count = (if nat_lt (at + count) (length text) then code "m" else code "l") ∷ escaped (part text at count)

-- what is read in at most `most` parts of `count` bytes, from an offset on, up to the last part
abbrev pub read_in_parts : List ℕ → ℕ → ℕ → ℕ → List ℕ
read_in_parts text count at zero = []
read_in_parts text count at (suc most) =
    if nat_lt (at + count) (length text) then part text at count ++ read_in_parts text count (at + count) most else part text at count

-- enough parts, read one after another up to the last, are the text
abbrev pub PartsLaw : Type 0
PartsLaw = (text : List ℕ) (count most : ℕ) → 0 < most → length text ≤ most * count → read_in_parts text count 0 most ≡ text
