-- What follows from the definitions of frames, numbers and escapes alone.
use Rattle.std.specs.Prelude.{◌≡◌, ℕ, ◌^◌, ◌<◌, ◌≤◌, ◌≢◌, List, [], ◌∷◌, ◌++◌, All, length, option_to_list, Some, Ok}
use Prim.Native.Char.{code}
use Rattle.hex.specs.Hex.{IsBytes, decode_of, encode_lower}
use Rattle.wind_base.specs.Texts.{hex_places}
use Rattle.debug_wire.specs.declared.frame.Frame.TheVariants.{Packet}
use Rattle.debug_wire.specs.Numbers.{hex_number, hex_text}
use Rattle.debug_wire.specs.Frames.{after, completed, framed, frames, kept, longest_body, reader_after}
use Rattle.debug_wire.specs.Escapes.{escaped, unescaped}

-- a byte that a packet's body can have
abbrev pub IsPlain : ℕ → Type 0
IsPlain b = (b ≢ code "$") × (b ≢ code "#")

-- bytes that can be the body of a packet: not too many, and none that belongs to the frame
pub record IsBody (body : List ℕ) : Type 0 where
  pub plain : All IsPlain body
  pub short : length body ≤ longest_body

-- the frame of a body is read as a packet with that body, whatever comes before and after it
abbrev pub ReadsBackLaw : Type 0
ReadsBackLaw = (before body rest : List ℕ) → IsBody body → frames (before ++ (framed body ++ rest)) ≡ frames before ++ Packet body ∷ frames rest

-- a reader that stands after some bytes completes with the next one what the input completes, and stands after that one too
abbrev pub ReaderLaw : Type 0
ReaderLaw = (input : List ℕ) (b : ℕ) → (frames (input ++ b ∷ []) ≡ frames input ++ option_to_list (completed (reader_after input) b))
    × (reader_after (input ++ b ∷ []) ≡ kept (after (reader_after input) b))

-- escaped bytes read back, and a body can have each of them
abbrev pub EscapeLaw : Type 0
EscapeLaw = (bytes : List ℕ) → (unescaped (escaped bytes) ≡ bytes) × All IsPlain (escaped bytes)

-- a number's text reads back
abbrev pub NumberLaw : Type 0
NumberLaw = (n : ℕ) → n < 2 ^ 64 → hex_number (hex_text n) ≡ Some n

-- a number's digits with leading zeros read back, as those of a register of 32 or 64 bits
abbrev pub PlacesLaw : Type 0
PlacesLaw = (places n : ℕ) → 0 < places → places ≤ 16 → n < 16 ^ places → hex_number (hex_places places n) ≡ Some n

-- bytes in hexadecimal digits read back
abbrev pub BytesLaw : Type 0
BytesLaw = (bytes : List ℕ) → IsBytes bytes → decode_of (encode_lower bytes) ≡ Ok bytes
