-- The frames of GDB's remote protocol ("Overview" and "Packet Acknowledgment" in the GDB manual).
use Rattle.std.specs.Prelude.{ℕ, ◌+◌, ◌%◌, ◌==◌, ◌&&◌, nat_le, if◌then◌else◌, Bool, false, List, [], ◌∷◌, ◌++◌, length, take, sum, Option, None, Some, option_to_list}
use Rattle.std.specs.Option.{option_map_or}
use Prim.Native.Char.{code}
use Rattle.wind_base.specs.Texts.{hex_places}
use Rattle.debug_wire.specs.declared.frame.Frame.{Frame}
use Rattle.debug_wire.specs.declared.frame.Frame.TheVariants.{Packet, Damaged, Resend}
use Rattle.debug_wire.specs.Numbers.{hex_number}

-- the greatest length of a packet's body in bytes
abbrev pub longest_body : ℕ
longest_body = 0x8000

-- the checksum of a body: the sum of its bytes modulo 256
abbrev pub checksum : List ℕ → ℕ
checksum body = sum body % 256

-- the frame of a body: `$`, the body, `#`, and the checksum in two hexadecimal digits
unfoldable pub framed : List ℕ → List ℕ
framed body = code "$" ∷ (body ++ code "#" ∷ hex_places 2 (checksum body))

-- two bytes write the checksum of a body in hexadecimal digits, in either case
abbrev pub is_checksum : List ℕ → ℕ → ℕ → Bool
is_checksum body high low = option_map_or (λ n. n == checksum body) (hex_number (high ∷ low ∷ [])) false

-- the frame of a body with these two bytes for its checksum: damaged, if the body is too long or the checksum is wrong
abbrev pub frame_of : List ℕ → ℕ → ℕ → Frame
frame_of body high low = if nat_le (length body) longest_body && is_checksum body high low then Packet body else Damaged

-- where an input stands: between packets, after `$` and some bytes of a body, after the `#`, after the first digit
pub data Place : Type 0 where
  Between : Place
  InBody : List ℕ → Place
  AfterBody : List ℕ → Place
  AfterDigit : List ℕ → ℕ → Place

-- the place after a byte other than `$`
abbrev pub moved : Place → ℕ → Place
moved Between b = Between
moved (InBody body) b = if b == code "#" then AfterBody body else InBody (body ++ b ∷ [])
moved (AfterBody body) b = AfterDigit body b
moved (AfterDigit body high) b = Between

-- the place after a byte: `$` begins a packet wherever it stands
abbrev pub after : Place → ℕ → Place
after p b = if b == code "$" then InBody [] else moved p b

-- the frame that a byte other than `$` completes: `-` between packets asks for the last reply again
abbrev pub ended : Place → ℕ → Option Frame
ended Between b = if b == code "-" then Some Resend else None
ended (InBody body) b = None
ended (AfterBody body) b = None
ended (AfterDigit body high) b = Some (frame_of body high b)

-- the frame that a byte completes
abbrev pub completed : Place → ℕ → Option Frame
completed p b = if b == code "$" then None else ended p b

-- the place after more bytes
unfoldable pub place_from : Place → List ℕ → Place
place_from p [] = p
place_from p (b ∷ bs) = place_from (after p b) bs

-- the frames that bytes complete, if an input stands at this place before them
unfoldable pub frames_from : Place → List ℕ → List Frame
frames_from p [] = []
frames_from p (b ∷ bs) = option_to_list (completed p b) ++ frames_from (after p b) bs

-- the frames of an input
abbrev pub frames : List ℕ → List Frame
frames input = frames_from Between input

-- what a reader keeps of a place: of a body that is too long, the first bytes and one more
abbrev pub kept : Place → Place
kept Between = Between
kept (InBody body) = InBody (take (longest_body + 1) body)
kept (AfterBody body) = AfterBody (take (longest_body + 1) body)
kept (AfterDigit body high) = AfterDigit (take (longest_body + 1) body) high

-- where a reader stands after these bytes
abbrev pub reader_after : List ℕ → Place
reader_after input = kept (place_from Between input)

-- the bytes with which a frame is answered at once: `+` for a packet, `-` for a damaged one
abbrev pub acknowledgement : Frame → List ℕ
acknowledgement (Packet body) = code "+" ∷ []
acknowledgement Damaged = code "-" ∷ []
acknowledgement Resend = []
