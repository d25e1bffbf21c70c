-- The bytes of segments at their addresses.
use Rattle.std.specs.Prelude.{ℕ, ◌+◌, ◌-◌, ◌^◌, Bool, ◌==◌, ◌&&◌, nat_le, nat_lt, min, max, if◌then◌else◌, List, [], ◌∷◌, ◌++◌, length, map, slice_index}
use Rattle.std.specs.List.{range_with_len}
use Rattle.module_image.specs.declared.segments.Places.{Places}
use Rattle.module_image.specs.Image.{Images}
use Rattle.module_image.specs.Link.{Load}

-- a segment: its address, and its bytes
abbrev pub Segment : Type 0
Segment = ℕ × List ℕ

-- the segments of a module, and those of several
abbrev pub segments_of : Places → Images → List Segment
segments_of at i = (at.text, i.text) ∷ (at.«data», i.«data») ∷ (at.bss, i.bss) ∷ []

abbrev pub segments : List Load → List Images → List Segment
segments [] is = []
segments (l ∷ ls) [] = []
segments (l ∷ ls) (i ∷ is) = segments_of l.at i ++ segments ls is

-- ---- how far they reach
-- the least of an address and those of the segments that have bytes
abbrev pub lowest_from : ℕ → List Segment → ℕ
lowest_from low [] = low
lowest_from low (s ∷ ss) = lowest_from (if length s.1 == 0 then low else min low s.0) ss

-- the greatest of an end and those of the segments that have bytes
abbrev pub highest_from : ℕ → List Segment → ℕ
highest_from high [] = high
highest_from high (s ∷ ss) = highest_from (if length s.1 == 0 then high else max high (s.0 + length s.1)) ss

-- the least address of all; 2^32 if no segment has bytes
abbrev pub lowest : List Segment → ℕ
lowest ss = lowest_from (2 ^ 32) ss

-- the end of the last segment; 0 if no segment has bytes
abbrev pub highest : List Segment → ℕ
highest ss = highest_from 0 ss

-- ---- the image
-- the address is one of the segment's
abbrev pub covers : Segment → ℕ → Bool
covers s a = nat_le s.0 a && nat_lt a (s.0 + length s.1)

-- the byte at an address, which is `byte` unless a segment covers the address; a later segment counts before an earlier
abbrev pub byte_over : ℕ → List Segment → ℕ → ℕ
byte_over byte [] a = byte
byte_over byte (s ∷ ss) a = byte_over (if covers s a then slice_index s.1 (a - s.0) else byte) ss a

-- the byte at an address: that of the segment that covers it, or else zero
abbrev pub byte_at : List Segment → ℕ → ℕ
byte_at ss a = byte_over 0 ss a

-- the bytes from the least address of any segment to the end of the last one
unfoldable pub flat : List Segment → List ℕ
flat ss = map (byte_at ss) (range_with_len (lowest ss) (highest ss - lowest ss))
