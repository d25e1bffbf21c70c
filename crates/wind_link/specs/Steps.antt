-- The steps of a link.
use Rattle.std.specs.Prelude.{◌≡◌, ℕ, ◌+◌, ◌-◌, ◌≤◌, ◌<◌, Bool, false, min, max, List, [], ◌∷◌, ◌++◌, length, map, take, drop, replicate, Option, Some}
use Rattle.mem_partition.specs.declared.block.Block.{Block}
use Rattle.module_image.specs.declared.segments.Needs.{Needs}
use Rattle.module_image.specs.declared.segments.SegmentKind.{SegmentKind}
use Rattle.module_image.specs.declared.segments.Places.{Places}
use Rattle.module_image.specs.Link.{Load}
use Rattle.wind_link.specs.declared.linking.LinkErr.{LinkErr}
use Rattle.wind_link.specs.declared.linking.LinkErr.TheVariants as refusal
use Rattle.wind_link.specs.declared.linking.Placed.{Placed}
use Rattle.module_image.specs.declared.making.PrepareErr.{PrepareErr}
use Rattle.module_image.specs.declared.making.PrepareErr.TheVariants as making
use Rattle.wind_link.specs.Linking.{load_of, number_of}
use Rattle.wind_link.specs.declared.placing.PlaceErr.{PlaceErr}
use Rattle.wind_link.specs.declared.placing.PlaceErr.TheVariants as errors
use Rattle.wind_link.specs.Flat.{Segment}

-- no segment has alignment 0
pub record AreAligned (z : Needs) : Type 0 where
  pub text : 1 ≤ z.text.align
  pub «data» : 1 ≤ z.«data».align
  pub bss : 1 ≤ z.bss.align

-- an error is this segment, or says that memory ran out
abbrev pub Tells : Option SegmentKind → PlaceErr → Type 0
Tells wrong (errors.Wrong kind) = wrong ≡ Some kind
Tells wrong errors.NoMemory = Unit {0}

-- an error is this kind of segment, which isn't placed, or says that memory ran out
abbrev pub IsPlacedOr : SegmentKind → Bool → PlaceErr → Type 0
IsPlacedOr kind placed (errors.Wrong other) = (other ≡ kind) × (placed ≡ false)
IsPlacedOr kind placed errors.NoMemory = Unit {0}

-- ---- the image
-- the least of an address and those of blocks, and the greatest of an end and those of blocks
abbrev pub low_after : ℕ → List Block → ℕ
low_after low [] = low
low_after low (b ∷ bs) = low_after (min low b.addr) bs

abbrev pub high_after : ℕ → List Block → ℕ
high_after high [] = high
high_after high (b ∷ bs) = high_after (max high (b.addr + b.size)) bs

-- the bytes from an address `low` on, with those of a segment over them, and with those of several in order
unfoldable pub with_one : ℕ → List ℕ → Segment → List ℕ
with_one low bytes s = take (s.0 - low) bytes ++ (s.1 ++ drop (s.0 - low + length s.1) bytes)

abbrev pub with_all : ℕ → List ℕ → List Segment → List ℕ
with_all low bytes [] = bytes
with_all low bytes (s ∷ ss) = with_all low (with_one low bytes s) ss

-- a segment that has bytes is inside the n bytes from an address `low` on
abbrev pub IsInside : ℕ → ℕ → ℕ → ℕ → Type 0
IsInside low n size at = 0 < size → (low ≤ at) × (at + size ≤ low + n)

pub record AreInside (low n : ℕ) (z : Needs) (at : Places) : Type 0 where
  pub text : IsInside low n z.text.size at.text
  pub «data» : IsInside low n z.«data».size at.«data»
  pub bss : IsInside low n z.bss.size at.bss

-- the segments whose text and data are these bytes
abbrev pub cut_segments : Needs → Places → List ℕ → List Segment
cut_segments z at bytes =
    (at.text, take z.text.size bytes) ∷ (at.«data», drop z.text.size bytes) ∷ (at.bss, replicate z.bss.size 0) ∷ []

-- the loads of placed modules
abbrev pub loads : List Placed → List Load
loads ps = map load_of ps

-- an error is this wrongly placed segment of the module with this number, or says that memory ran out
abbrev pub TellsPlace : Option (ℕ × SegmentKind) → LinkErr → Type 0
TellsPlace wrong (refusal.BadPlace n kind) = wrong ≡ Some (n, kind)
TellsPlace wrong (refusal.BadReloc n k e) = ⊥
TellsPlace wrong refusal.NoMemory = Unit {0}

-- the number of the module that an error names
abbrev pub index_of : LinkErr → ℕ
index_of (refusal.BadPlace n kind) = n
index_of (refusal.BadReloc n k e) = n
index_of refusal.NoMemory = 0

-- why the module with this number isn't linked
abbrev pub refusal_of : ℕ → PrepareErr → LinkErr
refusal_of n (making.Reloc e) = refusal.BadReloc n (number_of e) e
refusal_of n making.NoMemory = refusal.NoMemory
