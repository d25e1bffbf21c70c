-- The blocks of a module's segments.
use Rattle.std.specs.Prelude.{ℕ, min, ◌==◌, if◌then◌else◌, Result, Ok, Err}
use Rattle.wind_base.specs.Limits.{greatest_word}
use Rattle.wind_base.specs.declared.board_kind.Side.{Side}
use Rattle.mem_partition.specs.declared.block.Class.TheVariants.{Kernel}
use Rattle.mem_partition.specs.declared.block.PartErr.{PartErr}
use Rattle.mem_partition.specs.State.{PartState, alloc_on, after_alloc_on, after_free}
use Rattle.module_image.specs.declared.segments.Need.{Need}
use Rattle.module_image.specs.declared.segments.Needs.{Needs}
use Rattle.module_image.specs.declared.segments.Places.{Places}

-- where a segment is placed, on this side of the pool: one of size 0 has no block; one whose size exceeds a word is
-- refused as the greatest word would be
abbrev pub place_seg : Side → PartState → Need → Result ℕ PartErr
place_seg side s n = if n.size == 0 then Ok 0 else alloc_on side s (min n.size greatest_word) n.align

-- the partition with the segment's block
abbrev pub with_seg : Side → PartState → Need → PartState
with_seg side s n = if n.size == 0 then s else after_alloc_on side s (min n.size greatest_word) n.align Kernel

-- and without it again
abbrev pub without_seg : PartState → Need → ℕ → PartState
without_seg s n at = if n.size == 0 then s else after_free s at Kernel

-- blocks are taken in the order text, data, bss
abbrev pub with_text : Side → PartState → Needs → PartState
with_text side s z = with_seg side s z.text

abbrev pub with_data : Side → PartState → Needs → PartState
with_data side s z = with_seg side (with_text side s z) z.«data»

abbrev pub with_needs : Side → PartState → Needs → PartState
with_needs side s z = with_seg side (with_data side s z) z.bss

-- all three blocks freed
abbrev pub without_needs : PartState → Needs → Places → PartState
without_needs s z at = without_seg (without_seg (without_seg s z.bss at.bss) z.«data» at.«data») z.text at.text

abbrev pub places_by : Result ℕ PartErr → Result ℕ PartErr → Result ℕ PartErr → Result Places PartErr
places_by (Err e) v b = Err e
places_by (Ok t) (Err e) b = Err e
places_by (Ok t) (Ok v) (Err e) = Err e
places_by (Ok t) (Ok v) (Ok b) = Ok (record { text = t; «data» = v; bss = b })

-- the places of the segments, or the first refusal
unfoldable pub places_of : Side → PartState → Needs → Result Places PartErr
places_of side s z =
    places_by (place_seg side s z.text) (place_seg side (with_text side s z) z.«data»)
    (place_seg side (with_data side s z) z.bss)

-- the partition after these places were allocated
abbrev pub part_after : Side → PartState → Needs → Result Places PartErr → PartState
part_after side s z (Ok at) = with_needs side s z
part_after side s z (Err e) = s
