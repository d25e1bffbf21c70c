-- Where the segments of several modules may be, and the first one that is wrongly placed.
use Rattle.std.specs.Prelude.{ℕ, ◌+◌, Bool, ◌==◌, ◌&&◌, nat_le, if◌then◌else◌, List, [], ◌∷◌, ◌++◌, Option, Some, None}
use Rattle.wind_base.specs.Limits.{pool_start, ram_bytes}
use Rattle.mem_partition.specs.declared.block.Block.{Block}
use Rattle.mem_partition.specs.declared.block.Class.TheVariants.{Kernel}
use Rattle.mem_partition.specs.Place.{fits}
use Rattle.module_image.specs.declared.segments.Need.{Need}
use Rattle.module_image.specs.declared.segments.Needs.{Needs}
use Rattle.module_image.specs.declared.segments.Places.{Places}
use Rattle.module_image.specs.declared.segments.SegmentKind.{SegmentKind}
use Rattle.module_image.specs.declared.segments.SegmentKind.TheVariants.{Text, Data, Bss}
use Rattle.module_image.specs.Needs.{needs_of}
use Rattle.module_image.specs.Link.{Load}

-- a segment is at a multiple of its alignment, inside the pool, and overlaps no taken block; an empty one has address 0
abbrev pub is_placed : List Block → Need → ℕ → Bool
is_placed taken n at = if n.size == 0 then at == 0 else nat_le pool_start at && fits ram_bytes taken n.size n.align at

-- the taken blocks with that of a segment; an empty one takes none
abbrev pub with_segment : List Block → Need → ℕ → List Block
with_segment taken n at =
    if n.size == 0 then taken else taken ++ record { addr = at; size = n.size; class = Kernel } ∷ []

abbrev pub with_text : List Block → Needs → Places → List Block
with_text taken z at = with_segment taken z.text at.text

abbrev pub with_data : List Block → Needs → Places → List Block
with_data taken z at = with_segment (with_text taken z at) z.«data» at.«data»

-- and with those of a module
abbrev pub with_module : List Block → Needs → Places → List Block
with_module taken z at = with_segment (with_data taken z at) z.bss at.bss

-- the module's first segment that is wrongly placed
unfoldable pub wrong_segment : List Block → Needs → Places → Option SegmentKind
wrong_segment taken z at =
    if is_placed taken z.text at.text then
    (if is_placed (with_text taken z at) z.«data» at.«data» then
    (if is_placed (with_data taken z at) z.bss at.bss then None else Some Bss) else Some Data) else Some Text

-- the segment of the module with a number, or what comes after
abbrev pub segment_or : ℕ → Option SegmentKind → Option (ℕ × SegmentKind) → Option (ℕ × SegmentKind)
segment_or n (Some kind) after = Some (n, kind)
segment_or n None after = after

-- the first segment of all that is wrongly placed, with the number of its module; the first module has number n
abbrev pub wrong_place : ℕ → List Block → List Load → Option (ℕ × SegmentKind)
wrong_place n taken [] = None
wrong_place n taken (l ∷ ls) =
    segment_or n (wrong_segment taken (needs_of l.body) l.at)
    (wrong_place (n + 1) (with_module taken (needs_of l.body) l.at) ls)

-- the blocks that modules take after these
abbrev pub taken_by : List Block → List Load → List Block
taken_by taken [] = taken
taken_by taken (l ∷ ls) = taken_by (with_module taken (needs_of l.body) l.at) ls
