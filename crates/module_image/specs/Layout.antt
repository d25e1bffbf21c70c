-- Where the parts of a module are in its three segments. Sections come first, then common symbols, each at the next
-- multiple of its alignment.
use Rattle.std.specs.Prelude.{ℕ, ◌+◌, ◌%◌, ◌^◌, ◌≤◌, ◌==◌, if◌then◌else◌, bit_and, Bool, true, false, List, [], ◌∷◌, map, slice_index, Option, Some, None}
use Rattle.wind_base.specs.Limits.{most_section_bytes}
use Rattle.mem_partition.specs.Place.{aligned, greatest_align}
use Rattle.elf_read.specs.declared.module.Body.{Body}
use Rattle.elf_read.specs.declared.module.Sect.{Sect}
use Rattle.elf_read.specs.declared.module.Sym.{Sym}
use Rattle.elf_read.specs.declared.module.SymPlace.{SymPlace}
use Rattle.elf_read.specs.declared.module.SymPlace.TheVariants.{Undefined, Absolute, Common, Section, Elsewhere}
use Rattle.elf_read.specs.declared.module.Module.{Module}
use Rattle.elf_read.specs.declared.outlines.Shape.{Shape}
use Rattle.elf_read.specs.Outline.{has_bytes, shape_of}
use Rattle.module_image.specs.declared.segments.SegmentKind.{SegmentKind}
use Rattle.module_image.specs.declared.segments.SegmentKind.TheVariants.{Text, Data, Bss}
use Rattle.module_image.specs.declared.segments.Places.{Places}
use Rattle.module_image.specs.declared.segments.Ends.{Ends}

-- ---- segments
-- sh_flags: SHF_WRITE, the section is writable; SHF_EXECINSTR, it holds code (System V ABI, edition 4.1)
abbrev pub shf_write : ℕ
shf_write = 1

abbrev pub shf_execinstr : ℕ
shf_execinstr = 4

-- a section with bytes is in text, or in data if it is writable; one without bytes is in bss
abbrev pub segment_where : Bool → ℕ → SegmentKind
segment_where true flags = if bit_and flags shf_write == shf_write then Data else Text
segment_where false flags = Bss

abbrev pub segment_by : Body → ℕ → SegmentKind
segment_by b flags = segment_where (has_bytes b) flags

-- the segment of a section, by its shape and by itself
abbrev pub segment_in : Shape → SegmentKind
segment_in s = segment_where s.has_bytes s.flags

abbrev pub segment_of : Sect → SegmentKind
segment_of s = segment_in (shape_of s)

-- where a segment begins
abbrev pub place_of : Places → SegmentKind → ℕ
place_of at Text = at.text
place_of at Data = at.«data»
place_of at Bss = at.bss

-- how many bytes of a segment are used
abbrev pub end_in : Ends → SegmentKind → ℕ
end_in ends Text = ends.text
end_in ends Data = ends.«data»
end_in ends Bss = ends.bss

abbrev pub with_end : Ends → SegmentKind → ℕ → Ends
with_end ends Text n = record ends { text = n }
with_end ends Data n = record ends { «data» = n }
with_end ends Bss n = record ends { bss = n }

abbrev pub no_ends : Ends
no_ends = record { text = 0; «data» = 0; bss = 0 }

-- ---- sections
-- the offset of a section in its segment, by its shape and by itself
abbrev pub offset_by : Ends → Shape → ℕ
offset_by ends s = aligned (end_in ends (segment_in s)) s.align

abbrev pub offset_in : Ends → Sect → ℕ
offset_in ends s = offset_by ends (shape_of s)

-- the ends of the segments after a section, by its shape and by itself
abbrev pub after_shape : Ends → Shape → Ends
after_shape ends s = with_end ends (segment_in s) (offset_by ends s + s.size)

abbrev pub after_section : Ends → Sect → Ends
after_section ends s = after_shape ends (shape_of s)

-- and after all of them
abbrev pub ends_by : Ends → List Shape → Ends
ends_by ends [] = ends
ends_by ends (s ∷ ss) = ends_by (after_shape ends s) ss

abbrev pub ends_from : Ends → List Sect → Ends
ends_from ends ss = ends_by ends (map shape_of ss)

abbrev pub ends_of : Module → Ends
ends_of m = ends_from no_ends m.sections

-- the addresses of the sections
abbrev pub addresses_from : Places → Ends → List Sect → List ℕ
addresses_from at ends [] = []
addresses_from at ends (s ∷ ss) =
    (place_of at (segment_of s) + offset_in ends s) ∷ addresses_from at (after_section ends s) ss

unfoldable pub addresses : Module → Places → List ℕ
addresses m at = addresses_from at no_ends m.sections

-- ---- symbols
-- the end of bss after a symbol; the alignment of a common symbol is its value
abbrev pub after_symbol : ℕ → Sym → SymPlace → ℕ
after_symbol end y Common = aligned end y.value + y.size
after_symbol end y _ = end

-- and after all symbols
abbrev pub commons_end : ℕ → List Sym → ℕ
commons_end end [] = end
commons_end end (y ∷ ys) = commons_end (after_symbol end y y.place) ys

-- the value of a symbol that the module defines, if its sections have these addresses
abbrev pub value_by : List ℕ → Places → ℕ → Sym → SymPlace → Option ℕ
value_by places at end y Undefined = None
value_by places at end y Elsewhere = None
value_by places at end y Absolute = Some y.value
value_by places at end y Common = Some ((at.bss + aligned end y.value) % 2 ^ 32)
value_by places at end y (Section n) = Some ((slice_index places n + y.value) % 2 ^ 32)

abbrev pub value_in : List ℕ → Places → ℕ → Sym → Option ℕ
value_in places at end y = value_by places at end y y.place

-- the values of the symbols, in order
abbrev pub values_from : List ℕ → Places → ℕ → List Sym → List (Option ℕ)
values_from places at end [] = []
values_from places at end (y ∷ ys) =
    value_in places at end y ∷ values_from places at (after_symbol end y y.place) ys

unfoldable pub values : Module → Places → List (Option ℕ)
values m at = values_from (addresses m at) at (ends_of m).bss m.symbols

-- ---- bounds
-- the alignment and size of a section or a common symbol are within their limits
pub record IsRoom (align size : ℕ) : Type 0 where
  pub least : 1 ≤ align
  pub greatest : align ≤ greatest_align
  pub short : size ≤ most_section_bytes

abbrev pub IsShapeRoom : Shape → Type 0
IsShapeRoom s = IsRoom s.align s.size

abbrev pub IsSectRoom : Sect → Type 0
IsSectRoom s = IsShapeRoom (shape_of s)

abbrev pub IsCommonRoom : SymPlace → Sym → Type 0
IsCommonRoom Common y = IsRoom y.value y.size
IsCommonRoom _ y = Unit {0}

abbrev pub IsSymRoom : Sym → Type 0
IsSymRoom y = IsCommonRoom y.place y

-- the most sections, symbols or relocations of a module: 32 bits number them
abbrev pub most_entries : ℕ
most_entries = 2 ^ 32

-- the most bytes that one section or common symbol adds to a segment
abbrev pub longest_step : ℕ
longest_step = most_section_bytes + greatest_align

-- no segment ends after n
pub record AreWithin (ends : Ends) (n : ℕ) : Type 0 where
  pub text : ends.text ≤ n
  pub «data» : ends.«data» ≤ n
  pub bss : ends.bss ≤ n
