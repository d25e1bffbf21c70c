-- The memory that a module needs.
use Rattle.std.specs.Prelude.{ℕ, max, Bool, true, false, if◌then◌else◌, List, [], ◌∷◌, map}
use Rattle.mem_partition.specs.Place.{grain}
use Rattle.elf_read.specs.declared.module.Module.{Module}
use Rattle.elf_read.specs.declared.outlines.Shape.{Shape}
use Rattle.elf_read.specs.Outline.{shape_of}
use Rattle.elf_read.specs.declared.module.Sym.{Sym}
use Rattle.elf_read.specs.declared.module.SymPlace.{SymPlace}
use Rattle.elf_read.specs.declared.module.SymPlace.TheVariants.{Common}
use Rattle.module_image.specs.declared.segments.SegmentKind.{SegmentKind}
use Rattle.module_image.specs.declared.segments.SegmentKind.TheVariants.{Text, Data, Bss}
use Rattle.module_image.specs.declared.segments.Needs.{Needs}
use Rattle.module_image.specs.Layout.{segment_in, ends_by, no_ends, commons_end}

-- the two segments are the same
abbrev pub same_segment : SegmentKind → SegmentKind → Bool
same_segment Text Text = true
same_segment Data Data = true
same_segment Bss Bss = true
same_segment _ _ = false

-- the greatest of this alignment and those of a segment's sections; sections without bytes count too
abbrev pub align_by : SegmentKind → ℕ → List Shape → ℕ
align_by kind align [] = align
align_by kind align (s ∷ ss) =
    align_by kind (if same_segment kind (segment_in s) then max align s.align else align) ss

-- and those of the common symbols
abbrev pub align_after : ℕ → Sym → SymPlace → ℕ
align_after align y Common = max align y.value
align_after align y _ = align

abbrev pub common_align : ℕ → List Sym → ℕ
common_align align [] = align
common_align align (y ∷ ys) = common_align (align_after align y y.place) ys

-- the size and alignment that each segment needs for sections of these shapes and these symbols
abbrev pub needs_by : List Shape → List Sym → Needs
needs_by shapes symbols = record {
  text = record { size = (ends_by no_ends shapes).text; align = align_by Text grain shapes };
  «data» = record { size = (ends_by no_ends shapes).«data»; align = align_by Data grain shapes };
  bss = record {
    size = commons_end (ends_by no_ends shapes).bss symbols;
    align = common_align (align_by Bss grain shapes) symbols;
  };
}

-- what a module needs
unfoldable pub needs_of : Module → Needs
needs_of m = needs_by (map shape_of m.sections) m.symbols
