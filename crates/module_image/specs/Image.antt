-- The bytes that a load writes.
use Rattle.std.specs.Prelude.{ℕ, ◌+◌, ◌-◌, ◌%◌, ◌^◌, if◌then◌else◌, List, [], ◌∷◌, ◌++◌, map, take, drop, slice_index, Option, Some, None, replicate}
use Rattle.mem_partition.specs.Place.{aligned}
use Rattle.reloc_link.specs.declared.patching.Binding.{Binding}
use Rattle.reloc_link.specs.declared.patching.RelocErr.{RelocErr}
use Rattle.reloc_link.specs.Patched.{Patched, patched}
use Rattle.symbol_table.specs.declared.symbol.Symbol.{Symbol}
use Rattle.elf_read.specs.declared.module.Body.{Body}
use Rattle.elf_read.specs.declared.module.Body.TheVariants as body
use Rattle.elf_read.specs.declared.module.Rel.{Rel}
use Rattle.elf_read.specs.declared.module.Sect.{Sect}
use Rattle.elf_read.specs.declared.module.Sym.{Sym}
use Rattle.elf_read.specs.declared.module.Module.{Module}
use Rattle.elf_read.specs.Modules.{size_of}
use Rattle.module_image.specs.declared.segments.SegmentKind.{SegmentKind}
use Rattle.module_image.specs.declared.segments.SegmentKind.TheVariants.{Text, Data}
use Rattle.module_image.specs.declared.segments.Places.{Places}
use Rattle.module_image.specs.declared.segments.Ends.{Ends}
use Rattle.module_image.specs.Layout.{segment_of, addresses, ends_of, commons_end, values}
use Rattle.module_image.specs.Needs.{same_segment}
use Rattle.module_image.specs.Binding.{bind}

-- ---- symbols
-- the value of a symbol: its own, if the module defines it, else what f says of its name
abbrev pub meaning_by : (List ℕ → ℕ) → List ℕ → Option ℕ → ℕ
meaning_by f name (Some value) = value
meaning_by f name None = f name

abbrev pub meanings_from : (List ℕ → ℕ) → List Sym → List (Option ℕ) → List ℕ
meanings_from f [] vs = []
meanings_from f (y ∷ ys) [] = []
meanings_from f (y ∷ ys) (v ∷ vs) = meaning_by f y.name v ∷ meanings_from f ys vs

-- the values of the symbols, by number; number 0 stands for none and has value 0
abbrev pub meanings : Module → (List ℕ → ℕ) → Places → List ℕ
meanings m f at = 0 ∷ meanings_from f m.symbols (values m at)

-- ---- bytes before relocation
-- what a section holds
abbrev pub body_bytes : Body → List ℕ
body_bytes (body.Bytes b) = b
body_bytes (body.Size n) = replicate n 0

-- zeros up to the next multiple of the section's alignment, and the section
abbrev pub padded : ℕ → Sect → List ℕ
padded from s = replicate (aligned from s.align - from) 0 ++ body_bytes s.body

-- the bytes of a segment from an offset on
abbrev pub laid : SegmentKind → ℕ → List Sect → List ℕ
laid kind from [] = []
laid kind from (s ∷ ss) =
    if same_segment kind (segment_of s)
    then padded from s ++ laid kind (aligned from s.align + size_of s.body) ss
    else laid kind from ss

-- text, followed by data
abbrev pub laid_both : Module → List ℕ
laid_both m = laid Text 0 m.sections ++ laid Data 0 m.sections

-- where the segments begin in these bytes; bss has none there
abbrev pub joined : Ends → Places
joined ends = record { text = 0; «data» = ends.text; bss = ends.text + ends.«data» }

-- ---- relocation
-- a relocation whose section begins here in the bytes and has this address, and whose symbol has this value
abbrev pub binding_of : List ℕ → List ℕ → List ℕ → Rel → Binding
binding_of places at means r = record {
  offset = (slice_index places r.section + r.offset) % 2 ^ 32;
  kind = r.kind;
  s = slice_index means r.symbol;
  a = r.addend;
  p = (slice_index at r.section + r.offset) % 2 ^ 32;
}

-- the bytes after every relocation in order, if the sections have these addresses and the symbols these values
unfoldable pub patched_of : Module → List ℕ → List ℕ → Patched
patched_of m own means =
    patched 0 (laid_both m) (map (binding_of (addresses m (joined (ends_of m))) own means) m.relocs)

-- ---- the image
-- the bytes of each segment, and the first refused relocation
pub record Images : Type 0 where
  pub text : List ℕ
  pub «data» : List ℕ
  pub bss : List ℕ
  pub fault : Option RelocErr

-- the bytes cut into text and data, together with those of bss
abbrev pub cut_at : ℕ → List ℕ → Patched → Images
cut_at n bss done = record { text = take n done.image; «data» = drop n done.image; bss = bss; fault = done.fault }

-- what a load at these places writes, if f gives the values of the names that the module doesn't define: section
-- bytes after
-- every relocation in order, and zeros elsewhere
unfoldable pub image_by : Module → (List ℕ → ℕ) → Places → Images
image_by m f at =
    cut_at (ends_of m).text (replicate (commons_end (ends_of m).bss m.symbols) 0)
    (patched_of m (addresses m at) (meanings m f at))

-- what a load writes that finds these symbols
unfoldable pub image : Module → List Symbol → Places → Images
image m tab at = image_by m (bind tab) at
