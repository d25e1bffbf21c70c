-- Where the sections of a module are.
use Rattle.std.specs.Prelude.{◌≡◌, ℕ, ◌+◌, ◌<◌, ◌≤◌, ◌%◌, length, slice_index, slice_index_or}
use Rattle.elf_read.specs.declared.module.Module.{Module}
use Rattle.elf_read.specs.declared.module.Sect.{Sect}
use Rattle.elf_read.specs.Modules.{size_of}
use Rattle.module_image.specs.Linkable.{IsLinkable}
use Rattle.module_image.specs.declared.segments.Places.{Places}
use Rattle.module_image.specs.Layout.{segment_of, place_of, end_in, ends_of, addresses}
use Rattle.module_image.specs.Image.{body_bytes, laid}

-- the places as if each segment began at address 0
abbrev pub nowhere : Places
nowhere = record { text = 0; «data» = 0; bss = 0 }

-- the offset of section number i in its segment
abbrev pub offset_at : Module → ℕ → ℕ
offset_at m i = slice_index (addresses m nowhere) i

-- section number i, which is s, is in its segment
pub record LiesIn (m : Module) (i : ℕ) (s : Sect) : Type 0 where
  -- its address is the address of the segment plus the offset, wherever the segment is placed
  pub address : (at : Places) → slice_index (addresses m at) i ≡ place_of at (segment_of s) + offset_at m i
  -- it begins at a multiple of its alignment, and all its bytes are in the segment
  pub multiple : offset_at m i % s.align ≡ 0
  pub within : offset_at m i + size_of s.body ≤ end_in (ends_of m) (segment_of s)
  -- before relocation, the bytes of the segment there are those of the section
  pub held : (k : ℕ) → k < size_of s.body
      → slice_index (laid (segment_of s) 0 m.sections) (offset_at m i + k) ≡ slice_index (body_bytes s.body) k

-- the layout of a module
pub record LayoutLaw : Type 0 where
  pub each : (m : Module) (i : ℕ) (d : Sect)
      → IsLinkable m → i < length m.sections → LiesIn m i (slice_index_or m.sections i d)
  -- of two sections in the same segment, the earlier ends before the later begins
  pub order : (m : Module) (i j : ℕ) (d : Sect) → IsLinkable m → i < j → j < length m.sections
      → segment_of (slice_index_or m.sections i d) ≡ segment_of (slice_index_or m.sections j d)
      → offset_at m i + size_of (slice_index_or m.sections i d).body ≤ offset_at m j
