-- What follows from the definitions alone.
use Rattle.std.specs.Prelude.{◌≡◌, ℕ, ◌+◌, ◌<◌, ◌^◌, List, length}
use Rattle.symbol_table.specs.declared.symbol.Symbol.{Symbol}
use Rattle.elf_read.specs.declared.module.Module.{Module}
use Rattle.module_image.specs.Linkable.{IsLinkable}
use Rattle.elf_read.specs.Tables.{width}
use Rattle.elf_read.specs.Rules.{is_alignment}
use Rattle.mem_partition.specs.State.{is_align}
use Rattle.reloc_link.specs.Types.{width_of}
use Rattle.module_image.specs.declared.segments.Needs.{Needs}
use Rattle.module_image.specs.declared.segments.Places.{Places}
use Rattle.module_image.specs.Needs.{needs_of}
use Rattle.module_image.specs.Exports.{exports, export_count}
use Rattle.module_image.specs.Image.{Images, image}

-- relocation and the partition accept whatever an object file may say
pub record AgreementLaw : Type 0 where
  -- the reader of files and relocation agree on the width of each relocation type
  pub widths : (kind : ℕ) → width kind ≡ width_of kind
  -- the alignments that a file may have are those that the partition permits
  pub alignments : (n : ℕ) → is_alignment n ≡ is_align n

-- how many symbols a load adds doesn't depend on its places or its id
abbrev pub CountLaw : Type 0
CountLaw = (m : Module) (mode id : ℕ) (at : Places) → length (exports m mode at id) ≡ export_count mode m.symbols

-- each segment has as many bytes as are needed
pub record HasSizes (i : Images) (z : Needs) : Type 0 where
  pub text : length i.text ≡ z.text.size
  pub «data» : length i.«data» ≡ z.«data».size
  pub bss : length i.bss ≡ z.bss.size

-- the image of a module has the sizes that it needs, even if a relocation is refused
abbrev pub SizeLaw : Type 0
SizeLaw =
    (m : Module) (tab : List Symbol) (at : Places) → IsLinkable m
    → (needs_of m).text.size + (needs_of m).«data».size < 2 ^ 32 → HasSizes (image m tab at) (needs_of m)
