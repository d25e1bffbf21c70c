-- What the link asks of a module.
use Rattle.std.specs.Prelude.{◌≤◌, length}
use Rattle.std.specs.List.{All}
use Rattle.elf_read.specs.declared.module.Module.{Module}
use Rattle.elf_read.specs.Modules.{IsModule, IsRel}
use Rattle.module_image.specs.Layout.{IsSectRoom, IsSymRoom, most_entries}

-- its sections and common symbols have alignments and sizes within the limits, each relocation is inside its section
-- and has its symbol, and 32 bits number the entries of each list
pub record IsLinkable (m : Module) : Type 0 where
  pub few_sections : length m.sections ≤ most_entries
  pub few_symbols : length m.symbols ≤ most_entries
  pub few_relocs : length m.relocs ≤ most_entries
  pub sections : All IsSectRoom m.sections
  pub symbols : All IsSymRoom m.symbols
  pub relocs : All (IsRel m.sections m.symbols) m.relocs

-- the module of a file can be linked
abbrev pub LinkableLaw : Type 0
LinkableLaw = (m : Module) → IsModule m → IsLinkable m
