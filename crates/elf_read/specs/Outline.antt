-- The outline of a module: the module without the bytes of its sections and without relocations.
use Rattle.std.specs.Prelude.{Bool, true, false, map}
use Rattle.elf_read.specs.declared.module.Body.{Body}
use Rattle.elf_read.specs.declared.module.Body.TheVariants.{Bytes, Size}
use Rattle.elf_read.specs.declared.module.Sect.{Sect}
use Rattle.elf_read.specs.declared.module.Module.{Module}
use Rattle.elf_read.specs.declared.outlines.Shape.{Shape}
use Rattle.elf_read.specs.declared.outlines.Outline.{Outline}
use Rattle.elf_read.specs.Modules.{size_of}

-- the file holds the bytes of the section
abbrev pub has_bytes : Body → Bool
has_bytes (Bytes bs) = true
has_bytes (Size n) = false

-- the shape of a section in memory
abbrev pub shape_of : Sect → Shape
shape_of s = record { flags = s.flags; align = s.align; size = size_of s.body; has_bytes = has_bytes s.body }

-- the shapes of the sections, and the symbols
abbrev pub outline_of : Module → Outline
outline_of m = record { shapes = map shape_of m.sections; symbols = m.symbols }
