-- A built file can be read back.
use Rattle.elf_read.specs.declared.module.Module.{Module}
use Rattle.elf_read.specs.Contents.{ModuleOf}
use Rattle.elf_build.specs.Buildable.{Buildable}
use Rattle.elf_build.specs.File.{file_of}

-- no rule refuses the file of a buildable module, and reading it gives that module
abbrev pub ReadsBack : Type 0
ReadsBack = (m : Module) → Buildable m → ModuleOf (file_of m) m
