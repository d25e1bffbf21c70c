-- The texts of a load. They are this project's own.
use Rattle.std.specs.Prelude.{ℕ, List, ◌++◌, codes}
use Rattle.std.specs.List.{flat_map}
use Rattle.std.specs.Fmt.{decimal}
use Rattle.elf_read.specs.declared.error.ElfErr.{ElfErr}
use Rattle.elf_read.specs.declared.error.ElfErr.TheVariants as elf
use Rattle.reloc_link.specs.declared.patching.RelocErr.{RelocErr}
use Rattle.reloc_link.specs.declared.patching.RelocErr.TheVariants as reloc
use Rattle.module_loader.specs.declared.module.LoadErr.{LoadErr}
use Rattle.module_loader.specs.declared.module.LoadErr.TheVariants as refusal

-- an offset in a file
abbrev pub at_offset : List ℕ → ℕ → List ℕ
at_offset words n = words ++ codes " at " ++ decimal n

-- why a file isn't accepted as an object file, with the offset
abbrev pub file_reason : ElfErr → List ℕ
file_reason (elf.Short n) = at_offset (codes "short file") n
file_reason (elf.NotElf n) = at_offset (codes "not ELF") n
file_reason (elf.NotPpc n) = at_offset (codes "not PowerPC") n
file_reason (elf.NotRel n) = at_offset (codes "not relocatable") n
file_reason (elf.BadSection n) = at_offset (codes "bad section") n
file_reason (elf.BadSymbol n) = at_offset (codes "bad symbol") n
file_reason (elf.BadReloc n) = at_offset (codes "bad relocation") n
file_reason (elf.TooMany n) = at_offset (codes "too many entries") n
file_reason elf.NoMemory = codes "out of memory"

-- why a relocation can't be made, with the relocation's number in the module
abbrev pub numbered : ℕ → List ℕ → List ℕ
numbered n words = codes "relocation " ++ decimal n ++ words

abbrev pub relocation_reason : RelocErr → List ℕ
relocation_reason (reloc.Range n) = numbered n (codes " out of range")
relocation_reason (reloc.Unaligned n) = numbered n (codes " unaligned")
relocation_reason (reloc.Unsupported n) = numbered n (codes " unsupported")

-- why a load is refused; all refusals of the partition have one text
unfoldable pub reason : LoadErr → List ℕ
reason (refusal.Elf e) = file_reason e
reason refusal.ModulesFull = codes "too many modules"
reason refusal.IdsSpent = codes "ids spent"
reason refusal.TableFull = codes "symbol table full"
reason (refusal.Part e) = codes "no room"
reason (refusal.Reloc e) = relocation_reason e
reason refusal.NoMemory = codes "out of memory"

-- the line that reports why the file with this name isn't loaded
unfoldable pub refused_text : List ℕ → List ℕ → List ℕ
refused_text name words = codes "ld: " ++ name ++ codes ": " ++ words ++ codes "\n"

-- the line that reports an undefined name
abbrev pub undefined_line : List ℕ → List ℕ
undefined_line name = codes "undefined symbol: " ++ name ++ codes "\n"

-- a line for each such name, in their order
unfoldable pub undefined_text : List (List ℕ) → List ℕ
undefined_text names = flat_map undefined_line names
