use Rattle.std.proofs.Common.{◌≡◌, ◌++◌, drop}
use Rattle.std.specs.List.{flat_map}
use Rattle.elf_build.specs.File.{sect_name}
use Rattle.elf_build.proofs.name_tables.put_sect_names.Given as goal

abbrev pub invariant-loop-s : goal.invariant-loop-s
invariant-loop-s l = l.out.items ++ flat_map sect_name (drop l.s-index l.sections) ≡ l.fn.out.items ++ flat_map sect_name l.sections
