use Rattle.std.proofs.Common.{◌≡◌, ◌++◌, drop}
use Rattle.std.specs.List.{flat_map}
use Rattle.elf_build.specs.File.{sym_name}
use Rattle.elf_build.proofs.name_tables.put_sym_names.Given as goal

abbrev pub invariant-loop-s : goal.invariant-loop-s
invariant-loop-s l = l.out.items ++ flat_map sym_name (drop l.s-index l.symbols) ≡ l.fn.out.items ++ flat_map sym_name l.symbols
