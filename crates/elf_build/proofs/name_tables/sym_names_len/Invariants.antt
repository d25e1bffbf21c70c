use Rattle.std.proofs.Common.{◌≡◌, ◌+◌, ◌*◌, ◌≤◌, drop, length}
use Rattle.std.specs.List.{flat_map}
use Rattle.elf_build.specs.File.{sym_name}
use Rattle.elf_build.proofs.name_tables.sym_names_len.Given as goal

abbrev pub invariant-loop-s : goal.invariant-loop-s
invariant-loop-s l = record { all : l.sum + length (flat_map sym_name (drop l.s-index l.symbols)) ≡ length (flat_map sym_name l.symbols); low : l.sum ≤ 256 * l.s-index }
