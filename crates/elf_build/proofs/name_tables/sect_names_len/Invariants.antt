use Rattle.std.proofs.Common.{◌≡◌, ◌+◌, ◌*◌, ◌≤◌, drop, length}
use Rattle.std.specs.List.{flat_map}
use Rattle.elf_build.specs.File.{sect_name}
use Rattle.elf_build.proofs.name_tables.sect_names_len.Given as goal

abbrev pub invariant-loop-s : goal.invariant-loop-s
invariant-loop-s l = record { all : l.sum + length (flat_map sect_name (drop l.s-index l.sections)) ≡ length (flat_map sect_name l.sections); low : l.sum ≤ 256 * l.s-index }
