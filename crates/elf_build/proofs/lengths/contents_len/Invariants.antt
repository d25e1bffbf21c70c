use Rattle.std.proofs.Common.{◌≡◌, ◌+◌, ◌*◌, ◌≤◌, drop, length}
use Rattle.std.specs.List.{flat_map}
use Rattle.elf_build.specs.File.{sect_content}
use Rattle.elf_build.proofs.lengths.contents_len.Given as goal

abbrev pub invariant-loop-s : goal.invariant-loop-s
invariant-loop-s l = record { all : l.sum + length (flat_map sect_content (drop l.s-index l.sections)) ≡ length (flat_map sect_content l.sections); low : l.sum ≤ 16777216 * l.s-index }
