use Rattle.std.proofs.Common.{◌≡◌, ◌+◌, drop}
use Rattle.elf_build.specs.File.{leading}
use Rattle.elf_build.proofs.groups.leading.Given as goal

abbrev pub invariant-loop-i : goal.invariant-loop-i
invariant-loop-i l = l.i + leading l.section (drop l.i l.relocs) ≡ leading l.section l.relocs
