use Rattle.std.proofs.Common.{drop}
use Rattle.std.specs.Prelude.{◌↔◌}
use Rattle.elf_build.specs.Buildable.{Rises}
use Rattle.elf_build.proofs.judging.rises.Given as goal

abbrev pub invariant-loop-r : goal.invariant-loop-r
invariant-loop-r l = Rises l.last (drop l.r-index l.relocs) ↔ Rises 0 l.relocs
