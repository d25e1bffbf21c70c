use Rattle.std.proofs.Common.{◌≡◌, ◌+◌, drop}
use Rattle.elf_build.specs.File.{locals_from, locals_end}
use Rattle.elf_build.proofs.headers.locals_end.Given as goal

abbrev pub invariant-loop-i : goal.invariant-loop-i
invariant-loop-i l = locals_from l.last (l.i + 1) (drop l.i l.symbols) ≡ locals_end l.symbols
