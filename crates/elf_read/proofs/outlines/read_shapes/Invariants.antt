use Rattle.std.proofs.Common.{◌≡◌, ◌-◌, ◌++◌, map}
use Rattle.elf_read.specs.Tables.{header_count}
use Rattle.elf_read.specs.Numbered.{gathered}
use Rattle.elf_read.specs.Contents.{sects_at}
use Rattle.elf_read.specs.Outline.{shape_of}
use Rattle.elf_read.proofs.outlines.read_shapes.Given as goal

abbrev pub invariant-loop-i : goal.invariant-loop-i
invariant-loop-i l =
    l.list.items ++ gathered l.i (l.count - l.i) (λ i. map shape_of (sects_at l.bytes i))
    ≡ gathered 0 (header_count l.bytes) (λ i. map shape_of (sects_at l.bytes i))
