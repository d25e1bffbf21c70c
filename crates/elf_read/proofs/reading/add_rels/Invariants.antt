use Rattle.std.proofs.Common.{◌≡◌, ◌-◌, ◌++◌, ◌∷◌, []}
use Rattle.elf_read.specs.Numbered.{gathered}
use Rattle.elf_read.specs.Contents.{rels_at, rel_of}
use Rattle.elf_read.proofs.reading.add_rels.Given as goal

abbrev pub invariant-loop-k : goal.invariant-loop-k
invariant-loop-k l = l.list.items ++ gathered l.k (l.count - l.k) (λ k. rel_of l.bytes l.i k ∷ []) ≡ l.fn.list.items ++ rels_at l.bytes l.i
