use Rattle.elf_read.proofs.AlignmentLemmas.{alignment_law}
use Rattle.elf_read.proofs.laws.alignment_law.Goals as goal

pub returns : goal.returns
returns c = alignment_law
