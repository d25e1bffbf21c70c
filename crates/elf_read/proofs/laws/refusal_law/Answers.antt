use Rattle.elf_read.proofs.FirstLaw.{refused_first, each_fails}
use Rattle.elf_read.proofs.OneAnswer.{one_answer, never_memory}
use Rattle.elf_read.proofs.laws.refusal_law.Goals as goal

pub returns : goal.returns
returns c = record { first = refused_first; numbers = each_fails; one = one_answer; never = never_memory }
