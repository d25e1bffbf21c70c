use Rattle.tick_file.proofs.Writing.{written, more, one_more}
use Rattle.tick_file.proofs.writing_law.Goals as goal

pub returns : goal.returns
returns c = record { written = written; more = more; longer = one_more }
