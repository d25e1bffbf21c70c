use Rattle.ppc_word.proofs.Whole.{pattern-at}
use Rattle.ppc_word.proofs.table.pattern.Goals as goal

pub returns : goal.returns
returns c = pattern-at c.args.place _ c.requires
