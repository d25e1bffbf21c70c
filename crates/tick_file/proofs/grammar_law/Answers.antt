use Rattle.tick_file.proofs.FormLemmas.{grammar}
use Rattle.tick_file.proofs.grammar_law.Goals as goal

pub returns : goal.returns
returns c = grammar
