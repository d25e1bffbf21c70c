use Rattle.shell_parse.proofs.Laws.{read_iff, read_none, only_one}
use Rattle.shell_parse.proofs.grammar.grammar_law.Goals as goal

pub returns : goal.returns
returns c = record { read = read_iff; refused = read_none; only = only_one }
