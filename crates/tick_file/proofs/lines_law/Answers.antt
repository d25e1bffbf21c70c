use Rattle.tick_file.proofs.SayLemmas.{all_lines}
use Rattle.tick_file.proofs.lines_law.Goals as goal

pub returns : goal.returns
returns c = all_lines
