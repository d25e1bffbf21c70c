use Rattle.con_line.proofs.Splitting.{made, split, first_lines}
use Rattle.con_line.proofs.laws.lines_law.Goals as goal

pub returns : goal.returns
returns c = record { made = made; split = split; first = first_lines }
