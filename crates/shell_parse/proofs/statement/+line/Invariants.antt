use Rattle.shell_parse.proofs.statement.+line.Given as goal

abbrev pub decreases-line : goal.decreases-line
decreases-line l = l.most
