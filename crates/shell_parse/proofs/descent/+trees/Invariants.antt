use Rattle.shell_parse.proofs.descent.+trees.Given as goal

abbrev pub decreases-args : goal.decreases-args
decreases-args l = l.depth

abbrev pub decreases-calls : goal.decreases-calls
decreases-calls l = l.depth

abbrev pub decreases-climb : goal.decreases-climb
decreases-climb l = l.depth

abbrev pub decreases-listed : goal.decreases-listed
decreases-listed l = l.depth

abbrev pub decreases-more : goal.decreases-more
decreases-more l = l.depth

abbrev pub decreases-operands : goal.decreases-operands
decreases-operands l = l.depth

abbrev pub decreases-star : goal.decreases-star
decreases-star l = l.depth

abbrev pub decreases-unary : goal.decreases-unary
decreases-unary l = l.depth

abbrev pub decreases-whole : goal.decreases-whole
decreases-whole l = l.depth
