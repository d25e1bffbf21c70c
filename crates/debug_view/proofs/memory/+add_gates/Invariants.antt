use Rattle.debug_view.proofs.memory.+add_gates.Given as goal

abbrev pub decreases-add_gates : goal.decreases-add_gates
decreases-add_gates l = l.count
