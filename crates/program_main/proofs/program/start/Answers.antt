use Rattle.std.proofs.Common.{inl, inr, ◌∙◌}
use Rattle.program_main.proofs.program.start.Goals as goal
use Rattle.program_main.proofs.program.start.Goals.{in-Ok, in-Err}

pub returns : goal.returns
returns g c = elim c.match-status.branch [
  | in-Ok w ↦ rw (c.from.ensures ∙ w.number-is) (inl w.in-Ok.ensures)
  | in-Err w ↦ inr (c.from.ensures ∙ w.number-is)
]
