use Rattle.std.proofs.Common.{append_assoc}
use Rattle.std.proofs.lemmas.List.{append-nil}
use Rattle.wind_session.proofs.report.print_line.Goals as goal

pub returns-clause-printed : goal.returns-clause-printed
returns-clause-printed g c = simp append_assoc (simp append-nil at (rw c.as_bytes.ensures.value at c.print.ensures.printed))
