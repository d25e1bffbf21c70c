use Rattle.std.proofs.Common.{◌∙◌, ap, length}
use Rattle.sweep_table.proofs.JoinLemmas.{tally_members}
use Rattle.sweep_table.proofs.sweep.Sweep.members.Goals as goal

pub returns : goal.returns
returns c = tally_members c.self.inside.tally c.self.invariant ∙ ap length c.self.view_is
