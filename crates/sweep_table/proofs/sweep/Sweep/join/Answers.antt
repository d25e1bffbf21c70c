use Rattle.std.proofs.Common.{length, ap, arith}
use Rattle.sweep_table.proofs.JoinLemmas.{tally_members}
use Rattle.sweep_table.proofs.sweep.Sweep.join.Goals as goal

pub join-requires-clause-fits : goal.join-requires-clause-fits
join-requires-clause-fits c =
    omega (arith, tally_members c.self.inside.tally c.self.invariant, ap length c.self.view_is, tally_members c.next.inside.tally c.next.invariant, ap length c.next.view_is, c.requires)
