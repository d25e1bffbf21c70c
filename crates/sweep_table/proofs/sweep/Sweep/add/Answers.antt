use Rattle.std.proofs.Common.{length, ap, arith}
use Rattle.sweep_table.proofs.JoinLemmas.{tally_members}
use Rattle.sweep_table.proofs.sweep.Sweep.add.Goals as goal

pub add-requires-clause-fits : goal.add-requires-clause-fits
add-requires-clause-fits c = omega (arith, tally_members c.self.inside.tally c.self.invariant, ap length c.self.view_is, c.requires.fits)
