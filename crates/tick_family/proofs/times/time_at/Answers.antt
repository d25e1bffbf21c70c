use Rattle.std.proofs.Common.{arith}
use Rattle.tick_family.proofs.EntryLemmas.{time_fits}
use Rattle.tick_family.proofs.times.time_at.Goals as goal

pub overflow_mul-offset : goal.overflow_mul-offset
overflow_mul-offset c = omega (arith, time_fits c.args.times c.args.place c.requires.times c.requires.inside)

pub overflow_add-result : goal.overflow_add-result
overflow_add-result c = omega (arith, time_fits c.args.times c.args.place c.requires.times c.requires.inside)

pub returns-clause-fits : goal.returns-clause-fits
returns-clause-fits c = omega (arith, time_fits c.args.times c.args.place c.requires.times c.requires.inside)
