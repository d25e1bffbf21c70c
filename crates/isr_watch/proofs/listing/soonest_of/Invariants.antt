use Rattle.std.proofs.Common.{take}
use Rattle.id_table.specs.Rows.{objects}
use Rattle.isr_watch.specs.Inside.{NoneBefore}
use Rattle.isr_watch.proofs.listing.soonest_of.Given as goal

abbrev pub invariant-loop-index : goal.invariant-loop-index
invariant-loop-index l = NoneBefore l.soonest (take l.index (objects l.watchdogs.rows))
