use Rattle.std.proofs.Common.{◌≡◌, option_copied, take}
use Rattle.id_table.specs.Rows.{objects}
use Rattle.isr_watch.specs.State.{first_due}
use Rattle.isr_watch.proofs.listing.first_due.Given as goal

abbrev pub invariant-loop-index : goal.invariant-loop-index
invariant-loop-index l = option_copied l.best ≡ first_due (take l.index (objects l.watchdogs.rows)) l.tick
