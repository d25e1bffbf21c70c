use Rattle.std.proofs.Common.{option_copied}
use Rattle.id_table.proofs.Owning.{pass_more}
use Rattle.isr_watch.specs.State.{starts_before, is_due}
use Rattle.isr_watch.proofs.Stops.{starts_before-order}
use Rattle.isr_watch.proofs.listing.first_due.Goals as goal

pub loop-index-preserved : goal.loop-index-preserved
loop-index-preserved c =
    pass_more starts_before starts_before-order (is_due c.args.tick) c.args.watchdogs.now.rows c.loop-index.index c.len-index-end.result c.value_at.result.now (option_copied c.loop-index.best) (option_copied c.better_due-best.result)
    c.len-index-end.ensures c.loop-index-test.true c.value_at.ensures c.loop-index.invariant c.better_due-best.ensures
