use Rattle.std.proofs.lemmas.List.{get_or_default}
use Rattle.trace_json.proofs.Gaining.{gained_more, gained_none}
use Rattle.trace_session.specs.Counters.{deleted_objects}
use Rattle.trace_session.proofs.counters.add_deleted.Goals as goal

pub loop-count-init : goal.loop-count-init
loop-count-init c = gained_none _

-- one more queue has its counter
pub loop-count-preserved : goal.loop-count-preserved
loop-count-preserved c = gained_more (deleted_objects c.args.time c.args.after.now) c.args.before.now c.loop-count.count-index _ _ _ _ c.loop-count-test.true (get_or_default _ _ _ _ c.loop-count-test.true) c.loop-count.invariant c.in_ok-add_queue_deleted.ensures
