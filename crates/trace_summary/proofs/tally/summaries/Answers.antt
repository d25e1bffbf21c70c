use Rattle.std.proofs.Common.{[], ◌∷◌, ◌++◌, map, ap, ◌∙◌}
use Rattle.board_reading.proofs.Collecting.{all_items, next_item}
use Rattle.trace_summary.specs.Adding.{timed}
use Rattle.trace_summary.proofs.tally.summaries.Goals as goal

-- one more task
pub loop-task-preserved : goal.loop-task-preserved
loop-task-preserved c = λ spans kept.
    let f = timed spans in
    next_item f c.loop-task.list.items c.push.new.list.items (map f c.args.tasks.now) c.args.tasks.now c.loop-task.task-index c.task-item.result c.loop-task-test.true c.task-item.is (c.loop-task.invariant spans kept)
    (c.in_ok-push.ensures ∙ ap (λ t. c.loop-task.list.items ++ t ∷ []) (c.with_times.ensures spans kept))

pub returns : goal.returns
returns c = λ spans kept.
    let f = timed spans in
    all_items f c.loop-task.list.items (map f c.args.tasks.now) c.args.tasks.now c.loop-task.task-index c.loop-task-test.false (c.loop-task.invariant spans kept)
