use Rattle.std.proofs.Common.{sym, ap, ◌∙◌}
use Rattle.std.proofs.Math.ListN.{set}
use Rattle.std.proofs.lemmas.List.Edits.{map_over_more}
use Rattle.trace_summary.specs.Adding.{added}
use Rattle.trace_summary.proofs.Mapping.{all_over}
use Rattle.trace_summary.proofs.tally.add_counts.Goals as goal

-- one more task
pub loop-task-preserved : goal.loop-task-preserved
loop-task-preserved c =
    let f = added c.args.id c.args.more in
    ap (set c.loop-task.tasks c.loop-task.task-index) (c.add.ensures ∙ ap f (sym c.task-item.is))
    ∙ map_over_more f c.args.tasks.now c.loop-task.tasks c.loop-task.task-index c.task-item.result c.loop-task-test.true c.loop-task.invariant c.task-item.is

pub returns : goal.returns
returns c = c.loop-task.invariant ∙ all_over (added c.args.id c.args.more) c.args.tasks.now c.loop-task.task-index c.loop-task-test.false
