use Rattle.std.proofs.Common.{ap, ◌∙◌}
use Rattle.board_trace.specs.Views.{snapshot_state}
use Rattle.trace_summary.specs.Summaries.{tally_of}
use Rattle.trace_session.proofs.Counting.{one_more}
use Rattle.trace_session.proofs.counter.add_lines.Goals as goal

-- one more happening was counted
pub loop-happening-preserved : goal.loop-happening-preserved
loop-happening-preserved c = λ views made old.
    c.in_ok-add.ensures views _ c.args.before_step.now.step (c.loop-happening.invariant views made old)
    ∙ ap (tally_of views) (one_more c.args.before_step.now (snapshot_state c.args.before.now) (snapshot_state c.args.after.now) c.args.list.now c.loop-happening.happening-index c.happening-item.result _ made c.loop-happening-test.true c.happening-item.is c.subject_name-name.ensures.value)
