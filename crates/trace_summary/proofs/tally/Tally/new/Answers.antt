use Rattle.std.proofs.Common.{◌+◌, List, drop, sym, ap, ap₂, ◌∙◌}
use Rattle.std.proofs.Math.ListN.{drop_of_length-le}
use Rattle.trace_summary.specs.Adding.{with_opening, with_task}
use Rattle.trace_summary.specs.Summaries.{TallyState}
use Rattle.trace_summary.specs.declared.tally.TaskTally.{TaskTally}
use Rattle.trace_summary.specs.declared.usage.Usage.{Usage}
use Rattle.trace_summary.proofs.Distinct.{one_opened, opened}
use Rattle.trace_summary.proofs.tally.Tally.new.Goals as goal

abbrev opening_tally : List TaskTally → List Usage → TallyState
opening_tally tasks uses = record { ticks = 0; calls = 0; idle = 0; tasks = tasks; uses = uses }

-- one more task
pub loop-view-preserved : goal.loop-view-preserved
loop-view-preserved c =
    let views = c.args.views.now in
    let i = c.loop-view.view-index in
    let v = c.view-item.result in
    ap (with_opening (drop (i + 1) views)) (c.in_ok-add_task.ensures ∙ ap₂ (λ id name. with_task id name c.loop-view.tasks.items) c.get.ensures.same c.bytes.ensures.value)
    ∙ sym (one_opened views i v c.loop-view.tasks.items c.loop-view-test.true c.view-item.is)
    ∙ c.loop-view.invariant

pub returns : goal.returns
returns c =
    let views = c.args.views.now in
    ap₂ opening_tally
    (ap (λ vs. with_opening vs c.loop-view.tasks.items) (sym (drop_of_length-le views c.loop-view-test.false)) ∙ c.loop-view.invariant ∙ opened views) c.new.ensures.items
