use Rattle.std.proofs.Common.{ap, ◌∙◌}
use Rattle.std.proofs.Math.ListN.{set}
use Rattle.trace_summary.specs.Using.{moved}
use Rattle.trace_summary.proofs.Mapping.{all_over, over_more}
use Rattle.trace_summary.proofs.usage.follow_all.Goals as goal

-- one more object
pub loop-usage-preserved : goal.loop-usage-preserved
loop-usage-preserved c =
    ap (set c.loop-usage.uses c.loop-usage.usage-index) c.follow.ensures
    ∙ over_more (moved c.args.step) c.args.uses.now c.loop-usage.uses c.loop-usage.usage-index _ c.loop-usage-test.true c.loop-usage.auto.uses c.loop-usage.invariant

pub returns : goal.returns
returns c = c.loop-usage.invariant ∙ all_over (moved c.args.step) c.args.uses.now c.loop-usage.usage-index c.loop-usage-test.false
