use Rattle.trace_summary.proofs.Extending.{all_added, none_added, one_added}
use Rattle.trace_summary.proofs.times.LongestTimes.add.Goals as goal

pub loop-span-init : goal.loop-span-init
loop-span-init c = λ before kept. none_added c.args.self.now before kept

-- one more span
pub loop-span-preserved : goal.loop-span-preserved
loop-span-preserved c = λ before kept.
    one_added _ before c.args.spans.now c.loop-span.span-index c.span-item.result c.loop-span-test.true c.span-item.is
    (c.in_ok-add_span.ensures _ (c.loop-span.invariant before kept))

pub returns : goal.returns
returns c = λ before kept. all_added _ before c.args.spans.now c.loop-span.span-index c.loop-span-test.false (c.loop-span.invariant before kept)
