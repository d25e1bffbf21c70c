use Rattle.trace_summary.proofs.Extending.{all_others, none_other, one_other}
use Rattle.trace_summary.proofs.times.LongestTimes.add_uninterrupted.Goals as goal

pub loop-span-init : goal.loop-span-init
loop-span-init c = λ before kept. none_other c.args.self.now before kept

-- one more span
pub loop-span-preserved : goal.loop-span-preserved
loop-span-preserved c = λ before kept.
    let now = c.loop-span.invariant before kept in
    one_other _ before c.args.spans.now c.loop-span.span-index c.span-item.result c.loop-span-test.true c.span-item.is
    (record { waits = now.waits; ready = c.in_ok-add_stretch.ensures _ now.ready; inherited = now.inherited; responses = now.responses })

pub returns : goal.returns
returns c = λ before kept. all_others _ before c.args.spans.now c.loop-span.span-index c.loop-span-test.false (c.loop-span.invariant before kept)
