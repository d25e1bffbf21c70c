use Rattle.trace_session.specs.Choice.{choice_state}
use Rattle.trace_session.proofs.Picturing.{more_shown}
use Rattle.trace_session.proofs.shown.add_spans.Goals as goal

-- one more of the spans
pub loop-span-preserved : goal.loop-span-preserved
loop-span-preserved c =
    more_shown (choice_state c.args.choice.now) c.args.spans.now c.loop-span.span-index c.span-item.result _ _ _ c.loop-span-test.true c.span-item.is c.in_ok-add_span.ensures c.loop-span.invariant
