use Rattle.trace_json.proofs.Gaining.{gained_more, gained_none}
use Rattle.trace_session.specs.Choice.{choice_state}
use Rattle.trace_session.specs.Chrome.{span_objects}
use Rattle.trace_session.proofs.charter.add_spans.Goals as goal

pub loop-span-init : goal.loop-span-init
loop-span-init c = gained_none _

-- one more has its object
pub loop-span-preserved : goal.loop-span-preserved
loop-span-preserved c = gained_more (span_objects (choice_state c.args.choice.now)) c.args.spans.now c.loop-span.span-index c.span-item.result _ _ _ c.loop-span-test.true c.span-item.is c.loop-span.invariant c.in_ok-add_told.ensures
