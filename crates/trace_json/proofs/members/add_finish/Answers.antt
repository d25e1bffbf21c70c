use Rattle.std.proofs.lemmas.Result.{on_ok_weaker}
use Rattle.trace_json.specs.Chrome.{FlowFinish}
use Rattle.trace_json.proofs.ChromeDepth.{finish_shallow}
use Rattle.trace_json.proofs.members.add_finish.Goals as goal

pub add_member-requires : goal.add_member-requires
add_member-requires c = finish_shallow _ _ _ _ _ c.in_ok-value.ensures

pub returns : goal.returns
returns c = on_ok_weaker c.add_member.result (λ gained. gained (FlowFinish c.args.number c.args.flow.now.to c.args.flow.now.wait.object c.args.flow.now.wait.waiter) c.in_ok-value.ensures) c.add_member.ensures
