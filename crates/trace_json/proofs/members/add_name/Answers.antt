use Rattle.std.proofs.lemmas.Result.{on_ok_weaker}
use Rattle.trace_json.specs.Chrome.{ThreadName}
use Rattle.trace_json.proofs.ChromeDepth.{thread_shallow}
use Rattle.trace_json.proofs.members.add_name.Goals as goal

pub add_member-requires : goal.add_member-requires
add_member-requires c = thread_shallow _ _ _ c.in_ok-value.ensures

pub returns : goal.returns
returns c = on_ok_weaker c.add_member.result (λ gained. gained (ThreadName c.args.thread c.args.name.now) c.in_ok-value.ensures) c.add_member.ensures
