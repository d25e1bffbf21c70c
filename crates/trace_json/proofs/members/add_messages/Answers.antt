use Rattle.std.proofs.lemmas.Result.{on_ok_weaker}
use Rattle.trace_json.specs.Chrome.{QueueMessages}
use Rattle.trace_json.proofs.ChromeDepth.{messages_shallow}
use Rattle.trace_json.proofs.members.add_messages.Goals as goal

pub add_member-requires : goal.add_member-requires
add_member-requires c = messages_shallow _ _ _ _ c.in_ok-value.ensures

pub returns : goal.returns
returns c = on_ok_weaker c.add_member.result (λ gained. gained (QueueMessages c.args.time c.args.queue c.args.number) c.in_ok-value.ensures) c.add_member.ensures
