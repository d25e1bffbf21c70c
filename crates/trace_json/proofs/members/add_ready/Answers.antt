use Rattle.std.proofs.lemmas.Result.{on_ok_weaker}
use Rattle.trace_json.specs.Chrome.{ReadyTasks}
use Rattle.trace_json.proofs.ChromeDepth.{ready_shallow}
use Rattle.trace_json.proofs.members.add_ready.Goals as goal

pub add_member-requires : goal.add_member-requires
add_member-requires c = ready_shallow _ _ _ c.in_ok-value.ensures

pub returns : goal.returns
returns c = on_ok_weaker c.add_member.result (λ gained. gained (ReadyTasks c.args.time c.args.number) c.in_ok-value.ensures) c.add_member.ensures
