use Rattle.std.proofs.lemmas.Result.{on_ok_weaker}
use Rattle.trace_json.specs.Chrome.{RoutineSpan}
use Rattle.trace_json.proofs.ChromeDepth.{routine_shallow}
use Rattle.trace_json.proofs.members.add_routine.Goals as goal

pub add_member-requires : goal.add_member-requires
add_member-requires c = routine_shallow _ _ _ c.in_ok-value.ensures

pub returns : goal.returns
returns c = on_ok_weaker c.add_member.result (λ gained. gained (RoutineSpan c.args.from c.args.to) c.in_ok-value.ensures) c.add_member.ensures
