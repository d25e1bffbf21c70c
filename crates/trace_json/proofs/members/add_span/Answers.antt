use Rattle.std.proofs.lemmas.Result.{on_ok_weaker}
use Rattle.trace_json.specs.Chrome.{TaskSpan}
use Rattle.trace_json.proofs.ChromeDepth.{span_shallow}
use Rattle.trace_json.proofs.members.add_span.Goals as goal

pub add_member-requires : goal.add_member-requires
add_member-requires c = span_shallow _ _ c.in_ok-value.ensures

pub returns : goal.returns
returns c = on_ok_weaker c.add_member.result (λ gained. gained (TaskSpan c.args.span.now) c.in_ok-value.ensures) c.add_member.ensures
