use Rattle.std.proofs.lemmas.Result.{on_ok_weaker}
use Rattle.trace_json.proofs.Gaining.{gained_both}
use Rattle.trace_json.proofs.members.add_flow.Goals as goal

pub returns : goal.returns
returns c = on_ok_weaker c.add_finish.result (gained_both _ _ _ _ _ c.in_ok-add_start.ensures) c.add_finish.ensures
