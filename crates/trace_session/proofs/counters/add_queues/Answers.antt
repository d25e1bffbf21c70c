use Rattle.std.proofs.lemmas.Result.{on_ok_weaker}
use Rattle.trace_json.proofs.Gaining.{gained_both}
use Rattle.trace_session.proofs.counters.add_queues.Goals as goal

pub returns : goal.returns
returns c = on_ok_weaker c.add_deleted.result (gained_both _ _ _ _ _ c.in_ok-add_changed.ensures) c.add_deleted.ensures
