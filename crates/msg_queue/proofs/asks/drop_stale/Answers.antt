use Rattle.std.proofs.Common.{rules}
use Rattle.std.proofs.lemmas.Fn.{filter_same}
use Rattle.msg_queue.specs.State.{counts}
use Rattle.msg_queue.proofs.asks.drop_stale.Goals as goal

pub returns-clause-items : goal.returns-clause-items
returns-clause-items c = filter_same _ (counts c.args.kern.now) _ (λ x b f' k. search rules) _ _ c.retain.ensures.filtered
