use Rattle.std.proofs.Common.{◌≡◌, subst, None, IsSome, MatchOption}
use Rattle.id_table.specs.Rows.{object_of}
use Rattle.msg_queue.specs.State.{QueuesState}
use Rattle.msg_queue.proofs.queues.Queues.find.Goals as goal

pub returns : goal.returns
returns c = subst (λ (s : QueuesState). MatchOption c.find.result (object_of s.queues c.args.number ≡ None) (λ id. (id ≡ c.args.number) × IsSome (object_of s.queues id))) c.self.view_is c.find.ensures
