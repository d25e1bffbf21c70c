use Rattle.std.proofs.Common.{sym, subst}
use Rattle.msg_queue.specs.Comings.{IsMade}
use Rattle.call_rows.proofs.QueueCalls.{made_row}
use Rattle.call_rows.proofs.queue_rows.create.Goals as goal

pub returns-in-Ok-clause-ok : goal.returns-in-Ok-clause-ok
returns-in-Ok-clause-ok c =
    made_row c.args.kern.now c.create.new.kern c.args.objects.now.queues c.create.new.self c.args.max_msgs c.args.max_len c.args.options c.get.result
    (subst (λ n. IsMade c.args.kern.now c.create.new.kern c.args.objects.now.queues c.create.new.self c.args.max_msgs c.args.max_len c.args.options n) (sym c.get.ensures.same) c.in-Ok.ensures.ok)
