use Rattle.std.proofs.Common.{rules}
use Rattle.msg_queue.proofs.Events.{made_keeps}
use Rattle.msg_queue.proofs.queues.Queues.create.Goals as goal

pub returns-clause-kept : goal.returns-clause-kept
returns-clause-kept c =
    made_keeps c.args.kern.now c.add_to.new.self c.args.self.now _ c.args.max_msgs c.args.max_len c.args.options c.match-add_to.result (search rules) (search rules)
