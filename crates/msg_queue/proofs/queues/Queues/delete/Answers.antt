use Rattle.std.proofs.Common.{ap, ◌∙◌, sym, subst, arith, Some, IsSome}
use Rattle.wind_base.specs.declared.errno.Errno.TheVariants as errors
use Rattle.id_table.specs.Rows.{Rows, object_of}
use Rattle.wind_core.specs.State.{KernState}
use Rattle.msg_queue.specs.State.{QueueState, QueuesState, receivers, scene}
use Rattle.msg_queue.specs.Kept.{IsKept}
use Rattle.msg_queue.specs.Comings.{delete}
use Rattle.msg_queue.specs.Machine.{deletes}
use Rattle.msg_queue.specs.contracts.queues.Queues.{the_view}
use Rattle.msg_queue.proofs.Counts.{counts_wake_all}
use Rattle.msg_queue.proofs.Deletions.{deleted_is}
use Rattle.msg_queue.proofs.Events.{keeps}
use Rattle.msg_queue.proofs.queues.Queues.delete.Goals as goal

pub wake_all-requires-2 : goal.wake_all-requires-2
wake_all-requires-2 c =
    let count = counts_wake_all c.args.kern.now (receivers c.in-Some.at) 4294967295 (Some errors.ObjDeleted) c.facts.ensures in
    omega (arith, c.requires.since, count.sinces, ap (λ (k : KernState). k.next_since) c.wake_all.ensures)

pub returns-clause-kept : goal.returns-clause-kept
returns-clause-kept c = λ ram kept.
    let s = scene c.args.kern.now (the_view c.self.inside) ram in
    subst IsKept
    (sym (deleted_is s c.args.id c.in-Some.at c.wake_all.new.self c.wake_all-2.new.self c.remove.new.self.rows c.in-Some.ensures.0
    (subst (λ (qs : QueuesState). IsSome (object_of qs.queues c.in-Some.at)) (sym c.self.view_is) c.in-Some.ensures.1) c.wake_all.ensures c.wake_all-2.ensures
    (ap (λ (t : Rows QueueState). t.rows) c.remove.ensures.rows)
    ∙ ap (λ qs. delete (scene c.args.kern.now qs ram) c.args.id) c.self.view_is))
    (keeps (scene c.args.kern.now c.args.self.now ram) (deletes c.args.id) kept tt)
