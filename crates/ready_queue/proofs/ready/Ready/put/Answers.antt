use Rattle.std.proofs.Common.{ap, ◌∙◌, sym, subst, length, arith, set, None, ◌<◌}
use Rattle.linked_lists.specs.Chains.{chain_at, put_before}
use Rattle.ready_queue.specs.Order.{pri_of, put_in, with_task}
use Rattle.ready_queue.specs.Map.{IsMarked}
use Rattle.ready_queue.specs.Inside.{tasks_from, IsMapped}
use Rattle.ready_queue.proofs.Rotation.{no_value, length-tasks, order_alike, mapped_put, tasks_put}
use Rattle.ready_queue.proofs.ready.Ready.put.Goals as goal

pub insert_before-requires-clause-absent : goal.insert_before-requires-clause-absent
insert_before-requires-clause-absent c = no_value c.args.who c.self.inside.tasks.chains (ap (λ o. pri_of o.tasks c.args.who) c.self.view_is ∙ c.requires.absent)

pub insert_before-requires-clause-room : goal.insert_before-requires-clause-room
insert_before-requires-clause-room c =
    omega (arith, c.requires.room, length-tasks 0 c.self.inside.tasks.chains, ap (λ o. length o.tasks) c.self.view_is, ap (λ o. o.room) c.self.view_is)

pub invariant_of-self : goal.invariant_of-self
invariant_of-self c =
    let marks = subst (λ n. IsMarked c.self.inside.map.words c.mark.new.words n 1) (c.get-2.ensures.same ∙ sym c.get.ensures.same) c.mark.ensures in
    subst (λ t. IsMapped t.chains c.mark.new.words) (sym c.insert_before.ensures)
    (mapped_put c.self.inside.tasks.chains c.self.inside.map.words c.mark.new.words c.get.result (c.args.who, tt) c.self.invariant (omega (arith, c.get.ensures.greatest)) marks)

pub returns : goal.returns
returns c =
    let cs = c.self.inside.tasks.chains in
    let room = c.self.inside.tasks.room in
    let pri = c.get.result in
    let within = subst (λ n. pri < n) (sym c.self.invariant.lists) (omega (arith, c.get.ensures.greatest)) in
    ap (λ t. record { tasks = tasks_from 0 t.chains; room = t.room }) c.insert_before.ensures
    ∙ order_alike (tasks_from 0 (set cs pri (put_before None (c.args.who, tt) (chain_at cs pri)))) (put_in (tasks_from 0 cs) (pri, c.args.who)) room (tasks_put pri (c.args.who, tt) cs within)
    ∙ ap (λ n. with_task (record { tasks = tasks_from 0 cs; room = room }) (n, c.args.who)) c.get.ensures.same
    ∙ ap (λ o. with_task o (c.args.pri, c.args.who)) c.self.view_is
