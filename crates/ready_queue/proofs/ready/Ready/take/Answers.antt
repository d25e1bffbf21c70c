use Rattle.std.proofs.Common.{ap, ◌∙◌, sym, subst, is_some, map, cond}
use Rattle.linked_lists.specs.Chains.{cell_key, chain_at}
use Rattle.linked_lists.specs.IdTableRecords.{without}
use Rattle.ready_queue.specs.Order.{pri_of, taken_out, without_task}
use Rattle.ready_queue.specs.Inside.{tasks_from, filled, IsMapped}
use Rattle.ready_queue.proofs.Rotation.{no_pri, none_taken, order_alike, found_told, mapped_without, filled_first, tasks_without}
use Rattle.ready_queue.proofs.ready.Ready.take.Goals as goal

pub returns-in_default-clause-value : goal.returns-in_default-clause-value
returns-in_default-clause-value c =
    sym (ap is_some (no_pri c.args.who c.self.inside.tasks.chains c.in_default.ensures)) ∙ ap (λ o. is_some (pri_of o.tasks c.args.who)) c.self.view_is

pub returns-in_default-clause-tasks : goal.returns-in_default-clause-tasks
returns-in_default-clause-tasks c =
    let ts = tasks_from 0 c.self.inside.tasks.chains in
    sym c.self.view_is
    ∙ order_alike ts (taken_out ts c.args.who) c.self.inside.tasks.room (none_taken ts c.args.who (no_pri c.args.who c.self.inside.tasks.chains c.in_default.ensures))
    ∙ ap (λ o. without_task o c.args.who) c.self.view_is

pub invariant_of-self : goal.invariant_of-self
invariant_of-self c =
    let cs = c.self.inside.tasks.chains in
    let gone = map (λ d. without cell_key d c.args.who) cs in
    let on = ap (λ b. cond b 1 0) (c.is_some-on.ensures ∙ ap is_some c.first.ensures) ∙ filled_first (chain_at c.remove.new.self.chains c.in-Some.list) in
    subst (λ t. IsMapped t.chains c.mark.new.words) (sym c.remove.ensures.chains)
    (mapped_without cs c.self.inside.map.words c.mark.new.words c.in-Some.list c.args.who (cond c.is_some-on.result 1 0) c.self.invariant c.in-Some.ensures c.mark.ensures
    (on ∙ ap (λ t. filled (chain_at t.chains c.in-Some.list)) c.remove.ensures.chains))

pub returns-clause-value : goal.returns-clause-value
returns-clause-value c = found_told c.self.inside.tasks.chains c.args.who c.in-Some.list c.self.inside.tasks.room c.args.self.now c.in-Some.ensures c.self.view_is

pub returns-clause-tasks : goal.returns-clause-tasks
returns-clause-tasks c =
    let cs = c.self.inside.tasks.chains in
    let gone = map (λ d. without cell_key d c.args.who) cs in
    ap (λ t. record { tasks = tasks_from 0 t.chains; room = t.room }) c.remove.ensures.chains
    ∙ order_alike (tasks_from 0 gone) (taken_out (tasks_from 0 cs) c.args.who) c.self.inside.tasks.room (tasks_without 0 c.args.who cs)
    ∙ ap (λ o. without_task o c.args.who) c.self.view_is
