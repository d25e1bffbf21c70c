use Rattle.std.proofs.Common.{ap, ◌∙◌, sym, subst, is_some, map, set, arith, None, ◌<◌}
use Rattle.linked_lists.specs.Chains.{cell_key, chain_at, value_of, put_before, with_cell}
use Rattle.linked_lists.specs.IdTableRecords.{without}
use Rattle.std.proofs.lemmas.List.{length-map}
use Rattle.ready_queue.specs.Order.{pri_of, put_in, taken_out, rotated, moved_back}
use Rattle.ready_queue.specs.Inside.{tasks_from, IsMapped}
use Rattle.ready_queue.proofs.Rotation.{no_pri, order_alike, found_told, pri_found, mapped_rotated, tasks_without, tasks_put, value_gone, fewer_cells}
use Rattle.ready_queue.proofs.ready.Ready.rotate.Goals as goal

pub returns-in_default-clause-value : goal.returns-in_default-clause-value
returns-in_default-clause-value c =
    sym (ap is_some (no_pri c.args.who c.self.inside.tasks.chains c.in_default.ensures)) ∙ ap (λ o. is_some (pri_of o.tasks c.args.who)) c.self.view_is

pub returns-in_default-clause-tasks : goal.returns-in_default-clause-tasks
returns-in_default-clause-tasks c =
    sym (ap (moved_back c.args.self.now c.args.who) (ap (λ o. pri_of o.tasks c.args.who) (sym c.self.view_is) ∙ no_pri c.args.who c.self.inside.tasks.chains c.in_default.ensures))

pub insert_before-requires-clause-absent : goal.insert_before-requires-clause-absent
insert_before-requires-clause-absent c = ap (λ t. value_of t.chains c.args.who) c.remove.ensures.chains ∙ value_gone c.self.inside.tasks.chains c.args.who

pub insert_before-requires-clause-room : goal.insert_before-requires-clause-room
insert_before-requires-clause-room c =
    let fewer = fewer_cells c.self.inside.tasks.chains c.args.who c.in-Some.list c.in-Some.ensures in
    rw c.remove.ensures.chains (omega (arith, fewer, c.facts.ensures.few))

pub invariant_of-self : goal.invariant_of-self
invariant_of-self c =
    let cs = c.self.inside.tasks.chains in
    subst (λ t. IsMapped t.chains c.self.inside.map.words) (sym (c.insert_before.ensures ∙ ap (λ t. with_cell t c.in-Some.list None (c.args.who, tt)) c.remove.ensures.chains))
    (mapped_rotated cs c.self.inside.map.words c.in-Some.list c.args.who (c.args.who, tt) c.self.invariant c.in-Some.ensures)

pub returns-clause-value : goal.returns-clause-value
returns-clause-value c = found_told c.self.inside.tasks.chains c.args.who c.in-Some.list c.self.inside.tasks.room c.args.self.now c.in-Some.ensures c.self.view_is

pub returns-clause-tasks : goal.returns-clause-tasks
returns-clause-tasks c =
    let cs = c.self.inside.tasks.chains in
    let who = c.args.who in
    let list = c.in-Some.list in
    let ts = tasks_from 0 cs in
    let room = c.self.inside.tasks.room in
    let gone = map (λ d. without cell_key d who) cs in
    let within = subst (λ n. list < n) (sym (length-map cs (λ d. without cell_key d who))) c.in-Some.ensures.within in
    ap (λ t. record { tasks = tasks_from 0 t.chains; room = t.room }) (c.insert_before.ensures ∙ ap (λ t. with_cell t list None (who, tt)) c.remove.ensures.chains)
    ∙ order_alike (tasks_from 0 (set gone list (put_before None (who, tt) (chain_at gone list)))) (put_in (taken_out ts who) (list, who)) room
    (tasks_put list (who, tt) gone within ∙ ap (λ us. put_in us (list, who)) (tasks_without 0 who cs))
    ∙ sym (ap (moved_back (record { tasks = ts; room = room }) who) (pri_found cs who list c.in-Some.ensures))
    ∙ ap (λ o. rotated o who) c.self.view_is
