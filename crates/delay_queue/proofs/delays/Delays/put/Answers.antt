use Rattle.std.proofs.Common.{ap, ◌∙◌, arith, length}
use Rattle.linked_lists.specs.Chains.{chain_at, value_in}
use Rattle.delay_queue.specs.Wakes.{wake_of, with_task}
use Rattle.delay_queue.proofs.Waiting.{no_value, one_cells, next_there, length-wakes, lessened_fits, put_timed, put_last, put_order}
use Rattle.delay_queue.proofs.delays.Delays.put.Goals as goal

pub insert_before-requires-clause-next : goal.insert_before-requires-clause-next
insert_before-requires-clause-next c x e = next_there (chain_at c.self.inside.tasks.chains 0) c.args.wake c.position_of-next.result.next c.position_of-next.result.left x c.position_of-next.ensures e

pub insert_before-requires-clause-absent : goal.insert_before-requires-clause-absent
insert_before-requires-clause-absent c =
    let t = c.self.inside.tasks in
    ap (λ zs. value_in zs c.args.who) (one_cells t.chains c.self.invariant.0.one) ∙ no_value 0 c.args.who (chain_at t.chains 0) (ap (λ o. wake_of o.tasks c.args.who) c.self.view_is ∙ c.requires.absent)

pub insert_before-requires-clause-room : goal.insert_before-requires-clause-room
insert_before-requires-clause-room c =
    let t = c.self.inside.tasks in
    omega (arith, c.requires.room, ap (λ o. length o.tasks) c.self.view_is, ap (λ o. o.room) c.self.view_is, length-wakes 0 (chain_at t.chains 0), ap length (one_cells t.chains c.self.invariant.0.one))

pub lessen-requires : goal.lessen-requires
lessen-requires c x e =
    lessened_fits c.self.inside.tasks c.args.who c.args.wake c.position_of-next.result.next c.next-next.result c.position_of-next.result.left c.insert_before.new.self c.self.invariant.0.one
    (c.facts.ensures.apart 0 (omega (arith, c.self.invariant.0.one))) (ap (λ o. wake_of o.tasks c.args.who) c.self.view_is ∙ c.requires.absent) c.position_of-next.ensures
    c.insert_before.ensures c.next-next.ensures.after x e

pub invariant_of-self : goal.invariant_of-self
invariant_of-self c = (
  put_timed c.self.inside.tasks c.args.who c.args.wake c.position_of-next.result.next c.next-next.result c.position_of-next.result.left c.insert_before.new.self c.self.invariant.0.one
      (c.facts.ensures.apart 0 (omega (arith, c.self.invariant.0.one))) (ap (λ o. wake_of o.tasks c.args.who) c.self.view_is ∙ c.requires.absent) c.position_of-next.ensures
      c.insert_before.ensures c.next-next.ensures.after c.lessen.new.tasks c.lessen.ensures c.ranges.wake.fits c.self.invariant.0.wakes,
  c.max-self-inside.ensures ∙ put_last c.self.inside.tasks c.args.who c.args.wake c.position_of-next.result.next c.next-next.result c.position_of-next.result.left c.insert_before.new.self c.self.invariant.0.one
      (c.facts.ensures.apart 0 (omega (arith, c.self.invariant.0.one))) (ap (λ o. wake_of o.tasks c.args.who) c.self.view_is ∙ c.requires.absent) c.position_of-next.ensures
      c.insert_before.ensures c.next-next.ensures.after c.lessen.new.tasks c.self.inside.last c.lessen.ensures c.self.invariant.1,
)

pub returns : goal.returns
returns c =
    put_order c.self.inside.tasks c.args.who c.args.wake c.position_of-next.result.next c.next-next.result c.position_of-next.result.left c.insert_before.new.self c.self.invariant.0.one
    (c.facts.ensures.apart 0 (omega (arith, c.self.invariant.0.one))) (ap (λ o. wake_of o.tasks c.args.who) c.self.view_is ∙ c.requires.absent) c.position_of-next.ensures
    c.insert_before.ensures c.next-next.ensures.after
    c.lessen.new.tasks c.lessen.ensures
    ∙ ap (λ o. with_task o (c.args.who, c.args.wake)) c.self.view_is
