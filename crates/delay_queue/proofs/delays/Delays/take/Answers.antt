use Rattle.std.proofs.Common.{ap, ◌∙◌, sym, subst, arith, is_some, not, eqb, ◌+◌, ◌<◌, ◌^◌}
use Rattle.std.specs.Prelude.{IsSomeAnd}
use Rattle.std.specs.List.{All}
use Rattle.std.proofs.lemmas.List.Elements.{All-filter}
use Rattle.linked_lists.specs.Chains.{chain_at, value_in, value_of}
use Rattle.delay_queue.specs.Wakes.{wake_of, taken_out, without_task}
use Rattle.delay_queue.specs.Inside.{wakes_from, total, last_left, with_gap, IsTimed}
use Rattle.delay_queue.proofs.Waiting.{has_wake, no_wake, one_cells, none_goes, none_taken, none_is, going, timed_single, order_alike}
use Rattle.delay_queue.proofs.delays.Delays.take.Goals as goal

pub invariant_of-self : goal.invariant_of-self
invariant_of-self c = (
  subst (λ u. IsTimed u.chains) (sym (c.in_default.ensures.chains ∙ none_goes c.self.inside.tasks c.args.who c.self.invariant.0.one (sym c.in_default.ensures.value)))
      c.self.invariant.0,
  c.self.invariant.1 ∙ ap (λ u. total (chain_at u.chains 0)) (sym (c.in_default.ensures.chains ∙ none_goes c.self.inside.tasks c.args.who c.self.invariant.0.one (sym c.in_default.ensures.value))),
)

pub returns-in_default : goal.returns-in_default
returns-in_default c =
    let t = c.self.inside.tasks in
    let one = c.self.invariant.0.one in
    let none = sym c.in_default.ensures.value in
    let ts = wakes_from 0 (chain_at t.chains 0) in
    let wake = no_wake 0 c.args.who (chain_at t.chains 0) (ap (λ zs. value_in zs c.args.who) (sym (one_cells t.chains one)) ∙ none) in
    record {
      value = sym (ap is_some wake) ∙ ap (λ o. is_some (wake_of o.tasks c.args.who)) c.self.view_is;
      tasks = ap (λ u. record { tasks = wakes_from 0 (chain_at u.chains 0); room = u.room }) (c.in_default.ensures.chains ∙ none_goes t c.args.who one none)
          ∙ order_alike ts (taken_out ts c.args.who) t.room (none_taken ts c.args.who wake)
          ∙ ap (λ o. without_task o c.args.who) c.self.view_is;
    }

pub lengthen-requires : goal.lengthen-requires
lengthen-requires c x e =
    let t = c.self.inside.tasks in
    let one = c.self.invariant.0.one in
    let apart = c.facts.ensures.apart 0 (omega (arith, one)) in
    let goes = going t c.args.who c.in-Some.gap c.next-next.result c.self.invariant.0 apart (sym c.in-Some.ensures.value) c.next-next.ensures.after in
    subst (λ u. IsSomeAnd (value_of u.chains x) (λ gap. gap + c.in-Some.gap < 2 ^ 64)) (sym c.in-Some.ensures.chains) (goes.fits x e)

pub last_without-self-inside-requires : goal.last_without-self-inside-requires
last_without-self-inside-requires c e =
    let t = c.self.inside.tasks in
    let apart = c.facts.ensures.apart 0 (omega (arith, c.self.invariant.0.one)) in
    let goes = going t c.args.who c.in-Some.gap c.next-next.result c.self.invariant.0 apart (sym c.in-Some.ensures.value) c.next-next.ensures.after in
    omega (arith, goes.went.within (sym (none_is c.is_none.result c.next-next.result c.is_none.ensures) ∙ e), c.self.invariant.1)

pub invariant_of-self-2 : goal.invariant_of-self-2
invariant_of-self-2 c =
    let t = c.self.inside.tasks in
    let one = c.self.invariant.0.one in
    let apart = c.facts.ensures.apart 0 (omega (arith, one)) in
    let goes = going t c.args.who c.in-Some.gap c.next-next.result c.self.invariant.0 apart (sym c.in-Some.ensures.value) c.next-next.ensures.after in
    let done = c.lengthen.ensures ∙ ap (λ u. with_gap u c.next-next.result (λ gap. gap + c.in-Some.gap)) c.in-Some.ensures.chains ∙ goes.went.chains in (
      timed_single c.lengthen.new.tasks goes.went.list t.room done
          (subst (All (λ d. d.1 < 2 ^ 64)) (sym goes.went.wakes) (All-filter (λ d. not (eqb d.0 c.args.who)) (λ d. d.1 < 2 ^ 64) (wakes_from 0 (chain_at t.chains 0)) c.self.invariant.0.wakes)),
      c.last_without-self-inside.ensures ∙ (λ i. last_left (c.self.invariant.1 i) (none_is c.is_none.result c.next-next.result c.is_none.ensures i) c.in-Some.gap) ∙ sym goes.went.last ∙ ap (λ u. total (chain_at u.chains 0)) (sym done),
    )

pub returns-clause-value : goal.returns-clause-value
returns-clause-value c =
    let t = c.self.inside.tasks in
    ap is_some c.in-Some.ensures.value
    ∙ ap (λ zs. is_some (value_in zs c.args.who)) (one_cells t.chains c.self.invariant.0.one)
    ∙ sym (has_wake 0 c.args.who (chain_at t.chains 0))
    ∙ ap (λ o. is_some (wake_of o.tasks c.args.who)) c.self.view_is

pub returns-clause-tasks : goal.returns-clause-tasks
returns-clause-tasks c =
    let t = c.self.inside.tasks in
    let one = c.self.invariant.0.one in
    let apart = c.facts.ensures.apart 0 (omega (arith, one)) in
    let goes = going t c.args.who c.in-Some.gap c.next-next.result c.self.invariant.0 apart (sym c.in-Some.ensures.value) c.next-next.ensures.after in
    let done = c.lengthen.ensures ∙ ap (λ u. with_gap u c.next-next.result (λ gap. gap + c.in-Some.gap)) c.in-Some.ensures.chains ∙ goes.went.chains in
    ap (λ u. record { tasks = wakes_from 0 (chain_at u.chains 0); room = u.room }) done
    ∙ order_alike (wakes_from 0 goes.went.list) (taken_out (wakes_from 0 (chain_at t.chains 0)) c.args.who) t.room goes.went.wakes
    ∙ ap (λ o. without_task o c.args.who) c.self.view_is
