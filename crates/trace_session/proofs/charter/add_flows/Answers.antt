use Rattle.std.proofs.Common.{Option, refl, subst, sym, ap, ◌∙◌}
use Rattle.kernel_world.specs.declared.actor.Actor.{Actor}
use Rattle.trace_text.specs.Forms.{Gained}
use Rattle.trace_json.specs.Chrome.{AreMembers}
use Rattle.trace_json.specs.declared.members.EndedWait.{EndedWait}
use Rattle.trace_json.proofs.Gaining.{gained_none}
use Rattle.trace_session.specs.Choice.{choice_state}
use Rattle.trace_session.specs.Chrome.{flows_by, numbered, number_by, wait_objects}
use Rattle.trace_session.proofs.Charting.{flows_on, numbers_on}
use Rattle.trace_session.proofs.charter.add_flows.Goals as goal

pub returns-in_default-clause-number : goal.returns-in_default-clause-number
returns-in_default-clause-number c = ap (λ who. number_by (choice_state c.args.choice.now) who c.args.before_step.now c.args.list.now c.args.last) (sym c.in_default.is)

pub returns-in_default-clause-text : goal.returns-in_default-clause-text
returns-in_default-clause-text c =
    let P : Option Actor → Type 0 = λ who. Gained (AreMembers (flows_by (choice_state c.args.choice.now) who c.args.before_step.now c.args.to c.args.list.now c.args.last)) c.args.text.now.items c.args.text.now.items in
    subst P (sym c.in_default.is) (gained_none c.args.text.now.items)

pub loop-happening-init : goal.loop-happening-init
loop-happening-init c = record { number = refl; text = gained_none _ }

-- one more has its flow
pub loop-happening-preserved : goal.loop-happening-preserved
loop-happening-preserved c =
    let b = c.args.before_step.now in
    let h = c.happening-item.result in
    let choice = choice_state c.args.choice.now in
    let next = c.in_ok-number.ensures.number ∙ ap (λ w. numbered w c.loop-happening.number) c.chosen_wait-wait.ensures in
    let P : Option EndedWait → Type 0 = λ w. Gained (AreMembers (wait_objects c.giver_of-giver.result w c.loop-happening.number b.time c.args.to)) c.loop-happening.text.items c.add_wait.new.text.items in
    record {
      number = numbers_on choice b c.args.list.now c.loop-happening.happening-index h c.loop-happening-test.true c.happening-item.is c.args.last c.loop-happening.number _ c.loop-happening.invariant.number next;
      text = flows_on choice b c.args.list.now c.loop-happening.happening-index h c.loop-happening-test.true c.happening-item.is _ c.args.to c.args.last c.loop-happening.number _ _ _ c.loop-happening.invariant.number c.loop-happening.invariant.text (subst P c.chosen_wait-wait.ensures c.in_ok-number.ensures.text);
    }
