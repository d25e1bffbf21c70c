use Rattle.std.proofs.Common.{◌≡◌, Bor, ◌+◌, ap, arith, subst, sym}
use Rattle.wind_session.specs.BoardPlayerSeen.{board_by}
use Rattle.board_trace.specs.declared.moment.BeforeStep.{BeforeStep}
use Rattle.trace_session.specs.Choice.{choice_state}
use Rattle.trace_session.specs.Chrome.{ChartsSteps, charted}
use Rattle.trace_session.specs.declared.choice.Choice.{Choice}
use Rattle.trace_session.proofs.Charting.{charted_on}
use Rattle.trace_session.proofs.chrome.CharterTeller.tell.Goals as goal

-- the step has a number
pub add_step-requires-clause-step : goal.add_step-requires-clause-step
add_step-requires-clause-step g c =
    let is : c.args.before.now.step ≡ c.requires.told.0.steps + 1 = ap (λ (b : BeforeStep). b.step) c.requires.told.1 in
    omega (arith, is, c.requires.told.2, c.requires.few)

pub returns-clause-tells : goal.returns-clause-tells
returns-clause-tells g c = λ done first said next s u i is ready on charts.
    let state = board_by (λ d. (goal.Device-dyn g (d.vtable, d.value)).kind_of d.value) (λ d. (goal.Device-dyn g (d.vtable, d.value)).words_of d.value) in
    let new = state c.args.board.now in
    let choice = choice_state c.args.self.now.choice.now in
    let later = c.add_step.new.self in
    let all = charted_on said next s u new _ i on choice first.bytes _ _ (charted later.spans later.level later.flows) _ later.text.items charts (c.in_ok-add_step.ensures.text (next i) u is ready on.replied) (c.in_ok-add_step.ensures.chart (next i) u is ready on.replied) in
    subst (λ (x : Bor Choice). ChartsSteps (choice_state x.now) (charted later.spans later.level later.flows) first.bytes (g.O.Sink.bytes c.put_full.new.out) c.put_full.new.text.items next s (i + 1)) (sym c.in_ok-add_step.ensures.choice)
    (record { holds = c.put_full.ensures.done done first.bytes _ all.holds; going = all.going })

pub returns-clause-lost : goal.returns-clause-lost
returns-clause-lost g c = λ failed first said next s u i is ready on charts.
    let state = board_by (λ d. (goal.Device-dyn g (d.vtable, d.value)).kind_of d.value) (λ d. (goal.Device-dyn g (d.vtable, d.value)).words_of d.value) in
    let new = state c.args.board.now in
    let choice = choice_state c.args.self.now.choice.now in
    let later = c.add_step.new.self in
    let all = charted_on said next s u new _ i on choice first.bytes _ _ (charted later.spans later.level later.flows) _ later.text.items charts (c.in_ok-add_step.ensures.text (next i) u is ready on.replied) (c.in_ok-add_step.ensures.chart (next i) u is ready on.replied) in
    c.put_full.ensures.part failed first.bytes _ all.holds
