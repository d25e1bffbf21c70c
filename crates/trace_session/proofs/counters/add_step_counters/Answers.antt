use Rattle.std.proofs.Common.{Bool, if◌then◌else◌, subst, sym, ◌∙◌}
use Rattle.std.proofs.lemmas.Result.{on_ok_weaker}
use Rattle.wind_session.specs.BoardPlayerSeen.{board_by}
use Rattle.trace_text.specs.Forms.{Gained}
use Rattle.trace_json.specs.Chrome.{AreMembers}
use Rattle.trace_session.specs.Choice.{choice_state}
use Rattle.trace_session.specs.Counters.{counters_in, counters_outside, counts_state}
use Rattle.trace_session.proofs.counters.add_step_counters.Goals as goal

pub returns-then-has_step : goal.returns-then-has_step
returns-then-has_step g c =
    let state = board_by (λ d. (goal.Device-dyn g (d.vtable, d.value)).kind_of d.value) (λ d. (goal.Device-dyn g (d.vtable, d.value)).words_of d.value) in
    let new = state c.args.board.now in
    let choice = choice_state c.args.choice.now in
    let b = c.args.before_step.now in
    let P : Bool → Type 0 = λ chosen. Gained (AreMembers (if chosen then counters_in choice b (counts_state c.args.before.now) new else counters_outside choice b new)) c.args.text.now.items c.add_counters_in.new.text.items in
    on_ok_weaker c.add_counters_in.result (subst P (sym c.if-has_step.true ∙ c.has_step.ensures)) c.add_counters_in.ensures

pub returns : goal.returns
returns g c =
    let state = board_by (λ d. (goal.Device-dyn g (d.vtable, d.value)).kind_of d.value) (λ d. (goal.Device-dyn g (d.vtable, d.value)).words_of d.value) in
    let new = state c.args.board.now in
    let choice = choice_state c.args.choice.now in
    let b = c.args.before_step.now in
    let P : Bool → Type 0 = λ chosen. Gained (AreMembers (if chosen then counters_in choice b (counts_state c.args.before.now) new else counters_outside choice b new)) c.args.text.now.items c.add_counters_outside.new.text.items in
    on_ok_weaker c.add_counters_outside.result (subst P (sym c.if-has_step.false ∙ c.has_step.ensures)) c.add_counters_outside.ensures
