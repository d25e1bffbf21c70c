use Rattle.std.proofs.Common.{Bool, ℕ, if◌then◌else◌, [], ◌+◌, subst, sym, ◌∙◌}
use Rattle.std.proofs.lemmas.Result.{on_ok_weaker}
use Rattle.wind_session.specs.BoardPlayerSeen.{board_by}
use Rattle.trace_text.specs.Forms.{Gained}
use Rattle.trace_json.specs.Chrome.{AreMembers}
use Rattle.trace_json.proofs.Gaining.{gained_none}
use Rattle.trace_session.specs.Choice.{choice_state, is_step}
use Rattle.trace_session.specs.Counters.{CountsState, counter_objects, counts_in, counts_state, no_counts}
use Rattle.trace_session.proofs.counters.add_counters_outside.Goals as goal

pub returns-then-has_step : goal.returns-then-has_step
returns-then-has_step g c =
    let state = board_by (λ d. (goal.Device-dyn g (d.vtable, d.value)).kind_of d.value) (λ d. (goal.Device-dyn g (d.vtable, d.value)).words_of d.value) in
    let new = state c.args.board.now in
    let choice = choice_state c.args.choice.now in
    let P : Bool → Type 0 = λ b. Gained (AreMembers (if b then counter_objects choice new.time no_counts (counts_in new) else [])) c.args.text.now.items c.add_all.new.text.items in
    let T : ℕ → CountsState → Type 0 = λ time counts. Gained (AreMembers (counter_objects choice time no_counts counts)) c.args.text.now.items c.add_all.new.text.items in
    on_ok_weaker c.add_all.result
    (λ gained. subst P (sym c.if-has_step.true ∙ c.has_step.ensures) (subst (T new.time) c.requires.after (subst (λ time. T time (counts_state c.args.after.now)) c.time.ensures gained)))
    c.add_all.ensures

pub returns : goal.returns
returns g c =
    let state = board_by (λ d. (goal.Device-dyn g (d.vtable, d.value)).kind_of d.value) (λ d. (goal.Device-dyn g (d.vtable, d.value)).words_of d.value) in
    let new = state c.args.board.now in
    let choice = choice_state c.args.choice.now in
    let P : Bool → Type 0 = λ b. Gained (AreMembers (if b then counter_objects choice new.time no_counts (counts_in new) else [])) c.args.text.now.items c.args.text.now.items in
    subst P (sym c.if-has_step.false ∙ c.has_step.ensures) (gained_none c.args.text.now.items)
