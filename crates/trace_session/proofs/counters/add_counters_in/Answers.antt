use Rattle.std.proofs.Common.{Bool, ℕ, if◌then◌else◌, [], ap, subst, sym, ◌∙◌}
use Rattle.std.proofs.lemmas.Result.{on_ok_weaker}
use Rattle.wind_session.specs.BoardPlayerSeen.{board_by}
use Rattle.trace_text.specs.Forms.{Gained}
use Rattle.trace_json.specs.Chrome.{AreMembers}
use Rattle.trace_json.proofs.Gaining.{gained_none}
use Rattle.trace_session.specs.Choice.{choice_state, is_step}
use Rattle.trace_session.specs.Counters.{CountsState, counter_objects, counts_in, counts_state}
use Rattle.board_trace.specs.Steps.{is_instruction}
use Rattle.trace_session.proofs.counters.add_counters_in.Goals as goal

-- an instruction has no counters
pub returns-then-is_instruction : goal.returns-then-is_instruction
returns-then-is_instruction g c =
    let state = board_by (λ d. (goal.Device-dyn g (d.vtable, d.value)).kind_of d.value) (λ d. (goal.Device-dyn g (d.vtable, d.value)).words_of d.value) in
    let new = state c.args.board.now in
    let choice = choice_state c.args.choice.now in
    let P : Bool → Type 0 = λ b. Gained (AreMembers (if b then [] else counter_objects choice new.time (counts_state c.args.before.now) (counts_in new))) c.args.text.now.items c.args.text.now.items in
    subst P (sym c.if-is_instruction.true ∙ c.is_instruction.ensures ∙ ap (is_instruction c.args.before_step.now) c.output.ensures) (gained_none c.args.text.now.items)

pub returns : goal.returns
returns g c =
    let state = board_by (λ d. (goal.Device-dyn g (d.vtable, d.value)).kind_of d.value) (λ d. (goal.Device-dyn g (d.vtable, d.value)).words_of d.value) in
    let new = state c.args.board.now in
    let choice = choice_state c.args.choice.now in
    let before = counts_state c.args.before.now in
    let P : Bool → Type 0 = λ b. Gained (AreMembers (if b then [] else counter_objects choice new.time before (counts_in new))) c.args.text.now.items c.add_counters.new.text.items in
    let T : ℕ → CountsState → Type 0 = λ time counts. Gained (AreMembers (counter_objects choice time before counts)) c.args.text.now.items c.add_counters.new.text.items in
    on_ok_weaker c.add_counters.result
    (λ gained.
    subst P (sym c.if-is_instruction.false ∙ c.is_instruction.ensures ∙ ap (is_instruction c.args.before_step.now) c.output.ensures)
    (subst (T new.time) c.requires (subst (λ time. T time (counts_state c.args.after.now)) c.time.ensures gained)))
    c.add_counters.ensures
