use Rattle.std.proofs.Common.{◌≡◌, ◌++◌, List, None, ℕ, ap, ap₂, subst, ◌∙◌}
use Rattle.std.specs.List.{flat_map}
use Rattle.std.proofs.lemmas.Result.{on_ok_weaker}
use Rattle.board_changes.specs.Spans.{SpanState, closed}
use Rattle.board_changes.specs.declared.spans.Span.{Span}
use Rattle.trace_text.specs.Forms.{Gained}
use Rattle.trace_json.specs.Chrome.{AreMembers, IsLastMember, closing_data}
use Rattle.trace_json.proofs.Gaining.{gained_both}
use Rattle.wind_session.specs.BoardPlayerSeen.{board_by}
use Rattle.trace_session.specs.Choice.{choice_state}
use Rattle.trace_session.specs.Chrome.{left_spans, level_objects, span_objects}
use Rattle.trace_session.proofs.Charting.{list_ended}
use Rattle.trace_session.proofs.charter.Charter.add_end.Goals as goal

pub returns : goal.returns
returns g c =
    let state = board_by (λ d. (goal.Device-dyn g (d.vtable, d.value)).kind_of d.value) (λ d. (goal.Device-dyn g (d.vtable, d.value)).words_of d.value) in
    let new = state c.args.board.now in
    let choice = choice_state c.args.self.now.choice.now in
    let spans : c.done.result.now ≡ left_spans c.args.self.now.spans new.time =
    c.done.ensures ∙ ap (λ (x : SpanState). x.done) (c.in_ok-close.ensures ∙ ap₂ closed c.forget_done.ensures c.time-time.ensures) in
    let P : List Span → Type 0 = λ xs. Gained (AreMembers (flat_map (span_objects choice) xs)) c.args.self.now.text.items c.add_spans.new.text.items in
    let R : ℕ → Type 0 = λ time. Gained (AreMembers (level_objects choice c.args.self.now.level None time)) c.add_spans.new.text.items c.add_level.new.text.items in
    let Q : ℕ → ℕ → List ℕ → Type 0 = λ time step how. Gained (IsLastMember (closing_data time step how)) c.add_level.new.text.items c.close_list.new.text.items in
    on_ok_weaker c.close_list.result
    (λ ended given objects begins.
    list_ended objects (flat_map (span_objects choice) (left_spans c.args.self.now.spans new.time) ++ level_objects choice c.args.self.now.level None new.time) _ given _ _ _ begins
    (gained_both _ _ _ _ _ (subst P spans c.in_ok-add_spans.ensures) (subst R c.time-time.ensures c.in_ok-add_level.ensures))
    (subst (λ n. Q new.time new.steps n) c.how.ensures (subst (λ n. Q new.time n c.how.result.now) c.steps.ensures (subst (λ n. Q n c.steps.result c.how.result.now) c.time-time.ensures ended))))
    c.close_list.ensures
