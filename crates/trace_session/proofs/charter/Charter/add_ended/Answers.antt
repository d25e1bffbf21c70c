use Rattle.std.proofs.Common.{List, Option, ℕ, ap, subst, ◌∙◌}
use Rattle.std.specs.List.{flat_map}
use Rattle.std.proofs.lemmas.Result.{on_ok_weaker}
use Rattle.wind_session.specs.BoardPlayerSeen.{board_by}
use Rattle.board_changes.specs.Spans.{SpanState}
use Rattle.board_changes.specs.declared.spans.Span.{Span}
use Rattle.board_trace.specs.Views.{SnapshotState}
use Rattle.trace_text.specs.Forms.{Gained}
use Rattle.trace_json.specs.Chrome.{AreMembers}
use Rattle.trace_json.proofs.Gaining.{gained_both}
use Rattle.trace_session.specs.Choice.{choice_state}
use Rattle.trace_session.specs.Chrome.{level_by, level_objects, span_objects}
use Rattle.trace_session.specs.Spans.{looked_by}
use Rattle.trace_session.proofs.charter.Charter.add_ended.Goals as goal

pub look-requires-clause-tasks : goal.look-requires-clause-tasks
look-requires-clause-tasks g c = c.deref.ensures.value ∙ ap (λ (v : SnapshotState). v.tasks) c.requires.after

pub returns-clause-spans : goal.returns-clause-spans
returns-clause-spans g c =
    let state = board_by (λ d. (goal.Device-dyn g (d.vtable, d.value)).kind_of d.value) (λ d. (goal.Device-dyn g (d.vtable, d.value)).words_of d.value) in
    on_ok_weaker c.add_level.result (λ _. c.in_ok-look.ensures ∙ ap (λ (x : SpanState). looked_by (choice_state c.args.self.now.choice.now) c.args.before_step.now x (state c.args.board.now)) c.forget_done.ensures) c.add_level.ensures

pub returns-clause-text : goal.returns-clause-text
returns-clause-text g c =
    let state = board_by (λ d. (goal.Device-dyn g (d.vtable, d.value)).kind_of d.value) (λ d. (goal.Device-dyn g (d.vtable, d.value)).words_of d.value) in
    let new = state c.args.board.now in
    let old = c.args.self.now in
    let choice = choice_state old.choice.now in
    let b = c.args.before_step.now in
    let P : List Span → Type 0 = λ spans. Gained (AreMembers (flat_map (span_objects choice) spans)) old.text.items c.add_spans.new.text.items in
    let Q : Option ℕ → ℕ → Type 0 = λ later time. Gained (AreMembers (level_objects choice old.level later time)) c.add_spans.new.text.items c.add_level.new.text.items in
    on_ok_weaker c.add_level.result
    (λ gained.
    gained_both _ _ _ _ _
    (subst P (c.done.ensures ∙ ap (λ (x : SpanState). x.done) (c.in_ok-look.ensures ∙ ap (λ (x : SpanState). looked_by choice b x new) c.forget_done.ensures)) c.in_ok-add_spans.ensures)
    (subst (Q (level_by choice old.level new)) c.time-time.ensures (subst (λ l. Q l c.time-time.result) c.level_by-self.ensures gained)))
    c.add_level.ensures
