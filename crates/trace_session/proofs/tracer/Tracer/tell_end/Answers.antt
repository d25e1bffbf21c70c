use Rattle.std.proofs.Common.{ap, subst, ◌∙◌, length}
use Rattle.std.proofs.lemmas.Result.{on_ok_weaker}
use Rattle.wind_session.specs.BoardPlayerSeen.{board_by}
use Rattle.board_trace.specs.Views.{SnapshotState}
use Rattle.trace_text.specs.Forms.{Gained, HasLines, OutcomeState}
use Rattle.trace_session.proofs.Puts.{end_put, end_read}
use Rattle.trace_session.proofs.tracer.Tracer.tell_end.Goals as goal

pub returns : goal.returns
returns g c =
    let state = board_by (λ d. (goal.Device-dyn g (d.vtable, d.value)).kind_of d.value) (λ d. (goal.Device-dyn g (d.vtable, d.value)).words_of d.value) in
    let last = end_read (state c.args.board.now) c.args.end _ _ _ _ _ c.time.ensures c.steps.ensures c.how.ensures
    (c.deref.ensures.value ∙ ap (λ (v : SnapshotState). v.tasks) c.requires) (ap length c.left.ensures) in
    let P : OutcomeState → Type 0 = λ e. Gained (g.L.LineForm.is_end e) c.finish.new.self.text c.add_end.new.self.text in
    on_ok_weaker c.add_end.result
    (λ gained given made ends. end_put (HasLines g.L.LineForm.is_line made) _ given _ _ (c.in_ok-finish.ensures.lines given made ends) (subst P last gained))
    c.add_end.ensures.text
