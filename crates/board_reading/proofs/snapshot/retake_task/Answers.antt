use Rattle.std.proofs.Common.{eqb, sym, ap, ◌∙◌}
use Rattle.std.specs.List.{position}
use Rattle.board_reading.proofs.Moving.{no_task_shown, no_view_shown, view_shown}
use Rattle.board_reading.proofs.snapshot.retake_task.Goals as goal

pub returns-in_default : goal.returns-in_default
returns-in_default g c = λ w is moved same. no_task_shown w _ c.args.who is moved _ same c.in_default.ensures

pub returns-in_default-place_of : goal.returns-in_default-place_of
returns-in_default-place_of g c = λ w is moved same. no_view_shown w _ c.args.who is moved _ same (ap (position (λ t. eqb t.id c.args.who)) (sym c.deref.ensures.value) ∙ sym c.in_default-place_of.ensures)

pub returns : goal.returns
returns g c = λ w is moved same. view_shown w _ c.args.who is moved _ same c.in-Some-place_of.place c.in-Some.task.now _ (ap (position (λ t. eqb t.id c.args.who)) (sym c.deref.ensures.value) ∙ sym c.in-Some-place_of.ensures) c.in-Some.ensures c.renew.ensures
