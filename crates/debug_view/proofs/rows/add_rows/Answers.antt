use Rattle.std.proofs.Common.{append_assoc}
use Rattle.std.proofs.lemmas.Result.{IfOk-equal}
use Rattle.debug_view.specs.Rows.{rows_of}
use Rattle.debug_view.proofs.Listed.{three_lists}
use Rattle.debug_view.proofs.rows.add_rows.Goals as goal

pub returns : goal.returns
unfolding rows_of
returns g c =
    IfOk-equal c.add_ended.result _ _ _ c.add_ended.ensures
    (rw (c.in_ok-add_interrupt.ensures, c.in_ok-add_tasks.ensures) (simp (append_assoc, three_lists)))
