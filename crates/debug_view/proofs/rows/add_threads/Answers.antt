use Rattle.std.proofs.Common.{append_assoc}
use Rattle.std.proofs.lemmas.Result.{IfOk-equal}
use Rattle.debug_view.proofs.rows.add_threads.Goals as goal

pub returns : goal.returns
returns g c =
    IfOk-equal c.end_threads.result _ _ _ c.end_threads.ensures
    (rw (c.in_ok-add_rows.ensures, c.in_ok-begin_threads.ensures, c.phase.ensures, c.world.ensures) (simp append_assoc))
