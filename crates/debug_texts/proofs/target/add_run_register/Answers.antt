use Rattle.std.proofs.Common.{append_assoc}
use Rattle.std.proofs.lemmas.Result.{IfOk-equal}
use Rattle.debug_texts.specs.Target.{run_register}
use Rattle.debug_texts.proofs.target.add_run_register.Goals as goal

pub returns : goal.returns
unfolding run_register
returns c = IfOk-equal c.add-3.result _ _ _ c.add-3.ensures (rw (c.in_ok-add-2.ensures, c.in_ok-add.ensures) (simp append_assoc))
