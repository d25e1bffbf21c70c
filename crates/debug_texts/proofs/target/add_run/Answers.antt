use Rattle.std.proofs.Common.{append_assoc}
use Rattle.std.proofs.lemmas.Result.{IfOk-equal}
use Rattle.debug_texts.specs.Target.{run_registers}
use Rattle.debug_texts.proofs.target.add_run.Goals as goal

pub returns : goal.returns
unfolding run_registers
returns c = IfOk-equal c.add-2.result _ _ _ c.add-2.ensures (rw (c.in_ok-add_run_register-3.ensures, c.in_ok-add_run_register-2.ensures, c.in_ok-add_run_register.ensures, c.in_ok-add.ensures) (simp append_assoc))
