use Rattle.std.proofs.Common.{append_assoc}
use Rattle.std.proofs.lemmas.Result.{IfOk-equal}
use Rattle.debug_texts.specs.Target.{special_registers}
use Rattle.debug_texts.proofs.target.add_special.Goals as goal

pub returns : goal.returns
unfolding special_registers
returns c = IfOk-equal c.add-5.result _ _ _ c.add-5.ensures (rw (c.in_ok-add-4.ensures, c.in_ok-add-3.ensures, c.in_ok-add-2.ensures, c.in_ok-add.ensures) (simp append_assoc))
