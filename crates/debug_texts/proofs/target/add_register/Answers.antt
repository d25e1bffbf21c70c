use Rattle.std.proofs.Common.{append_assoc}
use Rattle.std.proofs.lemmas.Result.{IfOk-equal}
use Rattle.debug_texts.specs.Target.{general_register}
use Rattle.debug_texts.proofs.target.add_register.Goals as goal

pub returns : goal.returns
unfolding general_register
returns c = IfOk-equal c.add-2.result _ _ _ c.add-2.ensures (rw (c.in_ok-add_decimal.ensures, c.in_ok-add.ensures) (simp append_assoc))
