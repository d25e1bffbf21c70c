use Rattle.std.proofs.Common.{append_assoc}
use Rattle.std.proofs.lemmas.Result.{IfOk-equal}
use Rattle.debug_texts.specs.Target.{target}
use Rattle.debug_texts.proofs.target.add_target.Goals as goal

pub returns : goal.returns
unfolding target
returns c = IfOk-equal c.add_run.result _ _ _ c.add_run.ensures (rw (c.in_ok-add_special.ensures, c.in_ok-add_general.ensures, c.in_ok-add_start.ensures) (simp append_assoc))
