use Rattle.std.proofs.Common.{append_assoc}
use Rattle.std.proofs.lemmas.Result.{IfOk-equal}
use Rattle.debug_texts.specs.Target.{target_start}
use Rattle.debug_texts.proofs.target.add_start.Goals as goal

pub returns : goal.returns
unfolding target_start
returns c = IfOk-equal c.add-4.result _ _ _ c.add-4.ensures (rw (c.in_ok-add-3.ensures, c.in_ok-add-2.ensures, c.in_ok-add.ensures) (simp append_assoc))
