use Rattle.std.proofs.Common.{append_assoc}
use Rattle.std.proofs.lemmas.Result.{IfOk-equal}
use Rattle.debug_texts.specs.Lists.{memory_map}
use Rattle.debug_texts.proofs.lists.add_memory_map.Goals as goal

pub returns : goal.returns
unfolding memory_map
returns c = IfOk-equal c.add-3.result _ _ _ c.add-3.ensures (rw (c.in_ok-add_number.ensures, c.in_ok-add-2.ensures, c.in_ok-add.ensures) (simp append_assoc))
