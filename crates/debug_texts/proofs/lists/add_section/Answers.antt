use Rattle.std.proofs.Common.{append_assoc}
use Rattle.std.proofs.lemmas.Result.{IfOk-equal}
use Rattle.debug_texts.specs.Lists.{section_text}
use Rattle.debug_texts.proofs.lists.add_section.Goals as goal

pub returns : goal.returns
unfolding section_text
returns c = IfOk-equal c.add-2.result _ _ _ c.add-2.ensures (rw (c.in_ok-add_number.ensures, c.in_ok-add.ensures) (simp append_assoc))
