use Rattle.std.proofs.Common.{append_assoc}
use Rattle.std.proofs.lemmas.Result.{IfOk-equal}
use Rattle.debug_texts.specs.Lists.{thread_text}
use Rattle.debug_texts.proofs.lists.add_thread.Goals as goal

pub returns : goal.returns
unfolding thread_text
returns c = IfOk-equal c.add-4.result _ _ _ c.add-4.ensures (rw (c.in_ok-add_xml-2.ensures, c.in_ok-add-3.ensures, c.in_ok-add_xml.ensures, c.in_ok-add-2.ensures, c.in_ok-add_number.ensures, c.in_ok-add.ensures) (simp append_assoc))
