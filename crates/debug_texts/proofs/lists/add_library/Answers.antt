use Rattle.std.proofs.Common.{append_assoc}
use Rattle.std.proofs.lemmas.Result.{IfOk-equal}
use Rattle.debug_texts.specs.Lists.{library_text}
use Rattle.debug_texts.proofs.lists.add_library.Goals as goal

pub returns : goal.returns
unfolding library_text
returns c = IfOk-equal c.add-3.result _ _ _ c.add-3.ensures (rw (c.in_ok-add_sections.ensures, c.in_ok-add-2.ensures, c.in_ok-add_xml.ensures, c.in_ok-add_directory.ensures, c.in_ok-add.ensures) (simp append_assoc))
