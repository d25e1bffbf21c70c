use Rattle.std.proofs.Common.{◌≡◌, ◌++◌, drop}
use Rattle.debug_texts.specs.Lists.{sections_text}
use Rattle.debug_texts.proofs.lists.add_sections.Given as goal

abbrev pub invariant-loop-address : goal.invariant-loop-address
invariant-loop-address l =
    l.text.items ++ sections_text (drop l.address-index l.addresses) ≡ l.initial.text.items ++ sections_text l.addresses
