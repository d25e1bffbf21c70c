use Rattle.std.proofs.Common.{◌≡◌, ◌++◌, drop}
use Rattle.debug_texts.specs.Xml.{xml}
use Rattle.debug_texts.proofs.xml.add_xml.Given as goal

abbrev pub invariant-loop-byte : goal.invariant-loop-byte
invariant-loop-byte l = l.text.items ++ xml (drop l.byte-index l.bytes) ≡ l.initial.text.items ++ xml l.bytes
