use Rattle.std.proofs.Common.{◌≡◌, [], drop, false}
use Rattle.source_text.specs.Strings.{string_from}
use Rattle.source_text.proofs.quoted.string.Given as goal

-- reading on from the text so far gives the string
abbrev pub invariant-loop-i : goal.invariant-loop-i
invariant-loop-i l = string_from l.mark l.text.items l.i (drop l.i l.bytes) ≡ string_from false [] 0 l.bytes
