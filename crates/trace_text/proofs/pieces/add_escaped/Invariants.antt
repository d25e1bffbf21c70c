use Rattle.std.proofs.Common.{◌≡◌, ◌++◌, drop}
use Rattle.trace_text.specs.Pieces.{escaped}
use Rattle.trace_text.proofs.pieces.add_escaped.Given as goal

abbrev pub invariant-loop-byte : goal.invariant-loop-byte
invariant-loop-byte l =
    l.text.items ++ escaped (drop l.byte-index l.bytes) ≡ l.initial.text.items ++ escaped l.bytes
