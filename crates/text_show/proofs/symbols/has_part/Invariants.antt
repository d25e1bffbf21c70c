use Rattle.std.proofs.Common.{◌≡◌, length}
use Rattle.text_show.specs.Symbols.{has_part}
use Rattle.text_show.proofs.symbols.has_part.Given as goal

abbrev pub invariant-loop-rest : goal.invariant-loop-rest
invariant-loop-rest l = has_part l.part l.rest ≡ has_part l.part l.text

abbrev pub decreases-loop-rest : goal.decreases-loop-rest
decreases-loop-rest l = length l.rest
