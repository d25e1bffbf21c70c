use Rattle.std.proofs.Common.{◌≡◌, length}
use Rattle.live_session.specs.Cutting.{whole_lines}
use Rattle.live_session.proofs.reading.whole_lines.Given as goal

-- what is left has the same whole lines
abbrev pub invariant-loop-last : goal.invariant-loop-last
invariant-loop-last l = whole_lines l.text ≡ whole_lines l.rest

abbrev pub decreases-loop-last : goal.decreases-loop-last
decreases-loop-last l = length l.rest
