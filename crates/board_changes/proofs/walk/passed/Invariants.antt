use Rattle.std.proofs.Common.{◌-◌, length}
use Rattle.board_changes.specs.Walks.{HasPassed}
use Rattle.board_changes.proofs.walk.passed.Given as goal

abbrev pub invariant-loop-place : goal.invariant-loop-place
invariant-loop-place g l = HasPassed g.V.Identified.number l.list l.place l.id

abbrev pub decreases-loop-place : goal.decreases-loop-place
decreases-loop-place g l = length l.list - l.place
