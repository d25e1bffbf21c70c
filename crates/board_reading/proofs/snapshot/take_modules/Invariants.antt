use Rattle.std.proofs.Common.{◌-◌}
use Rattle.board_reading.proofs.Taking.{HasTaken}
use Rattle.board_reading.proofs.snapshot.take_modules.Given as goal

abbrev pub invariant-loop-id : goal.invariant-loop-id
invariant-loop-id l = HasTaken l.modules.rows l.taken.items l.last

abbrev pub decreases-loop-id : goal.decreases-loop-id
decreases-loop-id l = 1048576 - l.last
