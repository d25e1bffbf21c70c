use Rattle.std.proofs.Common.{◌≤◌}
use Rattle.trace_picture.proofs.axis.round_step.Given as goal

abbrev pub invariant-loop-place : goal.invariant-loop-place
invariant-loop-place l = 1 ≤ l.step
