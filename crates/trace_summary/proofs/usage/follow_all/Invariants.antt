use Rattle.std.proofs.Common.{◌≡◌, ◌++◌, drop, map, take}
use Rattle.trace_summary.specs.Using.{moved}
use Rattle.trace_summary.proofs.usage.follow_all.Given as goal

-- the first objects were gone through
abbrev pub invariant-loop-usage : goal.invariant-loop-usage
invariant-loop-usage l = l.uses ≡ map (moved l.step) (take l.usage-index l.initial.uses) ++ drop l.usage-index l.initial.uses
