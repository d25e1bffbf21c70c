use Rattle.std.proofs.Common.{◌≡◌, ◌++◌, drop, map}
use Rattle.trace_summary.specs.Usage.{closed}
use Rattle.trace_summary.proofs.usage.closed_uses.Given as goal

abbrev pub invariant-loop-usage : goal.invariant-loop-usage
invariant-loop-usage l = l.list.items ++ map (closed l.time) (drop l.usage-index l.uses) ≡ map (closed l.time) l.uses
