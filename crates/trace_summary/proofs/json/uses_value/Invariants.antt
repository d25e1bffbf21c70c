use Rattle.std.proofs.Common.{◌≡◌, ◌++◌, drop, map}
use Rattle.trace_state.specs.Held.{items_in}
use Rattle.trace_summary.specs.Data.{usage_data}
use Rattle.trace_summary.proofs.json.uses_value.Given as goal

abbrev pub invariant-loop-usage : goal.invariant-loop-usage
invariant-loop-usage l = items_in l.items ++ map usage_data (drop l.usage-index l.uses) ≡ map usage_data l.uses
