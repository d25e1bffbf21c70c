use Rattle.std.proofs.Common.{◌≡◌, ◌++◌, ◌-◌, map}
use Rattle.trace_state.specs.Modules.{module_data}
use Rattle.trace_state.specs.Held.{items_in}
use Rattle.trace_state.proofs.Rows.{rows_above}
use Rattle.trace_state.proofs.modules.modules.Given as goal

-- the modules up to the last id are items
abbrev pub invariant-loop-id : goal.invariant-loop-id
invariant-loop-id l =
    items_in l.items ++ map (λ r. module_data r.0 r.1) (rows_above l.last l.modules.rows) ≡ map (λ r. module_data r.0 r.1) l.modules.rows

abbrev pub decreases-loop-id : goal.decreases-loop-id
decreases-loop-id l = 1048576 - l.last
