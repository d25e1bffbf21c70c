use Rattle.std.proofs.Common.{◌≡◌, ◌++◌, drop, map}
use Rattle.trace_state.specs.Held.{items_in}
use Rattle.trace_state.proofs.objects.rows.Given as goal

-- the first objects are items
abbrev pub invariant-loop-place : goal.invariant-loop-place
invariant-loop-place g l = items_in l.items ++ map (λ r. g.T.Shown.data_of r.0 r.1) (drop l.place l.table.rows) ≡ map (λ r. g.T.Shown.data_of r.0 r.1) l.table.rows
