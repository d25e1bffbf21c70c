use Rattle.std.proofs.Common.{◌*◌}
use Rattle.trace_state.specs.Inside.{HoldsRanges}
use Rattle.trace_state.specs.Memory.{ranges_of, unit_bytes}
use Rattle.trace_state.proofs.memory.ranges.Given as goal

-- the ranges are those of the first units
abbrev pub invariant-loop-place : goal.invariant-loop-place
invariant-loop-place l = HoldsRanges (l.place * unit_bytes) l.ranges (ranges_of l.ram.bytes l.place)
