use Rattle.std.proofs.Common.{◌≡◌, ◌++◌, drop, map}
use Rattle.trace_state.specs.Memory.{block_data}
use Rattle.trace_state.specs.Held.{items_in}
use Rattle.trace_state.proofs.memory.blocks.Given as goal

abbrev pub invariant-loop-block : goal.invariant-loop-block
invariant-loop-block l = items_in l.items ++ map block_data (drop l.block-index l.block-items) ≡ map block_data l.part.blocks
