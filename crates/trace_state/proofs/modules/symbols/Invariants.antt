use Rattle.std.proofs.Common.{◌≡◌, ◌++◌, drop, map}
use Rattle.trace_state.specs.Modules.{symbol_data}
use Rattle.trace_state.specs.Held.{items_in}
use Rattle.trace_state.proofs.modules.symbols.Given as goal

abbrev pub invariant-loop-place : goal.invariant-loop-place
invariant-loop-place l = items_in l.items ++ map symbol_data (drop l.place l.symbols.list) ≡ map symbol_data l.symbols.list
