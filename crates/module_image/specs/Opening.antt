-- What loads find at the start: the symbols of the kernel's calls, and the two blocks of the pool.
use Rattle.std.specs.Prelude.{ℕ, ◌+◌, List, [], ◌∷◌, ◌++◌, Option, None, Some, true}
use Rattle.wind_base.specs.Limits.{pool_start, shell_stack_bytes, interrupt_stack_bytes}
use Rattle.wind_base.specs.Gates.{gate_name, gate_number, gate_address}
use Rattle.wind_base.specs.declared.gate.Gate.{Gate}
use Rattle.mem_partition.specs.declared.block.Block.{Block}
use Rattle.mem_partition.specs.declared.block.Class.TheVariants.{Kernel}
use Rattle.symbol_table.specs.declared.symbol.Symbol.{Symbol}
use Rattle.symbol_table.specs.declared.symbol.SymKind.TheVariants.{TextSym}

-- ---- symbols
-- the symbol of a call, if the first gate is at `base`: it is global, and its value is the address of the call's gate
abbrev pub gate_symbol : ℕ → Gate → List ℕ → Symbol
gate_symbol base g name = record { name = name; value = gate_address base g; kind = TextSym; global = true; group = 0 }

abbrev pub symbol_if_named : ℕ → Gate → Option (List ℕ) → List Symbol
symbol_if_named base g None = []
symbol_if_named base g (Some name) = gate_symbol base g name ∷ []

abbrev pub symbols_of_gate : ℕ → Gate → List Symbol
symbols_of_gate base g = symbol_if_named base g (gate_name (gate_number g))

-- the symbols of the calls, in the order of their gates
abbrev pub gate_symbols : ℕ → List Gate → List Symbol
gate_symbols base [] = []
gate_symbols base (g ∷ gs) = symbols_of_gate base g ++ gate_symbols base gs

-- ---- blocks
-- the interrupt stack comes after the stack of the shell's task
abbrev pub interrupt_stack : ℕ
interrupt_stack = pool_start + shell_stack_bytes

-- the block of a stack
abbrev pub stack_block : ℕ → ℕ → Block
stack_block at size = record { addr = at; size = size; class = Kernel }

-- the two stacks are the first blocks of the pool
abbrev pub opening_blocks : List Block
opening_blocks = stack_block pool_start shell_stack_bytes ∷ stack_block interrupt_stack interrupt_stack_bytes ∷ []
