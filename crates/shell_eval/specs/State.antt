-- What evaluation reads and changes.
use Rattle.std.specs.Prelude.{ℕ, List}
use Rattle.mem_partition.specs.State.{PartState}
use Rattle.board_bus.specs.BusState.{BusState}
use Rattle.symbol_table.specs.declared.symbol.Symbol.{Symbol}
use Rattle.symbol_table.specs.State.{TableState}
use Rattle.wind_base.specs.OutBuf.{Output}

-- the symbols in order of adding, the partition, RAM with the device slots, and the bytes written
pub record State : Type 0 where
  pub symbols : List Symbol
  pub pool : PartState
  pub memory : BusState
  pub output : List ℕ

-- the state of these parts
abbrev pub state_of : TableState → PartState → BusState → Output → State
state_of table pool memory out = record { symbols = table.list; pool = pool; memory = memory; output = out.bytes }
