-- What a step of a task leaves.
use Rattle.std.specs.Prelude.{ℕ, List, ◌++◌}
use Rattle.wind_core.specs.State.{KernState}
use Rattle.live_loading.specs.KernelWorldState.{WorldState}
use Rattle.wind_machine.specs.State.{ShellState}

-- the shell and the world
pub record Part : Type 0 where
  pub shell : ShellState
  pub world : WorldState

abbrev pub part_of : ShellState → WorldState → Part
part_of shell w = record { shell = shell; world = w }

-- the world with another kernel
abbrev pub with_kern : WorldState → KernState → WorldState
with_kern w k = record w { kern = k }

-- the world after it has also written a text
abbrev pub writing : WorldState → List ℕ → WorldState
writing w text = record w { output = w.output ++ text }
