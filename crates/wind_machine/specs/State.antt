-- The state of the wind machine, as plain data.
use Rattle.std.specs.Prelude.{ℕ, List, Option}
use Rattle.shell_eval.specs.Pending.{Pending}
use Rattle.tick_file.specs.Schedule.{Timetable}
use Rattle.con_line.specs.State.{ConsoleState}
use Rattle.live_loading.specs.KernelWorldState.{WorldState}
use Rattle.wind_machine.specs.declared.phase.Phase.{Phase}

-- the shell: its phase, and the trees of the statements left; the first is under evaluation, and a statement
-- without a token has none
pub record ShellState : Type 0 where
  pub phase : Phase
  pub trees : List (Option Pending)

-- the wind machine
pub record State : Type 0 where
  -- the bytes of the console file that have not arrived yet
  pub left : List ℕ
  pub console : ConsoleState
  pub shell : ShellState
  -- the kernel, the partition, the symbols, RAM and devices, and the bytes that the last step wrote
  pub world : WorldState
  -- the future events of the tick file
  pub schedule : Timetable
  -- board time, and the number of steps made
  pub time : ℕ
  pub steps : ℕ
