-- The thread that a stop names.
use Rattle.std.specs.Prelude.{ℕ, if◌then◌else◌, Option, None, Some, is_some, unwrap_or}
use Rattle.std.specs.Option.{option_or}
use Rattle.board_reading.specs.BoardTraceRunning.{running_task}
use Rattle.kernel_world.specs.State.{WorldState}
use Rattle.debug_view.specs.Threads.{is_told, regs_there}
use Rattle.debug_view.specs.declared.ended.Ended.{Ended}

-- this thread, if it is there
abbrev pub if_there : WorldState → ℕ → Option ℕ
if_there w thread = if is_some (regs_there w thread) then Some thread else None

-- the thread that steps if it lives, else who makes the next step, else who runs, else thread 1
abbrev pub usual_thread : WorldState → ℕ → Option ℕ → ℕ
usual_thread w stepping next = unwrap_or (option_or (if_there w stepping) (option_or next (running_task w))) 1

-- the thread that a stop names: the one that it is for, if it is told, or the usual one
abbrev pub named_thread : WorldState → Option Ended → Option ℕ → ℕ → Option ℕ → ℕ
named_thread w ended None stepping next = usual_thread w stepping next
named_thread w ended (Some who) stepping next = if is_told w ended who then who else usual_thread w stepping next
