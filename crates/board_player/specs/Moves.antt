-- Pieces of the machine's steps, as the code makes them.
use Rattle.std.specs.Prelude.{ℕ, ◌+◌, ◌++◌, Bool, take, drop}
use Rattle.wind_machine.specs.State.{State}
use Rattle.wind_machine.specs.Feed.{supplied}
use Rattle.wind_machine.specs.Events.{Heard, heard_by, after_hearing}
use Rattle.wind_machine.specs.ActorSteps.{noted}

-- the state after the step of a task
abbrev pub noted_step : State → ℕ → State
noted_step s who = record s { world = noted s.world who; time = s.time + 1; steps = s.steps + 1 }

abbrev pub with_heard : State → Heard → State
with_heard s h = record s { console = h.console; shell = h.shell; world = after_hearing s.world h }

-- n bytes were heard, and then a newline if one is supplied
abbrev pub heard_bytes : State → ℕ → Bool → State
heard_bytes s n is_unended = record (with_heard s (heard_by s (take n s.left ++ supplied is_unended))) { left = drop n s.left }
