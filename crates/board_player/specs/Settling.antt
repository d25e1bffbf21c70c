-- How a step ends: priorities are settled.
use Rattle.std.specs.Prelude.{◌≡◌, ◌≤◌, ◌+◌, Some}
use Rattle.std.specs.Bool.{⊤}
use Rattle.std.specs.List.{All}
use Rattle.std.specs.Option.{option_map}
use Rattle.wind_base.specs.Limits.{most_steps}
use Rattle.tick_file.specs.declared.event.Event.{Event}
use Rattle.tick_file.specs.declared.event.Event.TheVariants.{Tick, Rx, Irq}
use Rattle.wind_core.specs.State.{KernState, WakesAhead}
use Rattle.wind_machine.specs.LiveLoadingSaid.{FileSaid}
use Rattle.wind_machine.specs.State.{State}
use Rattle.wind_machine.specs.Good.{KeepsEffect}
use Rattle.wind_machine.specs.Machine.{state_after, settled_state}
use Rattle.wind_machine.specs.declared.next.Next.{Next}

-- a step left this state, and its priorities can be settled
abbrev pub CanSettle : State → Type 0
CanSettle s = KeepsEffect s × (s.steps ≤ most_steps)

-- a step for which this comes next leads from s to t, whatever the folder answers about a file
abbrev pub Makes : State → Next → State → Type 0
Makes s n t = (said : FileSaid) → option_map settled_state (state_after said s n) ≡ Some t

-- the event ends no wait and no delay: an interrupt of a device, or a tick at which no task wakes
abbrev pub IsQuiet : KernState → Event → Type 0
IsQuiet k Tick = All (WakesAhead (k.tick + 1)) k.tasks
IsQuiet k (Rx n) = ⊥
IsQuiet k (Irq slot) = ⊤
