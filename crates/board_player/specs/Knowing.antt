-- What the code makes of an event, and of the interrupts of devices.
use Rattle.std.specs.Prelude.{Bool, ◌&&◌, Option, None, Some}
use Rattle.std.specs.List.{list_any}
use Rattle.tick_file.specs.Schedule.{Timed}
use Rattle.dev_irq.specs.State.{is_waiting}
use Rattle.wind_machine.specs.State.{State}
use Rattle.wind_machine.specs.Next.{is_open}
use Rattle.wind_machine.specs.declared.next.Next.{Next}
use Rattle.wind_machine.specs.declared.next.Next.TheVariants.{Jump, Over}

-- if nobody runs, time jumps to the next event, or the run is over
abbrev pub jump_or_over : Option Timed → Next
jump_or_over None = Over
jump_or_over (Some e) = Jump e.time

-- an interrupt of a device may be due: interrupts may come, and a line is waiting, whether or not its slot holds a
-- device
abbrev pub may_deliver : State → Bool
may_deliver s = is_open s && list_any is_waiting s.world.irqs
