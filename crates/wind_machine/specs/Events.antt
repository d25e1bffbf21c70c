-- What comes from outside: interrupts of devices, bytes of the console and events of the tick file. They take no board
-- time; a jump moves board time to the next event.
use Rattle.std.specs.Prelude.{ℕ, ◌+◌, List, [], ◌++◌, Option, Bool, if◌then◌else◌, fold, take, drop}
use Rattle.id_table.specs.Sorting.{first}
use Rattle.tick_file.specs.Schedule.{Timed, Timetable}
use Rattle.tick_file.specs.declared.event.Event.{Event}
use Rattle.tick_file.specs.declared.event.Event.TheVariants.{Tick, Rx, Irq}
use Rattle.wind_core.specs.State.{KernState}
use Rattle.wind_core.specs.Moves.{release}
use Rattle.wind_core.specs.Tick.{tick}
use Rattle.isr_watch.specs.Calls.{due, begun}
use Rattle.wind_outside.specs.Devices.{DeviceState}
use Rattle.dev_irq.specs.declared.line.Line.{Line}
use Rattle.dev_irq.specs.State.{routines_of}
use Rattle.dev_irq.specs.Calls.{raised, delivered}
use Rattle.live_loading.specs.CallRowsIrqRows.{is_device}
use Rattle.con_line.specs.State.{ConsoleState}
use Rattle.con_line.specs.Keys.{after_byte, byte_echo, byte_done}
use Rattle.con_line.specs.declared.console.ByteDone.{ByteDone}
use Rattle.con_line.specs.declared.console.ByteDone.TheVariants as done
use Rattle.live_loading.specs.KernelWorldState.{WorldState}
use Rattle.id_table.specs.Idents.{shell_id}
use Rattle.wind_machine.specs.State.{ShellState, State}
use Rattle.wind_machine.specs.Feed.{chunk, after_chunk, brought}
use Rattle.wind_machine.specs.Task.{waits_for_console, aborted}
use Rattle.wind_machine.specs.Reserving.{drop_all}
use Rattle.wind_machine.specs.Part.{with_kern}
use Rattle.wind_machine.specs.Shell.{at_prompt}
use Rattle.wind_machine.specs.Routine.{interrupt_top}
use Rattle.wind_machine.specs.declared.phase.Phase.TheVariants as phases

-- ---- bytes of the console arrive
-- what they change, and what they have written
pub record Heard : Type 0 where
  pub console : ConsoleState
  pub shell : ShellState
  pub kern : KernState
  pub echo : List ℕ

-- what a byte does to the shell and its task: an interrupt aborts them; a finished line wakes a shell that waits,
-- and it reads the line next
abbrev pub shell_after : ByteDone → Bool → ShellState → ShellState
shell_after done.Abort waits s = at_prompt
shell_after done.Line waits s = if waits then record s { phase = phases.Read } else s
shell_after done.Kept waits s = s

abbrev pub kern_after : ByteDone → Bool → KernState → KernState
kern_after done.Abort waits k = aborted k
kern_after done.Line waits k = if waits then release k shell_id else k
kern_after done.Kept waits k = k

-- one byte arrives
abbrev pub hear : Heard → ℕ → Heard
hear h b = record {
  console = after_byte h.console b;
  shell = shell_after (byte_done h.console b) (waits_for_console h.kern) h.shell;
  kern = kern_after (byte_done h.console b) (waits_for_console h.kern) h.kern;
  echo = h.echo ++ byte_echo h.console b;
}

-- bytes arrive, one after the other
unfoldable pub heard_all : Heard → List ℕ → Heard
heard_all h bytes = fold hear h bytes

abbrev pub heard_from : ConsoleState → ShellState → KernState → List ℕ → Heard
heard_from console shell kern echo = record { console = console; shell = shell; kern = kern; echo = echo }

-- the world at the beginning of a step: the output is empty
abbrev pub cleared : WorldState → WorldState
cleared w = record w { output = [] }

abbrev pub after_hearing : WorldState → Heard → WorldState
after_hearing w h = record w { kern = h.kern; output = h.echo }

-- bytes arrive, which takes no board time, and others are left
abbrev pub arrived : State → List ℕ → Heard → State
arrived s left h = record s { left = left; console = h.console; shell = h.shell; world = after_hearing s.world h; steps = s.steps + 1 }

abbrev pub heard_by : State → List ℕ → Heard
heard_by s bytes = heard_all (heard_from s.console s.shell s.world.kern []) bytes

-- the next chunk arrives
abbrev pub arrival : State → State
arrival s = arrived s (after_chunk s.left) (heard_by s (chunk s.left))

-- ---- events of the tick file
abbrev pub next_event : State → Option Timed
next_event s = first s.schedule.events

abbrev pub without_next : Timetable → Timetable
without_next t = record t { events = drop 1 t.events }

-- an event drops all reservations
abbrev pub unreserved_world : WorldState → WorldState
unreserved_world w = with_kern w (drop_all w.kern)

-- the kernel's tick, and then the watchdogs due at it
abbrev pub tick_world : WorldState → WorldState
tick_world w = record w { kern = tick w.kern; watch = due w.watch (tick w.kern).tick interrupt_top }

abbrev pub ticked : State → State
ticked s = record s { world = cleared (tick_world s.world); steps = s.steps + 1 }

-- n bytes arrive, as the tick file asks
abbrev pub received : State → ℕ → State
received s n = arrived s (drop (brought n) s.left) (heard_by s (take (brought n) s.left))

-- the device in a slot interrupts: one more interrupt of it is pending; nothing if the slot is empty
abbrev pub lines_raised : List Line → List (Option DeviceState) → ℕ → List Line
lines_raised irqs slots i = if is_device slots i then raised irqs i else irqs

abbrev pub irq_world : WorldState → ℕ → WorldState
irq_world w i = record w { irqs = lines_raised w.irqs w.slots i }

abbrev pub interrupted : State → ℕ → State
interrupted s i = record s { world = cleared (irq_world s.world i); steps = s.steps + 1 }

abbrev pub event_comes : State → Event → State
event_comes s Tick = ticked s
event_comes s (Rx n) = received s n
event_comes s (Irq i) = interrupted s i

-- the next event of the tick file occurs, which takes no board time
abbrev pub event_step : State → Event → State
event_step s e = event_comes (record s { schedule = without_next s.schedule; world = unreserved_world s.world }) e

-- ---- a delivery
-- one interrupt of a slot fewer is pending, and the slot's routines begin at the interrupt level
abbrev pub delivered_world : WorldState → ℕ → WorldState
delivered_world w i = record w { irqs = delivered w.irqs i; watch = begun w.watch (routines_of w.irqs i) interrupt_top }

-- an interrupt is delivered, which takes no board time and drops all reservations
abbrev pub delivery_step : State → ℕ → State
delivery_step s i = record s { world = cleared (delivered_world (unreserved_world s.world) i); steps = s.steps + 1 }

-- board time becomes this: the time of the next event
abbrev pub jump : State → ℕ → State
jump s time = record s { world = cleared s.world; time = time; steps = s.steps + 1 }
