-- What comes next: the order of the next step.
use Rattle.std.specs.Prelude.{◌≡◌, ℕ, List, [], ◌∷◌, Option, Some, None, is_some, Bool, true, false, ◌==◌, ◌&&◌, not, nat_le, if◌then◌else◌, length, map}
use Rattle.std.specs.Option.{option_map}
use Rattle.std.specs.List.{range_with_len}
use Rattle.wind_base.specs.Limits.{most_slots}
use Rattle.wind_outside.specs.Devices.{DeviceState}
use Rattle.task_block.specs.declared.task.Task.{Task}
use Rattle.tick_file.specs.Schedule.{Timed}
use Rattle.tick_file.specs.declared.event.Event.{Event}
use Rattle.wind_core.specs.Orders.{running, runner}
use Rattle.con_line.specs.Lines.{has_line}
use Rattle.board_bus.specs.Slots.{is_occupied}
use Rattle.dev_irq.specs.State.{next as next_delivery}
use Rattle.live_loading.specs.KernelWorldState.{WorldState}
use Rattle.id_table.specs.Idents.{shell_id}
use Rattle.wind_machine.specs.State.{State}
use Rattle.wind_machine.specs.Task.{waits_for_console}
use Rattle.wind_machine.specs.Events.{next_event}
use Rattle.wind_machine.specs.ActorSteps.{file_for}
use Rattle.wind_machine.specs.declared.next.Next.{Next}
use Rattle.wind_machine.specs.declared.next.Next.TheVariants.{Deliver, Come, Arrive, Routine, Act, Load, Jump, Over}

-- ---- what is due
-- an interrupt routine is active
abbrev pub is_active : WorldState → Bool
is_active w = is_some w.watch.level

-- whoever runs holds interrupts back
abbrev pub holds_back : Option Task → Bool
holds_back None = false
holds_back (Some t) = t.int_locked

-- interrupts may come: no routine is active, and whoever runs does not hold them back
abbrev pub is_open : State → Bool
is_open s = not (is_active s.world) && not (holds_back (running s.world.kern))

-- which slots hold devices
unfoldable pub occupied : List (Option DeviceState) → List Bool
occupied slots = map (is_occupied slots) (range_with_len 0 most_slots)

-- an interrupt of a device is due: one can be delivered, and interrupts may come; of several slots it is the least
abbrev pub due_delivery : State → Option ℕ
due_delivery s = if is_open s then next_delivery (occupied s.world.slots) s.world.irqs else None

abbrev pub event_of : Timed → Event
event_of e = e.event

abbrev pub time_of : Timed → ℕ
time_of e = e.time

-- an event is due: its time has come, and interrupts may come
abbrev pub due_at : ℕ → Option Timed → Option Timed
due_at time None = None
due_at time (Some e) = if nat_le e.time time then Some e else None

abbrev pub due_event : State → Option Timed
due_event s = if is_open s then due_at s.time (next_event s) else None

-- the console is due: input comes on demand, bytes are left, the shell waits for them, there is no finished line,
-- and interrupts may come
abbrev pub console_is_due : State → Bool
console_is_due s = is_open s && (s.schedule.on_demand && (not (length s.left == 0) && (waits_for_console s.world.kern && not (has_line s.console))))

-- ---- the order
-- the first of these that there is; if there is none, the run is over
abbrev pub first_or_over : List (Option Next) → Next
first_or_over [] = Over
first_or_over (None ∷ others) = first_or_over others
first_or_over (Some n ∷ others) = n

abbrev pub when : Bool → Next → Option Next
when is n = if is then Some n else None

-- the step of the task with this id; it is a load if it needs a file
abbrev pub act_or_load : ℕ → Option (List ℕ) → Next
act_or_load who None = Act who
act_or_load who (Some name) = Load name

abbrev pub task_next : State → ℕ → Next
task_next s who = act_or_load who (file_for s who)

-- a due interrupt of a device is delivered; else a due event occurs; else a chunk of the console arrives; else the
-- active interrupt routine makes a step; else the running task does; else time jumps to the next event; else the run is
-- over
unfoldable pub next : State → Next
next s = first_or_over (
    option_map (λ i. Deliver i) (due_delivery s)
    ∷ option_map (λ e. Come e.event) (due_event s)
    ∷ when (console_is_due s) Arrive
    ∷ when (is_active s.world) Routine
    ∷ option_map (task_next s) (runner s.world.kern)
    ∷ option_map (λ e. Jump e.time) (next_event s)
    ∷ [])

-- ---- when each of them comes
-- nothing is due: no interrupt of a device, no event, and not the console
pub record NothingIsDue (s : State) : Type 0 where
  pub delivery : due_delivery s ≡ None
  pub event : due_event s ≡ None
  pub console : console_is_due s ≡ false

-- the step is left to the tasks: nothing is due, and no interrupt routine is active
pub record IsLeftToTasks (s : State) : Type 0 where
  pub nothing_due : NothingIsDue s
  pub idle : is_active s.world ≡ false

-- what holds in the state if this comes next
abbrev pub ComesNext : State → Next → Type 0
ComesNext s (Deliver i) = due_delivery s ≡ Some i
ComesNext s (Come e) = (due_delivery s ≡ None) × (option_map event_of (due_event s) ≡ Some e)
ComesNext s Arrive = (due_delivery s ≡ None) × (due_event s ≡ None) × (console_is_due s ≡ true)
ComesNext s Routine = NothingIsDue s × (is_active s.world ≡ true)
ComesNext s (Act who) = IsLeftToTasks s × (runner s.world.kern ≡ Some who) × (file_for s who ≡ None)
ComesNext s (Load name) = IsLeftToTasks s × (runner s.world.kern ≡ Some shell_id) × (file_for s shell_id ≡ Some name)
ComesNext s (Jump time) = IsLeftToTasks s × (runner s.world.kern ≡ None) × (option_map time_of (next_event s) ≡ Some time)
ComesNext s Over = IsLeftToTasks s × (runner s.world.kern ≡ None) × (next_event s ≡ None)
