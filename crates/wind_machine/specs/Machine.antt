-- The wind machine: its opening state and its step.
use Rattle.std.specs.Option.{option_map}
use Rattle.std.specs.Prelude.{◌≡◌, ℕ, List, Option, Some, None, Bool, true, false, ◌==◌, if◌then◌else◌}
use Rattle.wind_base.specs.declared.board_kind.BoardKind.{BoardKind}
use Rattle.wind_base.specs.declared.gate.Gate.{Gate}
use Rattle.wind_base.specs.declared.profile.Profile.{Profile}
use Rattle.wind_outside.specs.Devices.{DeviceState}
use Rattle.tick_file.specs.Schedule.{Timetable}
use Rattle.con_line.specs.State.{opening_console}
use Rattle.id_table.specs.Idents.{shell_id}
use Rattle.live_loading.specs.KernelWorldAllowed.{may_exhaust_memory as call_may_exhaust_memory}
use Rattle.live_loading.specs.KernelWorldOpening.{opening_world}
use Rattle.live_loading.specs.KernelWorldSettling.{settled_world}
use Rattle.live_loading.specs.KernelWorldActor.{Actor}
use Rattle.live_loading.specs.KernelWorldActor.TheVariants.{Task as by_task, Interrupt}
use Rattle.live_loading.specs.Said.{FileSaid}
use Rattle.live_loading.specs.Loading.{shell}
use Rattle.wind_machine.specs.State.{State}
use Rattle.wind_machine.specs.Shell.{at_prompt}
use Rattle.wind_machine.specs.Processor.{gate_under}
use Rattle.wind_machine.specs.Events.{delivery_step, event_step, arrival, jump}
use Rattle.wind_machine.specs.ActorSteps.{step_of, routine_step, load_step}
use Rattle.wind_machine.specs.Next.{next}
use Rattle.wind_machine.specs.declared.next.Next.{Next}
use Rattle.wind_machine.specs.declared.next.Next.TheVariants.{Deliver, Come, Arrive, Routine, Act, Load, Jump, Over}
use Rattle.wind_machine.specs.declared.phase.Phase.{Phase}
use Rattle.wind_machine.specs.declared.phase.Phase.TheVariants as phases

-- the state in which a board of a kind starts, with this console file, these events and these devices, under a rule of
-- inheritance
unfoldable pub opening : List ℕ → Timetable → List (Option DeviceState) → Profile → BoardKind → State
opening console schedule slots profile board = record {
  left = console;
  console = opening_console;
  shell = at_prompt;
  world = opening_world slots profile board;
  schedule = schedule;
  time = 0;
  steps = 0;
}

-- ---- the next step
-- priorities are settled at its end
abbrev pub settled_state : State → State
settled_state s = record s { world = settled_world s.world }

-- its effect, given the folder's answer about the file that it needs; if it needs none, that is not used
abbrev pub state_after : FileSaid → State → Next → Option State
state_after said s (Deliver i) = Some (delivery_step s i)
state_after said s (Come e) = Some (event_step s e)
state_after said s Arrive = Some (arrival s)
state_after said s Routine = Some (routine_step s)
state_after said s (Act who) = Some (step_of s who)
state_after said s (Load name) = Some (load_step said s name)
state_after said s (Jump time) = Some (jump s time)
state_after said s Over = None

-- the state after it
unfoldable pub machine_step : FileSaid → State → Option State
machine_step said s = option_map settled_state (state_after said s (next s))

-- from one state to the next, whatever the folder answers about a file; and there is no further step
abbrev pub Steps : State → State → Type 0
Steps s t = (said : FileSaid) → machine_step said s ≡ Some t

abbrev pub IsOver : State → Type 0
IsOver s = next s ≡ Over

-- ---- whose step it is
abbrev pub actor_of : Next → Option Actor
actor_of Routine = Some Interrupt
actor_of (Act who) = Some (by_task who)
actor_of (Load name) = Some shell
actor_of _ = None

-- the task or routine that makes the next step, if any
abbrev pub stepping : State → Option Actor
stepping s = actor_of (next s)

-- ---- the file that the next step needs
abbrev pub file_of : Next → Option (List ℕ)
file_of (Load name) = Some name
file_of _ = None

-- the file that the next step needs, if it is a load
unfoldable pub file_asked : State → Option (List ℕ)
file_asked s = file_of (next s)

-- ---- when a step may run out of host memory
-- in phases Read and Eval of the shell, and at a gate whose call may
abbrev pub phase_may : Phase → Bool → Bool
phase_may phases.Prompt call = false
phase_may phases.Read call = true
phase_may phases.Eval call = true
phase_may phases.Call call = call

abbrev pub gate_may : Option Gate → Bool
gate_may None = false
gate_may (Some g) = call_may_exhaust_memory g

-- whether the step of the task with this id may
abbrev pub who_may : State → ℕ → Bool
who_may s who = if who == shell_id then phase_may s.shell.phase (gate_may (gate_under s.world (by_task who))) else gate_may (gate_under s.world (by_task who))

-- the step of a task may, by where the task is, and so may a load; no other step may
abbrev pub next_may : State → Next → Bool
next_may s (Act who) = who_may s who
next_may s (Load name) = true
next_may s _ = false

abbrev pub may_exhaust_memory : State → Bool
may_exhaust_memory s = next_may s (next s)
