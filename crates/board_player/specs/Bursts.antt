-- When a task or an interrupt routine goes on by instructions.
use Rattle.std.specs.Prelude.{◌≡◌, ℕ, ◌+◌, ◌<◌, ◌≤◌, [], Bool, true, false, Option, None, Some}
use Rattle.wind_base.specs.declared.regs.Regs.{Regs}
use Rattle.board_bus.specs.BusState.{BusState}
use Rattle.tick_file.specs.Schedule.{Timed}
use Rattle.wind_core.specs.Orders.{runner}
use Rattle.live_loading.specs.KernelWorldActor.{Actor}
use Rattle.live_loading.specs.KernelWorldState.{WorldState}
use Rattle.live_loading.specs.KernelWorldActor.TheVariants.{Task as by_task}
use Rattle.wind_machine.specs.State.{State}
use Rattle.wind_machine.specs.Reserving.{drop_others, drop_all}
use Rattle.wind_machine.specs.ActorSteps.{IsOnProcessor}
use Rattle.wind_machine.specs.Next.{is_active, console_is_due}
use Rattle.wind_machine.specs.Silent.{last_actor}
use Rattle.board_player.specs.Knowing.{may_deliver}
use Rattle.board_actors.specs.Instructions.{executed_to}

-- this task runs and goes on: it ran last, it wrote nothing, its steps are instructions and kernel calls, and only
-- an event of the tick file can be due
pub record RunsOn (s : State) (who : ℕ) : Type 0 where
  pub idle : is_active s.world ≡ false
  pub runs : Some who ≡ runner s.world.kern
  pub calls : IsOnProcessor s.shell.phase (by_task who)
  pub last : s.world.kern.last ≡ Some who
  pub alone : drop_others s.world.kern who ≡ s.world.kern
  pub silent : s.world.output ≡ []
  pub delivery : false ≡ may_deliver s
  pub console : false ≡ console_is_due s

-- the active interrupt routine goes on: it wrote nothing, and no task has a reservation
pub record RoutineRunsOn (s : State) : Type 0 where
  pub active : is_active s.world ≡ true
  pub alone : drop_all s.world.kern ≡ s.world.kern
  pub silent : s.world.output ≡ []

-- k steps of a task come before this event is due, if interrupts may come
abbrev pub HasRoom : Bool → Option Timed → ℕ → ℕ → Type 0
HasRoom false next time k = Unit {0}
HasRoom true None time k = Unit {0}
HasRoom true (Some e) time k = 0 < k → time + k ≤ e.time

-- the state after k instructions of an actor, with these registers and this bus
abbrev pub moved : State → Actor → Regs → BusState → ℕ → State
moved s who regs bus k = record s { world = executed_to s.world who regs bus; time = s.time + k; steps = s.steps + k }

-- of a world, only the registers of this task or routine have changed, and the bus
pub record MovesOnly (who : Actor) (w v : WorldState) : Type 0 where
  pub regs : Regs
  pub bus : BusState
  pub world : v ≡ executed_to w who regs bus

-- only those of the task or routine that made the last step
abbrev pub MovesLast : WorldState → WorldState → Type 0
MovesLast w v = (who : Actor) → last_actor w ≡ Some who → MovesOnly who w v
