-- What is known after an instruction about who makes the next step.
use Rattle.std.specs.Prelude.{◌≡◌, ℕ, true, false, not, Option, None, Some, is_some}
use Rattle.wind_base.specs.Boards.{board_rules}
use Rattle.wind_base.specs.Gates.{gate_at}
use Rattle.wind_base.specs.declared.gate.Gate.{Gate}
use Rattle.wind_base.specs.declared.regs.Regs.{Regs}
use Rattle.wind_core.specs.State.{KernState, Lives}
use Rattle.wind_core.specs.Orders.{running, runner}
use Rattle.wind_core.specs.Moves.{set_regs}
use Rattle.live_loading.specs.KernelWorldKept.{ReservedBy}
use Rattle.live_loading.specs.KernelWorldObjects.{IsReady}
use Rattle.live_loading.specs.KernelWorldActor.TheVariants.{Task as by_task}
use Rattle.wind_machine.specs.State.{State}
use Rattle.wind_machine.specs.Processor.{regs_of}
use Rattle.wind_machine.specs.ActorSteps.{IsOnProcessor, file_for}
use Rattle.wind_machine.specs.Reserving.{drop_others}
use Rattle.wind_machine.specs.Next.{holds_back}
use Rattle.board_player.specs.declared.order.Running.{Running}
use Rattle.board_player.specs.declared.order.Known.{Known}
use Rattle.board_player.specs.declared.order.Known.TheVariants.{Nothing, Called, Runner, Routine}

-- this is the task that runs, and whether interrupts may come meanwhile; no interrupt routine is active
pub record IsRunner (k : KernState) (level : Option Regs) (r : Running) : Type 0 where
  pub who : r.who ≡ runner k
  pub back : r.is_open ≡ not (holds_back (running k))
  pub idle : is_some level ≡ false

-- an interrupt routine is active, and no task has a reservation
pub record IsRoutine (k : KernState) (level : Option Regs) : Type 0 where
  pub active : is_some level ≡ true
  pub none : ReservedBy None k

-- what is known holds
abbrev pub IsKnown : KernState → Option Regs → Known → Type 0
IsKnown k level Nothing = Unit {0}
IsKnown k level (Called reply) = Unit {0}
IsKnown k level (Runner r) = IsRunner k level r
IsKnown k level Routine = IsRoutine k level

-- the kernel after a step of this task: only the task's registers have changed, other tasks' reservations are
-- dropped, and the task ran last
abbrev pub OnlyStepped : KernState → KernState → ℕ → Type 0
OnlyStepped old new who = (regs : Regs) × (new ≡ record (set_regs (drop_others old who) who regs) { last = Some who })

-- a task is about to make its step at this gate, at which its program counter is: it lives, is ready, and needs no file;
-- the shell's task is in a call
pub record StandsAt (s : State) (who at : ℕ) (gate : Gate) : Type 0 where
  pub live : Lives s.world.kern who
  pub ready : IsReady s.world.kern who
  pub phase : IsOnProcessor s.shell.phase (by_task who)
  pub counter : at ≡ (regs_of s.world (by_task who)).pc
  pub there : gate_at (board_rules s.world.board).gates_start at ≡ Some gate
  pub asks : file_for s who ≡ None
