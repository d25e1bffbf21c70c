-- What an instruction leaves.
use Rattle.std.specs.Prelude.{◌≡◌, ℕ, true, is_some, Result, Ok, Err}
use Rattle.wind_base.specs.Boards.{board_rules}
use Rattle.wind_base.specs.declared.regs.Regs.{Regs}
use Rattle.wind_core.specs.State.{Lives}
use Rattle.ppc_core.specs.Outcomes.{Outcome, Done, Trapped}
use Rattle.ppc_core.specs.declared.trap.Trap.{Trap}
use Rattle.board_bus.specs.BusState.{BusState}
use Rattle.live_loading.specs.KernelWorldState.{WorldState}
use Rattle.live_loading.specs.KernelWorldActor.{Actor}
use Rattle.live_loading.specs.KernelWorldActor.TheVariants.{Task, Interrupt}
use Rattle.wind_machine.specs.Processor.{bus_of, regs_of}
use Rattle.board_actors.specs.Instructions.{ExecutesMany, executed_to}

-- the actor is there: the task lives, or a routine is active
abbrev pub IsThere : WorldState → Actor → Type 0
IsThere w (Task who) = Lives w.kern who
IsThere w Interrupt = is_some w.watch.level ≡ true

-- an instruction of the actor leaves this outcome: new registers of the actor and a new bus; a trap changes nothing
abbrev pub Ran : Outcome BusState → Result (Unit {0}) Trap → Actor → WorldState → WorldState → Type 0
Ran (Done regs bus) result who old new = (result ≡ Ok tt) × (new ≡ executed_to old who regs bus)
Ran (Trapped trap) result who old new = (result ≡ Err trap) × (new ≡ old)

-- the world is as it was, except for the registers of this actor and the bus
pub record OnlyRegs (old new : WorldState) (who : Actor) : Type 0 where
  pub regs : Regs
  pub bus : BusState
  pub world : new ≡ executed_to old who regs bus

-- k instructions of the actor were executed, one after the other
pub record RanMany (k : ℕ) (who : Actor) (old new : WorldState) : Type 0 where
  pub regs : Regs
  pub bus : BusState
  pub many : ExecutesMany (board_rules old.board).gates_start k (regs_of old who) (bus_of old) regs bus
  pub world : new ≡ executed_to old who regs bus
