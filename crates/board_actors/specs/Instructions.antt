-- Instructions of one actor, one after the other.
use Rattle.std.specs.Prelude.{◌≡◌, ◌≢◌, ◌⊎◌, ℕ, ◌+◌, ◌≤◌, zero, suc, Option, None, Some}
use Rattle.wind_base.specs.Gates.{gate_at}
use Rattle.wind_base.specs.declared.regs.Regs.{Regs}
use Rattle.ppc_core.specs.Instructions.{exec_of}
use Rattle.ppc_core.specs.Outcomes.{Outcome, Done, Trapped}
use Rattle.ppc_core.specs.Stepping.{at_pc}
use Rattle.ppc_core.specs.declared.stepping.Progress.{Progress}
use Rattle.ppc_core.specs.declared.stepping.Progress.TheVariants as progress
use Rattle.board_bus.specs.BusState.{BusState}
use Rattle.ppc_word.specs.declared.decoded.Decoded.{Decoded}
use Rattle.ppc_word.specs.declared.op.Op.{Op}
use Rattle.ppc_word.specs.declared.op.Op.TheVariants as ops
use Rattle.board_bus.specs.Access.{board_meaning, fetched}
use Rattle.live_loading.specs.KernelWorldState.{WorldState}
use Rattle.live_loading.specs.KernelWorldActor.{Actor}
use Rattle.wind_machine.specs.Processor.{with_bus, with_regs}
use Rattle.board_actors.specs.declared.instructions.Stretch.{Stretch}
use Rattle.board_actors.specs.declared.step_kind.StepKind.{StepKind}
use Rattle.board_actors.specs.declared.step_kind.StepKind.TheVariants as kinds

-- the kind of a step at this word, if one can be fetched: an instruction, unless its effect is a trap
abbrev pub outcome_kind : Outcome BusState → StepKind
outcome_kind (Done regs bus) = kinds.Instruction
outcome_kind (Trapped trap) = kinds.Other None

abbrev pub word_kind : Option ℕ → Regs → BusState → StepKind
word_kind None regs bus = kinds.Other None
word_kind (Some word) regs bus = outcome_kind (exec_of board_meaning regs word bus)

-- one instruction leads from these registers and this bus to those: no gate, among those from a start on, is at the
-- program counter, the word there can be fetched, and its effect is no trap
pub record Executes (start : ℕ) (r : Regs) (b : BusState) (after : Regs) (bus : BusState) : Type 0 where
  pub no_gate : gate_at start r.pc ≡ None
  pub word : ℕ
  pub there : fetched b r.pc ≡ Some word
  pub done : exec_of board_meaning r word b ≡ Done after bus

-- k instructions lead there, one after the other
abbrev pub ExecutesMany : ℕ → ℕ → Regs → BusState → Regs → BusState → Type 0
ExecutesMany start zero r b after bus = (after ≡ r) × (bus ≡ b)
ExecutesMany start (suc k) r b after bus = (m : Regs) × (c : BusState) × ExecutesMany start k r b m c × Executes start m c after bus

-- the instruction at an address beside the registers may be executed: either it leads to the next address, these registers
-- and this bus, or nothing changes but the program counter in the registers, which is free
abbrev pub MayRun : ℕ → Regs → BusState → Regs → BusState → Option ℕ → Type 0
MayRun pc r b after bus None = (at_pc after pc ≡ at_pc r pc) × (bus ≡ b)
MayRun pc r b after bus (Some next) = (word : ℕ) × (fetched b pc ≡ Some word) × (exec_of board_meaning (at_pc r pc) word b ≡ Done (at_pc after next) bus)

-- the world with these registers of the actor, and this bus
abbrev pub executed_to : WorldState → Actor → Regs → BusState → WorldState
executed_to w who regs bus = with_bus (with_regs w who regs) bus

-- a decoded word is empty, or the word that can be fetched at an address
abbrev pub IsNext : Decoded → BusState → ℕ → Type 0
IsNext d b pc = (d.op ≡ ops.Empty) ⊎ (fetched b pc ≡ Some d.word)

-- the operation is the store that is named
abbrev pub Names : Progress → Op → Type 0
Names progress.StoreWord op = op ≡ ops.StoreWord
Names progress.Stwu op = op ≡ ops.Stwu
Names _ op = Unit {0}

-- a decoded word may be executed at an address by a call that leaves the bus: either it leads to the next address and these
-- registers, or nothing changes, and the operation may be named
abbrev pub MayRead : Decoded → ℕ → Regs → Regs → BusState → Progress → Type 0
MayRead d pc old regs b (progress.Executed next) = (d.op ≢ ops.Empty) × (exec_of board_meaning (at_pc old pc) d.word b ≡ Done (at_pc regs next) b)
MayRead d pc old regs b left = Names left d.op × (regs ≡ old)

-- the number of instructions that a burst has left; None is a burst that has ended
abbrev pub left_of : Option Stretch → ℕ
left_of None = 0
left_of (Some s) = s.left + 1

-- the registers at the next instruction of a burst; the address is beside them, until the burst ends
abbrev pub reached : Option Stretch → Regs → Regs
reached None regs = regs
reached (Some s) regs = at_pc regs s.pc

-- a burst goes on as another one after this number of executed instructions; made and after are the numbers that it will
-- have executed at its end, as they were known before and as they are known then
pub record GoesOn (executed : ℕ) (s : Stretch) (made : ℕ) (to : Option Stretch) (after : ℕ) : Type 0 where
  pub count : executed + left_of to + made ≡ s.left + 1 + after
  pub less : left_of to ≤ s.left
  pub within : after ≤ made

-- a burst goes on after its next instruction, or ends before it
abbrev pub EndsAt : Option ℕ → Stretch → ℕ → Regs → Option Stretch → ℕ → Regs → Type 0
EndsAt None s made r to after regs = GoesOn 0 s made to after × (reached to regs ≡ at_pc r s.pc)
EndsAt (Some next) s made r to after regs = GoesOn 1 s made to after × (reached to regs ≡ at_pc r next)

-- the next instruction of a burst may be executed: then it leads to this burst, these registers and this bus
abbrev pub MayEnd : Stretch → ℕ → Regs → BusState → Option Stretch → ℕ → Regs → BusState → Type 0
MayEnd s made r b to after regs bus =
    (next : Option ℕ) × (m : Regs) × MayRun s.pc r b m bus next × EndsAt next s made m to after regs
