-- An instruction at an address that is kept beside the registers.
use Rattle.std.specs.Prelude.{◌≡◌, ◌≢◌, ℕ, Bool, true, false, Result, Ok, Err}
use Rattle.ppc_word.specs.declared.op.Op.{Op}
use Rattle.ppc_word.specs.declared.op.Op.TheVariants as ops
use Rattle.wind_base.specs.declared.regs.Regs.{Regs}
use Rattle.ppc_core.specs.declared.trap.Trap.{Trap}
use Rattle.ppc_core.specs.declared.stepping.Progress.{Progress}
use Rattle.ppc_core.specs.declared.stepping.Progress.TheVariants as progress
use Rattle.ppc_core.specs.Outcomes.{Outcome, Done, Trapped}

-- the registers with this program counter
abbrev pub at_pc : Regs → ℕ → Regs
at_pc r pc = record r { pc = pc }

-- a call at an address has this outcome: it returns the next address, and the registers are right but for their program
-- counter; a trap changes neither registers nor bus
abbrev pub LeavesAt : {B : Type 0} → Outcome B → ℕ → Regs → B → Regs → B → Result ℕ Trap → Type 0
LeavesAt (Done r b) pc old_regs old_bus regs bus result = (result ≡ Ok r.pc) × (at_pc regs r.pc ≡ r) × (bus ≡ b)
LeavesAt (Trapped t) pc old_regs old_bus regs bus result =
    (result ≡ Err t) × (at_pc regs pc ≡ at_pc old_regs pc) × (bus ≡ old_bus)

-- a call without a bus may execute an instruction of this operation: either it returns the next address, and the outcome is
-- that with any content of the bus, or it changes nothing, and may name the operation
abbrev pub MayStep : {B : Type 0} → (B → Outcome B) → Op → Regs → Regs → Progress → Type 0
MayStep {B} outcome op old_regs regs (progress.Executed next) = (op ≢ ops.Empty) × ((b : B) → outcome b ≡ Done (at_pc regs next) b)
MayStep outcome op old_regs regs progress.LoadWord = (op ≡ ops.LoadWord) × (regs ≡ old_regs)
MayStep outcome op old_regs regs progress.Lwzu = (op ≡ ops.Lwzu) × (regs ≡ old_regs)
MayStep outcome op old_regs regs progress.Lbz = (op ≡ ops.Lbz) × (regs ≡ old_regs)
MayStep outcome op old_regs regs progress.StoreWord = (op ≡ ops.StoreWord) × (regs ≡ old_regs)
MayStep outcome op old_regs regs progress.Stwu = (op ≡ ops.Stwu) × (regs ≡ old_regs)
MayStep outcome op old_regs regs progress.Other = regs ≡ old_regs

-- a call without a bus leaves the operation to its caller, unnamed: nothing is decoded, the row has no operation of its own,
-- or it is a load or store other than the five that are named
abbrev pub is_left : Op → Bool
is_left ops.Empty = true
is_left ops.Other = true
is_left ops.Lbzx = true
is_left ops.Lbzu = true
is_left ops.Lhz = true
is_left ops.Lhzx = true
is_left ops.Lha = true
is_left ops.Lwzx = true
is_left ops.Stb = true
is_left ops.Stbx = true
is_left ops.Stbu = true
is_left ops.Sth = true
is_left ops.Sthx = true
is_left ops.Stwx = true
is_left _ = false
