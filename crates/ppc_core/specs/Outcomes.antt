-- The outcome of one instruction: new registers and a new bus, or a trap.
use Rattle.std.specs.Prelude.{◌≡◌, Result, Ok, Err}
use Rattle.wind_base.specs.declared.regs.Regs.{Regs}
use Rattle.ppc_core.specs.declared.trap.Trap.{Trap}

-- the outcome of an instruction
pub data Outcome (B : Type 0) : Type 0 where
  Done : Regs → B → Outcome B
  Trapped : Trap → Outcome B

-- a call has this outcome; a trap changes neither registers nor bus
abbrev pub Leaves : {B : Type 0} → Outcome B → Regs → B → Regs → B → Result (Unit {0}) Trap → Type 0
Leaves (Done r b) old_regs old_bus regs bus result = (result ≡ Ok tt) × (regs ≡ r) × (bus ≡ b)
Leaves (Trapped t) old_regs old_bus regs bus result = (result ≡ Err t) × (regs ≡ old_regs) × (bus ≡ old_bus)
