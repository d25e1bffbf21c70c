-- What a snapshot shows of instructions.
use Rattle.std.specs.Prelude.{◌≡◌, ℕ}
use Rattle.wind_base.specs.declared.regs.Regs.{Regs}
use Rattle.wind_core.specs.Moves.{set_regs}
use Rattle.kernel_world.specs.State.{WorldState}

-- of what a snapshot shows, only the registers of this task differ between two worlds
pub record IsMoved (w v : WorldState) (who : ℕ) : Type 0 where
  pub regs : Regs
  pub kern : v.kern ≡ set_regs w.kern who regs
  pub objects : v.objects ≡ w.objects
  pub watchdogs : v.watch.watchdogs ≡ w.watch.watchdogs
  pub modules : v.modules ≡ w.modules
