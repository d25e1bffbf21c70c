-- The kernel at the end of a `&mut` to a task's registers.
use Rattle.std.specs.Prelude.{ℕ, Option}
use Rattle.std.specs.Borrow.{Lends, LendsIf, Fml, MutBor}
use Rattle.wind_base.specs.declared.regs.Regs.{Regs}
use Rattle.wind_base.specs.contracts.regs.Regs.{the_row as regs_row}
use Rattle.wind_core.specs.State.{KernState}
use Rattle.wind_core.specs.Moves.{set_regs}
use Rattle.wind_core.specs.contracts.kern.Kern.{the_row}

-- when the borrow r ends, the task has the last registers written through r
abbrev pub lends_regs : MutBor KernState → ℕ → MutBor Regs → Fml
lends_regs s who r = Lends the_row regs_row s r (set_regs s.now who)

-- the same if r is a reference; if it is `None`, the kernel stays as it is
abbrev pub lends_found : MutBor KernState → ℕ → Option (MutBor Regs) → Fml
lends_found s who r = LendsIf the_row regs_row s r (set_regs s.now who) s.now
