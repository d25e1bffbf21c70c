-- The watchdogs at the end of a `&mut` to the active routine's registers.
use Rattle.std.specs.Prelude.{Option}
use Rattle.std.specs.Borrow.{Lends, LendsIf, Fml, MutBor}
use Rattle.wind_base.specs.declared.regs.Regs.{Regs}
use Rattle.wind_base.specs.contracts.regs.Regs.{the_row as regs_row}
use Rattle.isr_watch.specs.State.{WatchState}
use Rattle.isr_watch.specs.Calls.{with_level}
use Rattle.isr_watch.specs.contracts.watch.Watch.{the_row}

-- when the borrow r ends, the active routine has the last registers written through r
abbrev pub lends_regs : MutBor WatchState → MutBor Regs → Fml
lends_regs s r = Lends the_row regs_row s r (with_level s.now)

-- the same if r is a reference; if it is `None`, nothing changes
abbrev pub lends_found : MutBor WatchState → Option (MutBor Regs) → Fml
lends_found s r = LendsIf the_row regs_row s r (with_level s.now) s.now
