-- Interrupt routines: their stack, and how the next one begins.
use Rattle.std.specs.Prelude.{ℕ, ◌+◌, None}
use Rattle.wind_base.specs.Limits.{interrupt_stack_bytes}
use Rattle.wind_base.specs.declared.regs.Regs.{Regs}
use Rattle.isr_watch.specs.State.{WatchState}
use Rattle.isr_watch.specs.Calls.{finish}
use Rattle.live_loading.specs.KernelWorldState.{WorldState}
use Rattle.live_loading.specs.KernelWorldOpening.{interrupt_stack}

-- the end of the interrupt stack
abbrev pub interrupt_top : ℕ
interrupt_top = interrupt_stack + interrupt_stack_bytes

-- the world with other watchdogs
abbrev pub with_watch : WorldState → WatchState → WorldState
with_watch w s = record w { watch = s }

-- the routine's registers without a reservation
abbrev pub without_reserve : Regs → Regs
without_reserve r = record r { reserve = None }

-- the routine is done: the next listed one becomes active, if there is one
abbrev pub next_routine : WorldState → WorldState
next_routine w = with_watch w (finish w.watch interrupt_top)
