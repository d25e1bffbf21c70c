-- What follows from the definitions of watchdogs alone.
use Rattle.std.specs.Prelude.{◌≡◌, ℕ, ◌+◌, ◌<◌, ◌≤◌, List, length, None, IsSome}
use Rattle.std.specs.List.{All}
use Rattle.wind_base.specs.declared.regs.Regs.{Regs}
use Rattle.isr_watch.specs.declared.watchdog.Routine.{Routine}
use Rattle.isr_watch.specs.State.{WatchState, IsWatch}
use Rattle.isr_watch.specs.Calls.{create_refusal, created, delete, start, cancel, due, begun, finish, with_level, with_link}

-- each watchdog's id is below this number
abbrev pub AllBelow : ℕ → WatchState → Type 0
AllBelow n s = All (λ w. w.id < n) s.watchdogs

-- the ids are below it after each call, and a start raises the number of the next start by at most 1
pub record IdsStay (n : ℕ) (s : WatchState) : Type 0 where
  pub creating : (id : ℕ) → id < n → AllBelow n (created s id)
  pub deleting : (id : ℕ) → AllBelow n (delete s id)
  pub starting : (id tick delay : ℕ) (routine : Routine) → AllBelow n (start s id tick delay routine)
  pub counting : (id tick delay : ℕ) (routine : Routine) → (start s id tick delay routine).next_start ≤ s.next_start + 1
  pub cancelling : (id : ℕ) → AllBelow n (cancel s id)
  pub ticking : (tick top : ℕ) → AllBelow n (due s tick top)
  pub beginning : (routines : List Routine) (top : ℕ) → AllBelow n (begun s routines top)
  pub finishing : (top : ℕ) → AllBelow n (finish s top)
  pub returning : (link : ℕ) → AllBelow n (with_link s link)

-- ids below a number stay below it
abbrev pub IdsLaw : Type 0
IdsLaw = (n : ℕ) (s : WatchState) → AllBelow n s → IdsStay n s

-- each call keeps the watchdogs' invariant; a new watchdog has the next id
pub record WatchStays (n : ℕ) (s : WatchState) : Type 0 where
  pub creating : create_refusal (length s.watchdogs) n ≡ None → IsWatch (created s n)
  pub deleting : (id : ℕ) → IsWatch (delete s id)
  pub starting : (id tick delay : ℕ) (routine : Routine) → IsWatch (start s id tick delay routine)
  pub cancelling : (id : ℕ) → IsWatch (cancel s id)
  pub ticking : (tick top : ℕ) → IsWatch (due s tick top)
  pub beginning : (routines : List Routine) (top : ℕ) → IsWatch (begun s routines top)
  pub finishing : (top : ℕ) → IsWatch (finish s top)
  pub returning : (link : ℕ) → IsWatch (with_link s link)
  -- so does a change of the active routine's registers
  pub going_on : (regs : Regs) → IsSome s.level → IsWatch (with_level s regs)

-- each call keeps the watchdogs' invariant
abbrev pub KeptLaw : Type 0
KeptLaw = (n : ℕ) (s : WatchState) → IsWatch s → AllBelow n s → WatchStays n s

-- the address to which a routine returns is the same after each call but the one that sets it
pub record LinkStays (s : WatchState) : Type 0 where
  pub creating : (id : ℕ) → (created s id).link ≡ s.link
  pub deleting : (id : ℕ) → (delete s id).link ≡ s.link
  pub starting : (id tick delay : ℕ) (routine : Routine) → (start s id tick delay routine).link ≡ s.link
  pub cancelling : (id : ℕ) → (cancel s id).link ≡ s.link
  pub ticking : (tick top : ℕ) → (due s tick top).link ≡ s.link
  pub beginning : (routines : List Routine) (top : ℕ) → (begun s routines top).link ≡ s.link
  pub finishing : (top : ℕ) → (finish s top).link ≡ s.link
  pub going_on : (regs : Regs) → (with_level s regs).link ≡ s.link

-- only one call changes the address to which a routine returns
abbrev pub LinkLaw : Type 0
LinkLaw = (s : WatchState) → LinkStays s
