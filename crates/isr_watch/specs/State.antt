-- What a contract sees of watchdogs and the interrupt level.
use Rattle.std.specs.Prelude.{◌≡◌, ℕ, ◌≤◌, Bool, false, nat_lt, nat_le, List, [], length, Option, None, Some}
use Rattle.wind_base.specs.Limits.{most_watchdogs}
use Rattle.wind_base.specs.declared.regs.Regs.{Regs}
use Rattle.id_table.specs.Records.{of_id, Rising}
use Rattle.id_table.specs.Sorting.{first, in_line}
use Rattle.isr_watch.specs.declared.watchdog.Watchdog.{Watchdog}
use Rattle.isr_watch.specs.declared.watchdog.Timer.{Timer}
use Rattle.isr_watch.specs.declared.watchdog.Routine.{Routine}

-- the watchdogs by rising id, the active routine's registers, the routines still listed, the number of the next start,
-- and the address to which a routine returns
pub record WatchState : Type 0 where
  pub watchdogs : List Watchdog
  pub level : Option Regs
  pub listed : List Routine
  pub next_start : ℕ
  pub link : ℕ

-- no watchdog lives, no routine is active, and routines return to this address
abbrev pub no_watch : ℕ → WatchState
no_watch link = record { watchdogs = []; level = None; listed = []; next_start = 0; link = link }

-- the id of a watchdog
abbrev pub watchdog_id : Watchdog → ℕ
watchdog_id w = w.id

-- the live watchdog with this id
abbrev pub watchdog_of : List Watchdog → ℕ → Option Watchdog
watchdog_of ws id = of_id watchdog_id ws id

-- the routine of a watchdog
abbrev pub watchdog_routine : Watchdog → Routine
watchdog_routine w = w.routine

-- ---- which watchdogs are due
-- the number of a running watchdog's start
abbrev pub start_of : Option Timer → ℕ
start_of None = 0
start_of (Some t) = t.start

-- one watchdog was started before the other
abbrev pub starts_before : Watchdog → Watchdog → Bool
starts_before v w = nat_lt (start_of v.timer) (start_of w.timer)

-- a watchdog is running, and its tick is reached
abbrev pub has_come : ℕ → Option Timer → Bool
has_come tick None = false
has_come tick (Some t) = nat_le t.due tick

-- it is running, and the tick at which it is due is reached
abbrev pub is_due : ℕ → Watchdog → Bool
is_due tick w = has_come tick w.timer

-- the watchdogs that are due, in order of start
abbrev pub due_watchdogs : List Watchdog → ℕ → List Watchdog
due_watchdogs ws tick = in_line starts_before (is_due tick) ws

-- of the watchdogs that are due, the one started first
abbrev pub first_due : List Watchdog → ℕ → Option Watchdog
first_due ws tick = first (due_watchdogs ws tick)

-- ---- the invariant, which every call keeps
-- the watchdogs' invariant
pub record IsWatch (s : WatchState) : Type 0 where
  pub few : length s.watchdogs ≤ most_watchdogs
  -- ids rise along the list
  pub rising : Rising watchdog_id s.watchdogs
  -- no routine is listed unless one is active
  pub idle : s.level ≡ None → s.listed ≡ []
