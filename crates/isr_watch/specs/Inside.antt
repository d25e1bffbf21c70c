-- What is inside the watchdogs: a table of records by id, where each record also has its id.
use Rattle.std.specs.Prelude.{◌≡◌, ℕ, ◌≤◌, List, [], Option, None}
use Rattle.std.specs.List.{All}
use Rattle.std.specs.Option.{IfSome}
use Rattle.wind_base.specs.Limits.{most_watchdogs}
use Rattle.wind_base.specs.declared.regs.Regs.{Regs}
use Rattle.id_table.specs.Rows.{Rows, objects}
use Rattle.isr_watch.specs.declared.watchdog.Watchdog.{Watchdog}
use Rattle.isr_watch.specs.declared.watchdog.Routine.{Routine}
use Rattle.isr_watch.specs.declared.watchdog.Alarm.{Alarm}
use Rattle.isr_watch.specs.State.{WatchState}

-- each record has the id under which the table has it
abbrev pub SameIds : List (ℕ × Watchdog) → Type 0
SameIds rs = All (λ r. r.1.id ≡ r.0) rs

-- what a contract sees, from a table's rows, the active routine's registers, the listed routines, the next start and the
-- address to which a routine returns
abbrev pub watch_state : List (ℕ × Watchdog) → Option Regs → List Routine → ℕ → ℕ → WatchState
watch_state rs level listed next_start link = record {
  watchdogs = objects rs;
  level = level;
  listed = listed;
  next_start = next_start;
  link = link;
}

-- a watchdog isn't due before this tick
abbrev pub DueFrom : ℕ → Watchdog → Type 0
DueFrom soonest w = IfSome w.timer (λ t. soonest ≤ t.due)

-- no watchdog is due before this tick
abbrev pub NoneBefore : ℕ → List Watchdog → Type 0
NoneBefore soonest ws = All (DueFrom soonest) ws

-- the rest of the invariant: no watchdog is due before `soonest`, and no routine is listed unless one is active
pub record IsLevel (t : Rows Watchdog) (level : Option Regs) (listed : List Routine) (soonest : ℕ) : Type 0 where
  pub own : SameIds t.rows
  pub room : t.room ≡ most_watchdogs
  pub early : NoneBefore soonest (objects t.rows)
  pub idle : level ≡ None → listed ≡ []

-- a watchdog that is due, as the code copies it from the table
abbrev pub alarm_of : Watchdog → Alarm
alarm_of w = record { id = w.id; routine = w.routine }
