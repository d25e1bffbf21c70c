-- What the calls on watchdogs do (VxWorks 5.4 Reference Manual, wdLib), and the interrupt level.
use Rattle.std.specs.Prelude.{ℕ, ◌+◌, ◌-◌, if◌then◌else◌, max, List, [], ◌∷◌, ◌++◌, map, replicate, slice_set, Option, None, Some}
use Rattle.wind_base.specs.Limits.{most_watchdogs, frame_bytes}
use Rattle.wind_base.specs.Boards.{board_rules}
use Rattle.wind_base.specs.Gates.{gate_address}
use Rattle.wind_base.specs.declared.board_kind.BoardKind.{BoardKind}
use Rattle.wind_base.specs.declared.errno.Errno.{Errno}
use Rattle.wind_base.specs.declared.gate.Gate.TheVariants as gates
use Rattle.wind_base.specs.declared.regs.Regs.{Regs}
use Rattle.id_table.specs.Rows.{add_refusal}
use Rattle.id_table.specs.Records.{change, without}
use Rattle.isr_watch.specs.declared.watchdog.Watchdog.{Watchdog}
use Rattle.isr_watch.specs.declared.watchdog.Routine.{Routine}
use Rattle.isr_watch.specs.State.{WatchState, watchdog_id, watchdog_of, watchdog_routine, is_due, due_watchdogs}

-- ---- watchdogs are made and deleted
-- a watchdog that was never started
abbrev pub new_watchdog : ℕ → Watchdog
new_watchdog id = record { id = id; routine = record { entry = 0; param = 0 }; timer = None }

-- why no watchdog can be made, if this many are live and this id is next
abbrev pub create_refusal : ℕ → ℕ → Option Errno
create_refusal live next_id = add_refusal most_watchdogs live next_id

-- the watchdog is added under this id
abbrev pub created : WatchState → ℕ → WatchState
created s id = record s { watchdogs = s.watchdogs ++ new_watchdog id ∷ [] }

-- the watchdog is removed; if its routine is listed, that stays listed
abbrev pub deleted : WatchState → ℕ → Option Watchdog → WatchState
deleted s id None = s
deleted s id (Some w) = record s { watchdogs = without watchdog_id s.watchdogs id }

-- the watchdog with this id is deleted
abbrev pub delete : WatchState → ℕ → WatchState
delete s id = deleted s id (watchdog_of s.watchdogs id)

-- ---- watchdogs are started and stopped
-- it is running from this tick on, for the given number of ticks, or for one if that is 0
abbrev pub started : ℕ → ℕ → Routine → ℕ → Watchdog → Watchdog
started tick delay routine number w = record w {
  routine = routine;
  timer = Some (record { due = tick + max delay 1; start = number });
}

-- a live watchdog is started, or restarted if it is running, and goes last in the order of start
abbrev pub start_found : WatchState → ℕ → ℕ → ℕ → Routine → Option Watchdog → WatchState
start_found s id tick delay routine None = s
start_found s id tick delay routine (Some w) = record s {
  watchdogs = change watchdog_id s.watchdogs id (started tick delay routine s.next_start);
  next_start = s.next_start + 1;
}

-- the watchdog with this id is started
abbrev pub start : WatchState → ℕ → ℕ → ℕ → Routine → WatchState
start s id tick delay routine = start_found s id tick delay routine (watchdog_of s.watchdogs id)

-- the watchdog isn't running
abbrev pub stopped : Watchdog → Watchdog
stopped w = record w { timer = None }

-- a live watchdog is stopped; if its routine is listed, that stays listed
abbrev pub cancel_found : WatchState → ℕ → Option Watchdog → WatchState
cancel_found s id None = s
cancel_found s id (Some w) = record s { watchdogs = change watchdog_id s.watchdogs id stopped }

-- the watchdog with this id is stopped
abbrev pub cancel : WatchState → ℕ → WatchState
cancel s id = cancel_found s id (watchdog_of s.watchdogs id)

-- ---- the interrupt level
-- the address to which a routine returns on a board of a kind: that of its gate
abbrev pub routine_return : BoardKind → ℕ
routine_return board = gate_address (board_rules board).gates_start gates.InterruptReturn

-- routines that begin from now on return to this address
abbrev pub with_link : WatchState → ℕ → WatchState
with_link s link = record s { link = link }

-- a routine begins with its parameter in r3, its stack below the top of the interrupt stack, and returns to the link
abbrev pub routine_regs : ℕ → ℕ → Routine → Regs
routine_regs top link x = record {
  gpr = slice_set (slice_set (replicate 32 0) 1 (top - frame_bytes)) 3 x.param;
  cr = 0;
  xer = 0;
  lr = link;
  ctr = 0;
  pc = x.entry;
  reserve = None;
}

-- the first listed routine becomes active, and the others stay listed
abbrev pub level_of : ℕ → ℕ → List Routine → Option Regs
level_of top link [] = None
level_of top link (x ∷ xs) = Some (routine_regs top link x)

-- the routines that stay listed
abbrev pub rest_of : List Routine → List Routine
rest_of [] = []
rest_of (x ∷ xs) = xs

-- the active routine ends: the next listed one becomes active, or none
abbrev pub finish : WatchState → ℕ → WatchState
finish s top = record s { level = level_of top s.link s.listed; listed = rest_of s.listed }

-- routines are listed, and the first listed one becomes active
abbrev pub begun : WatchState → List Routine → ℕ → WatchState
begun s routines top = finish (record s { listed = s.listed ++ routines }) top

-- the watchdogs that are due stop
abbrev pub stop_due : ℕ → List Watchdog → List Watchdog
stop_due tick ws = map (λ w. if is_due tick w then stopped w else w) ws

-- the watchdogs that are due stop, and their routines are listed in order of start
abbrev pub listed_at : ℕ → WatchState → WatchState
listed_at tick s = record s {
  watchdogs = stop_due tick s.watchdogs;
  listed = s.listed ++ map watchdog_routine (due_watchdogs s.watchdogs tick);
}

-- a tick: the same, and then the first listed routine becomes active
abbrev pub due : WatchState → ℕ → ℕ → WatchState
due s tick top = finish (listed_at tick s) top

-- the active routine with these registers
abbrev pub with_level : WatchState → Regs → WatchState
with_level s regs = record s { level = Some regs }
