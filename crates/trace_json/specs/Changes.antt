-- Changes of tasks, watchdogs and modules as JSON.
use Rattle.std.specs.Prelude.{ℕ, Bool, List, [], ◌∷◌, Option, None, Some, codes}
use Rattle.std.specs.Int.{cast_signed, w32}
use Rattle.serde_json.specs.Data.{Data, boolean, null, number, string}
use Rattle.serde_json.specs.Find.{of_integer}
use Rattle.wind_base.specs.Errno.{errno_name}
use Rattle.wind_base.specs.declared.errno.Errno.{Errno}
use Rattle.board_changes.specs.declared.awaited.Awaited.{Awaited}
use Rattle.board_changes.specs.declared.change.Change.{Change}
use Rattle.board_changes.specs.declared.change.Change.TheVariants as changes
use Rattle.board_trace.specs.Errors.{errno_named}
use Rattle.trace_state.specs.Json.{number_of, number_or_null}
use Rattle.trace_state.specs.Tasks.{wait_data}

-- the name of an error of the kernel's calls, or null
abbrev pub error_data : Option Errno → Data
error_data None = null
error_data (Some e) = string (errno_name e)

-- the word for a change
abbrev pub change_word : Change → List ℕ
change_word (changes.Spawned who pri) = codes "spawned"
change_word (changes.Deleted who) = codes "deleted"
change_word (changes.Waits who object until) = codes "waits"
change_word (changes.Sleeps who until) = codes "sleeps"
change_word (changes.Served who object answer) = codes "served"
change_word (changes.Failed who object errno) = codes "failed"
change_word (changes.GoesOn who object) = codes "goes_on"
change_word (changes.Wakes who) = codes "wakes"
change_word (changes.Suspended who) = codes "suspended"
change_word (changes.Resumed who) = codes "resumed"
change_word (changes.Priority who from to inherited) = codes "priority"
change_word (changes.Normal who to) = codes "normal_priority"
change_word (changes.Yields who) = codes "yields"
change_word (changes.Started watchdog due) = codes "watchdog_started"
change_word (changes.Fired watchdog) = codes "watchdog_fires"
change_word (changes.Cancelled watchdog) = codes "watchdog_cancelled"
change_word (changes.Loaded id) = codes "module_loaded"
change_word (changes.Unloaded id) = codes "module_unloaded"

-- ---- what else is told of a change
-- for what a task waits, and until which tick, if its wait times out
abbrev pub waits_members : Awaited → Option ℕ → List (List ℕ × Data)
waits_members object until = (codes "wait", wait_data (Some object)) ∷ (codes "until", number_or_null until) ∷ []

-- for what it waited, and the result as a signed number
abbrev pub served_members : Awaited → ℕ → List (List ℕ × Data)
served_members object answer = (codes "wait", wait_data (Some object)) ∷ (codes "result", number (of_integer (cast_signed w32 answer))) ∷ []

-- for what it waited, and the error by its number and its name
abbrev pub failed_members : Awaited → ℕ → List (List ℕ × Data)
failed_members object errno =
    (codes "wait", wait_data (Some object)) ∷ (codes "errno", number_of errno) ∷ (codes "error", error_data (errno_named errno)) ∷ []

-- the priorities before and after, and whether the one after is inherited
abbrev pub priority_members : ℕ → ℕ → Bool → List (List ℕ × Data)
priority_members from to inherited = (codes "from", number_of from) ∷ (codes "to", number_of to) ∷ (codes "inherited", boolean inherited) ∷ []

-- a watchdog, and the tick at which it is due
abbrev pub started_members : ℕ → ℕ → List (List ℕ × Data)
started_members watchdog due = (codes "watchdog", number_of watchdog) ∷ (codes "due", number_of due) ∷ []

abbrev pub change_members : Change → List (List ℕ × Data)
change_members (changes.Spawned who pri) = (codes "priority", number_of pri) ∷ []
change_members (changes.Deleted who) = []
change_members (changes.Waits who object until) = waits_members object until
change_members (changes.Sleeps who until) = (codes "until", number_of until) ∷ []
change_members (changes.Served who object answer) = served_members object answer
change_members (changes.Failed who object errno) = failed_members object errno
change_members (changes.GoesOn who object) = (codes "wait", wait_data (Some object)) ∷ []
change_members (changes.Wakes who) = []
change_members (changes.Suspended who) = []
change_members (changes.Resumed who) = []
change_members (changes.Priority who from to inherited) = priority_members from to inherited
change_members (changes.Normal who to) = (codes "to", number_of to) ∷ []
change_members (changes.Yields who) = []
change_members (changes.Started watchdog due) = started_members watchdog due
change_members (changes.Fired watchdog) = (codes "watchdog", number_of watchdog) ∷ []
change_members (changes.Cancelled watchdog) = (codes "watchdog", number_of watchdog) ∷ []
change_members (changes.Loaded id) = (codes "module", number_of id) ∷ []
change_members (changes.Unloaded id) = (codes "module", number_of id) ∷ []
