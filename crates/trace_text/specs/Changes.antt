-- The texts of changes. They are this project's own.
use Rattle.std.specs.Prelude.{ℕ, Bool, true, false, List, [], ◌++◌, Option, None, Some, codes}
use Rattle.std.specs.Fmt.{decimal}
use Rattle.wind_base.specs.Errno.{errno_name}
use Rattle.wind_base.specs.Limits.{error_word}
use Rattle.wind_base.specs.declared.errno.Errno.{Errno}
use Rattle.board_changes.specs.declared.awaited.Awaited.{Awaited}
use Rattle.board_changes.specs.declared.awaited.Awaited.TheVariants as awaited
use Rattle.board_changes.specs.declared.change.Change.{Change}
use Rattle.board_changes.specs.declared.change.Change.TheVariants as changes
use Rattle.board_trace.specs.Errors.{errno_named}
use Rattle.trace_text.specs.Pieces.{signed, word_hex}

-- what a task waits for
abbrev pub awaited_text : Awaited → List ℕ
awaited_text (awaited.Semaphore id) = codes "semaphore " ++ decimal id
awaited_text (awaited.Mutex id) = codes "mutex " ++ decimal id
awaited_text (awaited.Receiving id) = codes "a message of queue " ++ decimal id
awaited_text (awaited.Sending id) = codes "room in queue " ++ decimal id
awaited_text (awaited.Deletion id) = codes "the deletion of task " ++ decimal id
awaited_text awaited.Console = codes "the console"

-- until which tick, if there is one
abbrev pub until_tick_text : ℕ → List ℕ
until_tick_text tick = codes " until tick " ++ decimal tick

abbrev pub until_text : Option ℕ → List ℕ
until_text None = []
until_text (Some tick) = until_tick_text tick

-- an error number: its name, if it is one of the kernel's calls
abbrev pub error_text : Option Errno → ℕ → List ℕ
error_text None number = word_hex number
error_text (Some e) number = errno_name e

-- a wait ends
abbrev pub end_text : Awaited → List ℕ
end_text object = codes "ends its wait for " ++ awaited_text object

abbrev pub inherited_text : Bool → List ℕ
inherited_text true = codes " by inheritance"
inherited_text false = []

-- ---- what is said of a task
abbrev pub spawned_text : ℕ → List ℕ
spawned_text pri = codes "is spawned with priority " ++ decimal pri

abbrev pub waits_text : Awaited → Option ℕ → List ℕ
waits_text object until = codes "waits for " ++ (awaited_text object ++ until_text until)

abbrev pub sleeps_text : ℕ → List ℕ
sleeps_text until = codes "sleeps" ++ until_tick_text until

-- a wait ends with a result, or with ERROR and an error number
abbrev pub served_text : Awaited → ℕ → List ℕ
served_text object answer = end_text object ++ (codes ": " ++ signed answer)

abbrev pub failed_text : Awaited → ℕ → List ℕ
failed_text object errno = end_text object ++ (codes ": " ++ (signed error_word ++ (codes " " ++ error_text (errno_named errno) errno)))

abbrev pub priority_text : ℕ → ℕ → Bool → List ℕ
priority_text from to inherited = codes "priority " ++ (decimal from ++ (codes " -> " ++ (decimal to ++ inherited_text inherited)))

abbrev pub normal_text : ℕ → List ℕ
normal_text to = codes "normal priority " ++ decimal to

-- ---- what is said of a watchdog or a module
abbrev pub object_text : List ℕ → ℕ → List ℕ → List ℕ
object_text kind id what = kind ++ (decimal id ++ what)

abbrev pub started_text : ℕ → ℕ → List ℕ
started_text watchdog due = codes "watchdog " ++ (decimal watchdog ++ (codes " is started, due at tick " ++ decimal due))

-- the text of a change of a task, a watchdog or a module
abbrev pub change_text : Change → List ℕ
change_text (changes.Spawned who pri) = spawned_text pri
change_text (changes.Deleted who) = codes "is deleted"
change_text (changes.Waits who object until) = waits_text object until
change_text (changes.Sleeps who until) = sleeps_text until
change_text (changes.Served who object answer) = served_text object answer
change_text (changes.Failed who object errno) = failed_text object errno
change_text (changes.GoesOn who object) = end_text object
change_text (changes.Wakes who) = codes "wakes"
change_text (changes.Suspended who) = codes "is suspended"
change_text (changes.Resumed who) = codes "is resumed"
change_text (changes.Priority who from to inherited) = priority_text from to inherited
change_text (changes.Normal who to) = normal_text to
change_text (changes.Yields who) = codes "goes after the others of its priority"
change_text (changes.Started watchdog due) = started_text watchdog due
change_text (changes.Fired watchdog) = object_text (codes "watchdog ") watchdog (codes " fires")
change_text (changes.Cancelled watchdog) = object_text (codes "watchdog ") watchdog (codes " is cancelled")
change_text (changes.Loaded id) = object_text (codes "module ") id (codes " is loaded")
change_text (changes.Unloaded id) = object_text (codes "module ") id (codes " is unloaded")
