-- The board as JSON.
use Rattle.std.specs.Prelude.{◌≡◌, ℕ, ◌-◌, ◌^◌, List, [], ◌∷◌, ◌++◌, length, min, Some, codes}
use Rattle.serde_json.specs.Data.{Data, string}
use Rattle.serde_json.specs.Read.{read}
use Rattle.kernel_world.specs.State.{WorldState}
use Rattle.board_reading.specs.WindMachineState.{State}
use Rattle.board_reading.specs.WindMachinePhase.{Phase}
use Rattle.board_reading.specs.WindMachinePhase.TheVariants as phases
use Rattle.board_reading.specs.BoardTraceRunning.{running_task}
use Rattle.trace_state.specs.Json.{list_of, number_of, number_or_null, object_of}
use Rattle.trace_state.specs.Memory.{block_data, ram_data}
use Rattle.trace_state.specs.Modules.{devices_data, module_data, symbol_data}
use Rattle.trace_state.specs.Objects.{level_data, mutex_data, queue_data, rows_data, semaphore_data, watchdog_data}
use Rattle.trace_state.specs.Tasks.{task_data}

-- the word for a phase of the shell
abbrev pub phase_word : Phase → List ℕ
phase_word phases.Prompt = codes "prompt"
phase_word phases.Read = codes "read"
phase_word phases.Eval = codes "eval"
phase_word phases.Call = codes "call"

-- the console, with how many bytes haven't arrived, and the shell
abbrev pub console_data : State → Data
console_data s = object_of ((codes "left", number_of (length s.left)) ∷ [])

abbrev pub shell_data : State → Data
shell_data s = object_of ((codes "phase", string (phase_word s.shell.phase)) ∷ [])

-- board time is at most 2^64 - 1
abbrev pub time_shown : ℕ → ℕ
time_shown time = min time (2 ^ 64 - 1)

-- ---- the board
-- the time and who runs
abbrev pub time_members : State → List (List ℕ × Data)
time_members s =
    (codes "time", number_of (time_shown s.time))
    ∷ (codes "steps", number_of s.steps)
    ∷ (codes "tick", number_of s.world.kern.tick)
    ∷ (codes "last", number_or_null s.world.kern.last)
    ∷ (codes "running", number_or_null (running_task s.world))
    ∷ []

-- the console and the shell
abbrev pub shell_members : State → List (List ℕ × Data)
shell_members s = (codes "console", console_data s) ∷ (codes "shell", shell_data s) ∷ []

-- the tasks and the interrupt level
abbrev pub task_members : WorldState → List (List ℕ × Data)
task_members w = (codes "tasks", list_of (task_data w.objects) w.kern.tasks) ∷ (codes "level", level_data w.watch.level w.int_errno) ∷ []

-- the kernel's objects
abbrev pub object_members : WorldState → List (List ℕ × Data)
object_members w =
    (codes "semaphores", rows_data semaphore_data w.objects.semaphores)
    ∷ (codes "mutexes", rows_data mutex_data w.objects.mutexes.rows)
    ∷ (codes "queues", rows_data queue_data w.objects.queues.queues)
    ∷ (codes "watchdogs", list_of watchdog_data w.watch.watchdogs)
    ∷ []

-- the modules and the symbols
abbrev pub module_members : WorldState → List (List ℕ × Data)
module_members w = (codes "modules", rows_data module_data w.modules.rows) ∷ (codes "symbols", list_of symbol_data w.symbols) ∷ []

-- the memory partition, RAM and the device slots
abbrev pub memory_members : WorldState → List (List ℕ × Data)
memory_members w =
    (codes "blocks", list_of block_data w.part.blocks) ∷ (codes "ram", ram_data w.ram) ∷ (codes "slots", devices_data w.irqs w.slots) ∷ []

unfoldable pub board_data : State → Data
board_data s =
    object_of (time_members s ++ (shell_members s ++ (task_members s.world ++ (object_members s.world ++ (module_members s.world ++ memory_members s.world)))))

-- a text and a newline; the text reads back as this value of JSON
pub record IsTextOf (text : List ℕ) (d : Data) : Type 0 where
  pub json : List ℕ
  pub text_is : text ≡ json ++ codes "\n"
  pub reads_back : read json ≡ Some d
