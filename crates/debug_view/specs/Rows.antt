-- The list of threads.
use Rattle.std.specs.Prelude.{ℕ, ◌==◌, if◌then◌else◌, Bool, true, false, List, [], ◌∷◌, ◌++◌, map, codes, Option, None, Some, option_to_list}
use Rattle.std.specs.Fmt.{decimal}
use Rattle.std.specs.Option.{option_map}
use Rattle.wind_base.specs.declared.regs.Regs.{Regs}
use Rattle.id_table.specs.Idents.{shell_id}
use Rattle.task_block.specs.declared.task.Task.{Task}
use Rattle.kernel_world.specs.State.{WorldState}
use Rattle.kernel_world.specs.declared.objects.Objects.{Objects}
use Rattle.board_changes.specs.declared.awaited.Awaited.{Awaited}
use Rattle.board_changes.specs.declared.awaited.Awaited.TheVariants as awaited
use Rattle.board_reading.specs.BoardTraceWaited.{awaited_by}
use Rattle.board_reading.specs.WindMachineState.{State}
use Rattle.board_reading.specs.WindMachinePhase.{Phase}
use Rattle.board_reading.specs.WindMachinePhase.TheVariants as phases
use Rattle.debug_texts.specs.Lists.{ThreadRow, threads_text}
use Rattle.debug_view.specs.Threads.{interrupt_name, interrupt_thread}
use Rattle.debug_view.specs.declared.ended.Ended.{Ended}

-- ---- the words about a task
-- what it waits for
abbrev pub awaited_words : Awaited → List ℕ
awaited_words (awaited.Semaphore id) = codes "semaphore " ++ decimal id
awaited_words (awaited.Mutex id) = codes "mutex " ++ decimal id
awaited_words (awaited.Receiving id) = codes "message of queue " ++ decimal id
awaited_words (awaited.Sending id) = codes "room in queue " ++ decimal id
awaited_words (awaited.Deletion id) = codes "deletion of task " ++ decimal id
awaited_words awaited.Console = codes "console"

abbrev pub wait_words : Option Awaited → List ℕ
wait_words None = []
wait_words (Some object) = codes "waits for " ++ (awaited_words object ++ codes ", ")

-- the tick at which its delay or its timeout ends
abbrev pub wake_words : Option ℕ → List ℕ
wake_words None = []
wake_words (Some tick) = codes "until tick " ++ (decimal tick ++ codes ", ")

abbrev pub suspended_words : Bool → List ℕ
suspended_words true = codes "suspended, "
suspended_words false = []

-- why it isn't ready
abbrev pub reasons : Objects → Task → List ℕ
reasons objects t = wait_words (awaited_by objects t) ++ (wake_words t.wake ++ suspended_words t.suspended)

-- ready, if there is no such reason
abbrev pub or_ready : List ℕ → List ℕ
or_ready [] = codes "ready, "
or_ready (b ∷ bs) = b ∷ bs

-- the word for a phase of the shell
abbrev pub phase_word : Phase → List ℕ
phase_word phases.Prompt = codes "Prompt"
phase_word phases.Read = codes "Read"
phase_word phases.Eval = codes "Eval"
phase_word phases.Call = codes "Call"

-- the shell's phase, if it is the shell's task
abbrev pub phase_words : Phase → ℕ → List ℕ
phase_words phase id = if id == shell_id then codes ", phase " ++ phase_word phase else []

-- the words about a task: its state, its priority, and of the shell's task the phase
abbrev pub task_words : Phase → Objects → Task → List ℕ
task_words phase objects t = or_ready (reasons objects t) ++ (codes "priority " ++ (decimal t.pri ++ phase_words phase t.id))

-- ---- the rows
abbrev pub task_row : Phase → Objects → Task → ThreadRow
task_row phase objects t = record { id = t.id; name = t.name; words = task_words phase objects t }

-- the row of the interrupt level
abbrev pub interrupt_row : ThreadRow
interrupt_row = record { id = interrupt_thread; name = interrupt_name; words = codes "routine" }

abbrev pub interrupt_rows : Option Regs → List ThreadRow
interrupt_rows None = []
interrupt_rows (Some regs) = interrupt_row ∷ []

-- the row of the one that ended
abbrev pub ended_row : Ended → ThreadRow
ended_row e = record { id = e.thread; name = e.name; words = codes "ended" }

-- the live tasks by rising id, the interrupt level while a routine is active, and the one that ended
unfoldable pub rows_of : Phase → WorldState → Option Ended → List ThreadRow
rows_of phase w ended =
    map (task_row phase w.objects) w.kern.tasks ++ (interrupt_rows w.watch.level ++ option_to_list (option_map ended_row ended))

-- the list of threads
abbrev pub threads_told : State → Option Ended → List ℕ
threads_told s ended = threads_text (rows_of s.shell.phase s.world ended)
