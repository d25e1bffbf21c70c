-- The tasks as JSON.
use Rattle.std.specs.Prelude.{ℕ, List, [], ◌∷◌, ◌++◌, Option, None, Some, codes}
use Rattle.serde_json.specs.Data.{Data, null, boolean, string}
use Rattle.wind_base.specs.declared.regs.Regs.{Regs}
use Rattle.task_block.specs.declared.task.Task.{Task}
use Rattle.kernel_world.specs.declared.objects.Objects.{Objects}
use Rattle.board_changes.specs.declared.awaited.Awaited.{Awaited}
use Rattle.board_changes.specs.declared.awaited.Awaited.TheVariants as awaited
use Rattle.board_reading.specs.BoardTraceWaited.{awaited_by}
use Rattle.trace_state.specs.Json.{list_of, number_of, number_or_null, object_of, text_of}

-- the word for what is waited for
abbrev pub awaited_word : Awaited → List ℕ
awaited_word (awaited.Semaphore id) = codes "semaphore"
awaited_word (awaited.Mutex id) = codes "mutex"
awaited_word (awaited.Receiving id) = codes "message"
awaited_word (awaited.Sending id) = codes "room"
awaited_word (awaited.Deletion id) = codes "deletion"
awaited_word awaited.Console = codes "console"

-- its id; the console has none
abbrev pub awaited_id : Awaited → Option ℕ
awaited_id (awaited.Semaphore id) = Some id
awaited_id (awaited.Mutex id) = Some id
awaited_id (awaited.Receiving id) = Some id
awaited_id (awaited.Sending id) = Some id
awaited_id (awaited.Deletion id) = Some id
awaited_id awaited.Console = None

-- what a task waits for, or null
abbrev pub wait_data : Option Awaited → Data
wait_data None = null
wait_data (Some object) =
    object_of ((codes "for", string (awaited_word object)) ∷ (codes "id", number_or_null (awaited_id object)) ∷ [])

-- the registers of a task
abbrev pub registers_data : Regs → Data
registers_data r = object_of (
    (codes "gpr", list_of number_of r.gpr)
    ∷ (codes "pc", number_of r.pc)
    ∷ (codes "lr", number_of r.lr)
    ∷ (codes "ctr", number_of r.ctr)
    ∷ (codes "cr", number_of r.cr)
    ∷ (codes "xer", number_of r.xer)
    ∷ [])

-- ---- a task
-- its id, name and priorities
abbrev pub identity : Task → List (List ℕ × Data)
identity t =
    (codes "id", number_of t.id) ∷ (codes "name", text_of t.name) ∷ (codes "pri", number_of t.pri) ∷ (codes "normal", number_of t.normal) ∷ []

-- what it waits for among these objects, and whether it is suspended
abbrev pub waiting : Objects → Task → List (List ℕ × Data)
waiting objects t =
    (codes "wait", wait_data (awaited_by objects t)) ∷ (codes "wake", number_or_null t.wake) ∷ (codes "suspended", boolean t.suspended) ∷ []

-- its locks and its error number
abbrev pub locks : Task → List (List ℕ × Data)
locks t =
    (codes "locks", number_of t.locks) ∷ (codes "safe", number_of t.safe) ∷ (codes "int_locked", boolean t.int_locked) ∷ (codes "errno", number_of t.errno) ∷ []

-- its routine, its stack and its registers
abbrev pub routine : Task → List (List ℕ × Data)
routine t =
    (codes "entry", number_of t.entry) ∷ (codes "stack", number_of t.stack) ∷ (codes "stack_size", number_of t.stack_size) ∷ (codes "regs", registers_data t.regs) ∷ []

-- a task among these objects
abbrev pub task_data : Objects → Task → Data
task_data objects t = object_of (identity t ++ (waiting objects t ++ (locks t ++ routine t)))
