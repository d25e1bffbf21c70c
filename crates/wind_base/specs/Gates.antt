-- The gates of the kernel's calls, with their table: this project's own.
use Rattle.std.specs.Prelude.{ℕ, ◌+◌, ◌-◌, ◌*◌, ◌/◌, ◌%◌, ◌==◌, ◌&&◌, Bool, true, false, List, [], ◌∷◌, Option, None, Some, nat_le, if◌then◌else◌, codes, option_and_then}
use Rattle.std.specs.List.{slice_get}
use Rattle.wind_base.specs.Limits.{gate_bytes, error_word, ok_word}
use Rattle.wind_base.specs.declared.gate_rules.Callers.{Callers}
use Rattle.wind_base.specs.declared.gate_rules.Callers.TheVariants.{Tasks, All, Shell}
use Rattle.wind_base.specs.declared.gate.Gate.{Gate}
use Rattle.wind_base.specs.declared.gate.Gate.TheVariants as variants

-- all gates, by rising number
unfoldable pub gates : List Gate
gates = variants.TaskReturn
    ∷ variants.ShellReturn
    ∷ variants.InterruptReturn
    ∷ variants.TaskSpawn
    ∷ variants.Sp
    ∷ variants.TaskDelete
    ∷ variants.TaskSuspend
    ∷ variants.TaskResume
    ∷ variants.TaskPrioritySet
    ∷ variants.TaskPriorityGet
    ∷ variants.TaskDelay
    ∷ variants.TaskLock
    ∷ variants.TaskUnlock
    ∷ variants.TaskSafe
    ∷ variants.TaskUnsafe
    ∷ variants.TaskIdSelf
    ∷ variants.TaskIdVerify
    ∷ variants.TaskNameToId
    ∷ variants.KernelTimeSlice
    ∷ variants.TickGet
    ∷ variants.SemBCreate
    ∷ variants.SemCCreate
    ∷ variants.SemMCreate
    ∷ variants.SemTake
    ∷ variants.SemGive
    ∷ variants.SemFlush
    ∷ variants.SemDelete
    ∷ variants.MsgQCreate
    ∷ variants.MsgQSend
    ∷ variants.MsgQReceive
    ∷ variants.MsgQDelete
    ∷ variants.MsgQNumMsgs
    ∷ variants.WdCreate
    ∷ variants.WdStart
    ∷ variants.WdCancel
    ∷ variants.WdDelete
    ∷ variants.IntLock
    ∷ variants.IntUnlock
    ∷ variants.IntContext
    ∷ variants.Malloc
    ∷ variants.Free
    ∷ variants.Memalign
    ∷ variants.SymAdd
    ∷ variants.Printf
    ∷ variants.ErrnoGet
    ∷ variants.ErrnoSet
    ∷ variants.Ld
    ∷ variants.Unld
    ∷ variants.I
    ∷ variants.Lkup
    ∷ variants.ModuleShow
    ∷ variants.D
    ∷ variants.IntConnect
    ∷ variants.IntDisconnect
    ∷ variants.IntEnable
    ∷ variants.IntDisable
    ∷ variants.IntPending
    ∷ variants.DevRemove
    ∷ []

-- the gate with a number
unfoldable pub gate_of : ℕ → Option Gate
gate_of n = slice_get gates n

-- a gate's entry: its number; the name of its call, if it is a call; who may make the call;
-- the result of a refused call, 0 for an object or an address and otherwise ERROR; whether the call can run out of host memory
pub record Rules : Type 0 where
  pub number : ℕ
  pub name : Option (List ℕ)
  pub callers : Callers
  pub refusal : ℕ
  pub memory : Bool

-- the entry of a call's gate
abbrev call : ℕ → List ℕ → Callers → ℕ → Bool → Rules
call number name callers refusal memory = record { number = number; name = Some name; callers = callers; refusal = refusal; memory = memory }

-- the entry of a return's gate; only its number is used
abbrev back : ℕ → Rules
back number = record { number = number; name = None; callers = Tasks; refusal = error_word; memory = false }

-- the table: one line for each gate
abbrev pub rules_of : Gate → Rules
rules_of variants.TaskReturn = back 0
rules_of variants.ShellReturn = back 1
rules_of variants.InterruptReturn = back 2
rules_of variants.TaskSpawn = call 3 (codes "taskSpawn") Tasks error_word false
rules_of variants.Sp = call 4 (codes "sp") Tasks error_word false
rules_of variants.TaskDelete = call 5 (codes "taskDelete") Tasks error_word false
rules_of variants.TaskSuspend = call 6 (codes "taskSuspend") All error_word false
rules_of variants.TaskResume = call 7 (codes "taskResume") All error_word false
rules_of variants.TaskPrioritySet = call 8 (codes "taskPrioritySet") All error_word false
rules_of variants.TaskPriorityGet = call 9 (codes "taskPriorityGet") All error_word false
rules_of variants.TaskDelay = call 10 (codes "taskDelay") Tasks error_word false
rules_of variants.TaskLock = call 11 (codes "taskLock") Tasks error_word false
rules_of variants.TaskUnlock = call 12 (codes "taskUnlock") Tasks error_word false
rules_of variants.TaskSafe = call 13 (codes "taskSafe") Tasks error_word false
rules_of variants.TaskUnsafe = call 14 (codes "taskUnsafe") Tasks error_word false
rules_of variants.TaskIdSelf = call 15 (codes "taskIdSelf") Tasks error_word false
rules_of variants.TaskIdVerify = call 16 (codes "taskIdVerify") All error_word false
rules_of variants.TaskNameToId = call 17 (codes "taskNameToId") Tasks error_word false
rules_of variants.KernelTimeSlice = call 18 (codes "kernelTimeSlice") Tasks error_word false
rules_of variants.TickGet = call 19 (codes "tickGet") All error_word false
rules_of variants.SemBCreate = call 20 (codes "semBCreate") Tasks ok_word false
rules_of variants.SemCCreate = call 21 (codes "semCCreate") Tasks ok_word false
rules_of variants.SemMCreate = call 22 (codes "semMCreate") Tasks ok_word false
rules_of variants.SemTake = call 23 (codes "semTake") Tasks error_word false
rules_of variants.SemGive = call 24 (codes "semGive") All error_word false
rules_of variants.SemFlush = call 25 (codes "semFlush") All error_word false
rules_of variants.SemDelete = call 26 (codes "semDelete") Tasks error_word false
rules_of variants.MsgQCreate = call 27 (codes "msgQCreate") Tasks ok_word true
rules_of variants.MsgQSend = call 28 (codes "msgQSend") All error_word false
rules_of variants.MsgQReceive = call 29 (codes "msgQReceive") Tasks error_word false
rules_of variants.MsgQDelete = call 30 (codes "msgQDelete") Tasks error_word false
rules_of variants.MsgQNumMsgs = call 31 (codes "msgQNumMsgs") All error_word false
rules_of variants.WdCreate = call 32 (codes "wdCreate") Tasks ok_word false
rules_of variants.WdStart = call 33 (codes "wdStart") All error_word false
rules_of variants.WdCancel = call 34 (codes "wdCancel") All error_word false
rules_of variants.WdDelete = call 35 (codes "wdDelete") Tasks error_word false
rules_of variants.IntLock = call 36 (codes "intLock") All error_word false
rules_of variants.IntUnlock = call 37 (codes "intUnlock") All error_word false
rules_of variants.IntContext = call 38 (codes "intContext") All error_word false
rules_of variants.Malloc = call 39 (codes "malloc") Tasks ok_word false
rules_of variants.Free = call 40 (codes "free") Tasks error_word false
rules_of variants.Memalign = call 41 (codes "memalign") Tasks ok_word false
rules_of variants.SymAdd = call 42 (codes "symAdd") Tasks error_word true
rules_of variants.Printf = call 43 (codes "printf") Tasks error_word false
rules_of variants.ErrnoGet = call 44 (codes "errnoGet") All error_word false
rules_of variants.ErrnoSet = call 45 (codes "errnoSet") All error_word false
rules_of variants.Ld = call 46 (codes "ld") Shell error_word true
rules_of variants.Unld = call 47 (codes "unld") Shell error_word false
rules_of variants.I = call 48 (codes "i") Shell error_word true
rules_of variants.Lkup = call 49 (codes "lkup") Shell error_word true
rules_of variants.ModuleShow = call 50 (codes "moduleShow") Shell error_word true
rules_of variants.D = call 51 (codes "d") Shell error_word true
rules_of variants.IntConnect = call 52 (codes "intConnect") Tasks error_word false
rules_of variants.IntDisconnect = call 53 (codes "intDisconnect") Tasks error_word false
rules_of variants.IntEnable = call 54 (codes "intEnable") All error_word false
rules_of variants.IntDisable = call 55 (codes "intDisable") All error_word false
rules_of variants.IntPending = call 56 (codes "intPending") All error_word false
rules_of variants.DevRemove = call 57 (codes "devRemove") Tasks error_word false

-- the number of a gate
abbrev pub gate_number : Gate → ℕ
gate_number g = (rules_of g).number

-- the address of a gate, if the first gate is at the base
abbrev pub gate_address : ℕ → Gate → ℕ
gate_address base g = base + gate_bytes * gate_number g

-- the gate that begins at an address
abbrev pub gate_at : ℕ → ℕ → Option Gate
gate_at base at = if nat_le base at && ((at - base) % gate_bytes == 0) then gate_of ((at - base) / gate_bytes) else None

-- the name of the call of the gate with a number; gates 0 to 2 and those above 57 have none
unfoldable pub gate_name : ℕ → Option (List ℕ)
gate_name n = option_and_then (λ g. (rules_of g).name) (gate_of n)
