-- A kernel call as a value: what its caller asks for, by name. Arguments are words in r3 to r10; those after them
-- are on the stack, from 8 bytes above r1 on (System V ABI, PowerPC supplement, parameter passing).
use Rattle.std.specs.Prelude.{ℕ, ◌++◌, List, [], ◌∷◌, slice_index, Option, None, Some}
use Rattle.std.specs.Option.{option_map}
use Rattle.wind_base.specs.declared.gate.Gate.{Gate}
use Rattle.wind_base.specs.declared.gate.Gate.TheVariants as gates
use Rattle.kernel_world.specs.State.{WorldState}
use Rattle.kernel_world.specs.Actors.{caller_words, stack_word, all_there}
use Rattle.kernel_world.specs.declared.actor.Actor.{Actor}
use Rattle.kernel_world.specs.declared.call.Call.{Call}
use Rattle.kernel_world.specs.declared.call.Call.TheVariants as calls

-- the argument words after those in registers; none if a byte of them is outside RAM
abbrev pub seven_words : List ℕ → ℕ → Option (List ℕ)
seven_words ram at =
    all_there (stack_word ram at 0 ∷ stack_word ram at 1 ∷ stack_word ram at 2 ∷ stack_word ram at 3 ∷ stack_word ram at 4 ∷ stack_word ram at 5 ∷ stack_word ram at 6 ∷ [])

abbrev pub two_words : List ℕ → ℕ → Option (List ℕ)
two_words ram at = all_there (stack_word ram at 0 ∷ stack_word ram at 1 ∷ [])

-- the ten arguments of a task that taskSpawn makes: r8 to r10, and seven more words
abbrev pub ten_arguments : List ℕ → List ℕ → Option (List ℕ)
ten_arguments ram r = option_map (λ more. slice_index r 8 ∷ slice_index r 9 ∷ slice_index r 10 ∷ more) (seven_words ram (slice_index r 1))

-- r4 to r10: the first seven values of printf
abbrev pub seven_values : List ℕ → List ℕ
seven_values r = slice_index r 4 ∷ slice_index r 5 ∷ slice_index r 6 ∷ slice_index r 7 ∷ slice_index r 8 ∷ slice_index r 9 ∷ slice_index r 10 ∷ []

-- the arguments of a task that sp makes: r4 to r10, and two more words; the tenth is 0
abbrev pub quick_arguments : List ℕ → List ℕ → Option (List ℕ)
quick_arguments ram r = option_map (λ more. seven_values r ++ more ++ 0 ∷ []) (two_words ram (slice_index r 1))

-- a call with the words in the first of r3 to r7
abbrev one : (ℕ → Call) → List ℕ → Option Call
one f r = Some (f (slice_index r 3))

abbrev two : (ℕ → ℕ → Call) → List ℕ → Option Call
two f r = Some (f (slice_index r 3) (slice_index r 4))

abbrev three : (ℕ → ℕ → ℕ → Call) → List ℕ → Option Call
three f r = Some (f (slice_index r 3) (slice_index r 4) (slice_index r 5))

abbrev four : (ℕ → ℕ → ℕ → ℕ → Call) → List ℕ → Option Call
four f r = Some (f (slice_index r 3) (slice_index r 4) (slice_index r 5) (slice_index r 6))

abbrev five : (ℕ → ℕ → ℕ → ℕ → ℕ → Call) → List ℕ → Option Call
five f r = Some (f (slice_index r 3) (slice_index r 4) (slice_index r 5) (slice_index r 6) (slice_index r 7))

-- the call of a gate, with the words r in its caller's registers; the return gates have none
abbrev pub call_of : Gate → List ℕ → List ℕ → Option Call
call_of gates.TaskReturn ram r = None
call_of gates.ShellReturn ram r = None
call_of gates.InterruptReturn ram r = None
call_of gates.TaskSpawn ram r = five (λ name priority options size entry. calls.TaskSpawn name priority options size entry (ten_arguments ram r)) r
call_of gates.Sp ram r = one (λ entry. calls.Sp entry (quick_arguments ram r)) r
call_of gates.TaskDelete ram r = one calls.TaskDelete r
call_of gates.TaskSuspend ram r = one calls.TaskSuspend r
call_of gates.TaskResume ram r = one calls.TaskResume r
call_of gates.TaskPrioritySet ram r = two calls.TaskPrioritySet r
call_of gates.TaskPriorityGet ram r = two calls.TaskPriorityGet r
call_of gates.TaskDelay ram r = one calls.TaskDelay r
call_of gates.TaskLock ram r = Some calls.TaskLock
call_of gates.TaskUnlock ram r = Some calls.TaskUnlock
call_of gates.TaskSafe ram r = Some calls.TaskSafe
call_of gates.TaskUnsafe ram r = Some calls.TaskUnsafe
call_of gates.TaskIdSelf ram r = Some calls.TaskIdSelf
call_of gates.TaskIdVerify ram r = one calls.TaskIdVerify r
call_of gates.TaskNameToId ram r = one calls.TaskNameToId r
call_of gates.KernelTimeSlice ram r = one calls.KernelTimeSlice r
call_of gates.TickGet ram r = Some calls.TickGet
call_of gates.SemBCreate ram r = two calls.SemBCreate r
call_of gates.SemCCreate ram r = two calls.SemCCreate r
call_of gates.SemMCreate ram r = one calls.SemMCreate r
call_of gates.SemTake ram r = two calls.SemTake r
call_of gates.SemGive ram r = one calls.SemGive r
call_of gates.SemFlush ram r = one calls.SemFlush r
call_of gates.SemDelete ram r = one calls.SemDelete r
call_of gates.MsgQCreate ram r = three calls.MsgQCreate r
call_of gates.MsgQSend ram r = five calls.MsgQSend r
call_of gates.MsgQReceive ram r = four calls.MsgQReceive r
call_of gates.MsgQDelete ram r = one calls.MsgQDelete r
call_of gates.MsgQNumMsgs ram r = one calls.MsgQNumMsgs r
call_of gates.WdCreate ram r = Some calls.WdCreate
call_of gates.WdStart ram r = four calls.WdStart r
call_of gates.WdCancel ram r = one calls.WdCancel r
call_of gates.WdDelete ram r = one calls.WdDelete r
call_of gates.IntLock ram r = Some calls.IntLock
call_of gates.IntUnlock ram r = one calls.IntUnlock r
call_of gates.IntContext ram r = Some calls.IntContext
call_of gates.Malloc ram r = one calls.Malloc r
call_of gates.Free ram r = one calls.Free r
call_of gates.Memalign ram r = two calls.Memalign r
call_of gates.SymAdd ram r = five calls.SymAdd r
call_of gates.Printf ram r = one (λ format. calls.Printf format (seven_values r) (slice_index r 1)) r
call_of gates.ErrnoGet ram r = Some calls.ErrnoGet
call_of gates.ErrnoSet ram r = one calls.ErrnoSet r
call_of gates.Ld ram r = three calls.Ld r
call_of gates.Unld ram r = two calls.Unld r
call_of gates.I ram r = Some calls.I
call_of gates.Lkup ram r = one calls.Lkup r
call_of gates.ModuleShow ram r = Some calls.ModuleShow
call_of gates.D ram r = three calls.D r
call_of gates.IntConnect ram r = three calls.IntConnect r
call_of gates.IntDisconnect ram r = two calls.IntDisconnect r
call_of gates.IntEnable ram r = one calls.IntEnable r
call_of gates.IntDisable ram r = one calls.IntDisable r
call_of gates.IntPending ram r = one calls.IntPending r
call_of gates.DevRemove ram r = one calls.DevRemove r

-- the call that a caller makes at a gate
abbrev pub call_by : Gate → WorldState → Actor → Option Call
call_by g w a = call_of g w.ram (caller_words w a)

-- the gate of a call
abbrev pub gate_of : Call → Gate
gate_of (calls.TaskSpawn name priority options stack_size entry arguments) = gates.TaskSpawn
gate_of (calls.Sp entry arguments) = gates.Sp
gate_of (calls.TaskDelete id) = gates.TaskDelete
gate_of (calls.TaskSuspend id) = gates.TaskSuspend
gate_of (calls.TaskResume id) = gates.TaskResume
gate_of (calls.TaskPrioritySet id priority) = gates.TaskPrioritySet
gate_of (calls.TaskPriorityGet id address) = gates.TaskPriorityGet
gate_of (calls.TaskDelay ticks) = gates.TaskDelay
gate_of calls.TaskLock = gates.TaskLock
gate_of calls.TaskUnlock = gates.TaskUnlock
gate_of calls.TaskSafe = gates.TaskSafe
gate_of calls.TaskUnsafe = gates.TaskUnsafe
gate_of calls.TaskIdSelf = gates.TaskIdSelf
gate_of (calls.TaskIdVerify id) = gates.TaskIdVerify
gate_of (calls.TaskNameToId name) = gates.TaskNameToId
gate_of (calls.KernelTimeSlice ticks) = gates.KernelTimeSlice
gate_of calls.TickGet = gates.TickGet
gate_of (calls.SemBCreate options state) = gates.SemBCreate
gate_of (calls.SemCCreate options count) = gates.SemCCreate
gate_of (calls.SemMCreate options) = gates.SemMCreate
gate_of (calls.SemTake id timeout) = gates.SemTake
gate_of (calls.SemGive id) = gates.SemGive
gate_of (calls.SemFlush id) = gates.SemFlush
gate_of (calls.SemDelete id) = gates.SemDelete
gate_of (calls.MsgQCreate max_msgs max_length options) = gates.MsgQCreate
gate_of (calls.MsgQSend id buffer count timeout priority) = gates.MsgQSend
gate_of (calls.MsgQReceive id buffer count timeout) = gates.MsgQReceive
gate_of (calls.MsgQDelete id) = gates.MsgQDelete
gate_of (calls.MsgQNumMsgs id) = gates.MsgQNumMsgs
gate_of calls.WdCreate = gates.WdCreate
gate_of (calls.WdStart id delay routine parameter) = gates.WdStart
gate_of (calls.WdCancel id) = gates.WdCancel
gate_of (calls.WdDelete id) = gates.WdDelete
gate_of calls.IntLock = gates.IntLock
gate_of (calls.IntUnlock key) = gates.IntUnlock
gate_of calls.IntContext = gates.IntContext
gate_of (calls.Malloc size) = gates.Malloc
gate_of (calls.Free address) = gates.Free
gate_of (calls.Memalign align size) = gates.Memalign
gate_of (calls.SymAdd table name value kind group) = gates.SymAdd
gate_of (calls.Printf format values stack) = gates.Printf
gate_of calls.ErrnoGet = gates.ErrnoGet
gate_of (calls.ErrnoSet number) = gates.ErrnoSet
gate_of (calls.Ld symbols no_abort name) = gates.Ld
gate_of (calls.Unld which options) = gates.Unld
gate_of calls.I = gates.I
gate_of (calls.Lkup text) = gates.Lkup
gate_of calls.ModuleShow = gates.ModuleShow
gate_of (calls.D address units width) = gates.D
gate_of (calls.IntConnect slot routine parameter) = gates.IntConnect
gate_of (calls.IntDisconnect slot routine) = gates.IntDisconnect
gate_of (calls.IntEnable slot) = gates.IntEnable
gate_of (calls.IntDisable slot) = gates.IntDisable
gate_of (calls.IntPending slot) = gates.IntPending
gate_of (calls.DevRemove slot) = gates.DevRemove
