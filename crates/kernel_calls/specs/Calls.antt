-- The kernel's calls, one row for each.
use Rattle.std.specs.Prelude.{ℕ, List, ◌++◌, length, Option, None, Some, Bool, true, false, ◌&&◌, ◌||◌, ◌==◌, not, nat_lt, if◌then◌else◌}
use Rattle.wind_base.specs.Limits.{ok_word, longest_name}
use Rattle.wind_base.specs.declared.gate.Gate.{Gate}
use Rattle.wind_base.specs.declared.errno.Errno.{Errno}
use Rattle.wind_base.specs.declared.errno.Errno.TheVariants as errors
use Rattle.board_mem.specs.Memory.{string_at}
use Rattle.wind_core.specs.Moves.{live_id}
use Rattle.msg_queue.specs.State.{Scene, scene}
use Rattle.call_rows.specs.KernelWorldState.{WorldState}
use Rattle.call_rows.specs.KernelWorldActors.{is_interrupt, is_shell, target}
use Rattle.call_rows.specs.KernelWorldCallWords.{call_by}
use Rattle.call_rows.specs.KernelWorldCall.{Call}
use Rattle.call_rows.specs.KernelWorldCall.TheVariants as calls
use Rattle.call_rows.specs.KernelWorldAllowed.{is_isr_callable, is_shells_own}
use Rattle.call_rows.specs.KernelWorldReplies.{errno_of, with_errno, left_gate, replied}
use Rattle.call_rows.specs.KernelWorldActor.{Actor}
use Rattle.call_rows.specs.KernelWorldReply.{Reply}
use Rattle.call_rows.specs.KernelWorldReply.TheVariants.{Answer, Refusal, Later, Gone}
use Rattle.call_rows.specs.Unless.{unless}
use Rattle.call_rows.specs.SemRows as sem
use Rattle.call_rows.specs.QueueRows as queue
use Rattle.call_rows.specs.WatchRows as watch
use Rattle.call_rows.specs.IrqRows as irq
use Rattle.call_rows.specs.TaskRows.{KernRow, RamRow, task_at, priority_in, suspend_row, resume_row, delay_row, lock_row, unlock_row, self_row, verify_row, name_row, slice_row, tick_row, int_lock_row, int_unlock_row, int_context_row}
use Rattle.call_rows.specs.SafetyRows.{DeleteRow, safe_row, unsafe_row, delete_row}
use Rattle.call_rows.specs.MemoryRows.{PartRow, malloc_row, align_row, free_row}
use Rattle.call_rows.specs.SymbolRows.{SymbolRow, symbol_row}
use Rattle.call_rows.specs.Spawning.{SpawnRow, spawn_state, after_spawn, after_quick, spawned_if, task_wanted, quick_wanted}
use Rattle.kernel_calls.specs.ShowRows as show
use Rattle.kernel_calls.specs.ModuleRows.{ModuleRow, unload_row}
use Rattle.kernel_calls.specs.declared.files.Load.{Load}
use Rattle.kernel_calls.specs.declared.calls.Called.{Called}
use Rattle.kernel_calls.specs.declared.calls.Called.TheVariants as called

-- ---- the effect of a call, and how its caller is answered
pub record Row : Type 0 where
  pub world : WorldState
  pub reply : Reply

abbrev pub with_reply : WorldState → Reply → Row
with_reply w r = record { world = w; reply = r }

-- the world and the reply after a row of one kind: of tasks, objects, queues, watchdogs, interrupts of devices, texts,
-- a deletion, RAM, the partition, symbols
abbrev pub of_kern : WorldState → KernRow → Row
of_kern w r = with_reply (record w { kern = r.kern }) r.reply

abbrev pub of_objects : WorldState → sem.ObjectRow → Row
of_objects w r = with_reply (record w { kern = r.kern; objects = r.objects }) r.reply

abbrev pub scene_of : WorldState → Scene
scene_of w = scene w.kern w.objects.queues w.ram

abbrev pub of_queues : WorldState → queue.QueueRow → Row
of_queues w r = with_reply (record w { kern = r.scene.kern; objects = record w.objects { queues = r.scene.queues }; ram = r.scene.ram }) r.reply

abbrev pub of_watch : WorldState → watch.WatchRow → Row
of_watch w r = with_reply (record w { kern = r.kern; watch = r.watch }) r.reply

abbrev pub of_irqs : WorldState → irq.IrqRow → Row
of_irqs w r = with_reply (record w { irqs = r.irqs; slots = r.slots }) r.reply

abbrev pub of_text : WorldState → show.ShowRow → Row
of_text w r = with_reply (record w { output = w.output ++ r.text }) r.reply

abbrev pub of_deletion : WorldState → DeleteRow → Row
of_deletion w r = with_reply (record w { kern = r.kern; part = r.part }) r.reply

abbrev pub of_ram : WorldState → RamRow → Row
of_ram w r = with_reply (record w { ram = r.ram }) r.reply

abbrev pub of_part : WorldState → PartRow → Row
of_part w r = with_reply (record w { part = r.part }) r.reply

abbrev pub of_symbols : WorldState → SymbolRow → Row
of_symbols w r = with_reply (record w { symbols = r.symbols }) r.reply

-- the same of an unload, and of a spawn by taskSpawn or sp
abbrev pub of_modules : WorldState → ModuleRow → Row
of_modules w r = with_reply (record w { symbols = r.symbols; modules = record w.modules { rows = r.modules }; part = r.part }) r.reply

abbrev pub of_spawn : WorldState → SpawnRow → Row
of_spawn w r = with_reply (after_spawn w r.after) r.reply

abbrev pub of_quick : WorldState → SpawnRow → Row
of_quick w r = with_reply (after_quick w r) r.reply

-- the row of a call; ld comes to its row only if it needs no file, because the file's name can't be read
abbrev pub row : Call → WorldState → Actor → Row
row (calls.TaskSpawn name priority options stack_size entry arguments) w a = of_spawn w (spawned_if (spawn_state w) (task_wanted w.ram name priority stack_size entry arguments))
row (calls.Sp entry arguments) w a = of_quick w (spawned_if (spawn_state w) (quick_wanted entry arguments))
row (calls.TaskDelete id) w a = of_deletion w (delete_row w.board w.kern w.part a id)
row (calls.TaskSuspend id) w a = of_kern w (suspend_row w.kern (target w.kern a id))
row (calls.TaskResume id) w a = of_kern w (resume_row w.kern (target w.kern a id))
row (calls.TaskPrioritySet id priority) w a = of_objects w (sem.priority_row w.kern w.objects priority (target w.kern a id))
row (calls.TaskPriorityGet id address) w a = of_ram w (priority_in w.ram address (task_at w.kern (target w.kern a id)))
row (calls.TaskDelay ticks) w a = of_kern w (delay_row w.kern a ticks)
row calls.TaskLock w a = of_kern w (lock_row w.kern a)
row calls.TaskUnlock w a = of_kern w (unlock_row w.kern a)
row calls.TaskSafe w a = of_kern w (safe_row w.kern a)
row calls.TaskUnsafe w a = of_kern w (unsafe_row w.kern a)
row calls.TaskIdSelf w a = of_kern w (self_row w.kern a)
row (calls.TaskIdVerify id) w a = of_kern w (verify_row w.kern (live_id w.kern.tasks id))
row (calls.TaskNameToId name) w a = of_kern w (name_row w.kern (string_at w.ram name))
row (calls.KernelTimeSlice ticks) w a = of_kern w (slice_row w.kern ticks)
row calls.TickGet w a = of_kern w (tick_row w.kern)
row (calls.SemBCreate options state) w a = of_objects w (sem.binary_row w.kern w.objects options state)
row (calls.SemCCreate options count) w a = of_objects w (sem.counting_row w.kern w.objects options count)
row (calls.SemMCreate options) w a = of_objects w (sem.mutex_row w.kern w.objects options)
row (calls.SemTake id timeout) w a = of_objects w (sem.take_row w.kern w.objects a id timeout)
row (calls.SemGive id) w a = of_objects w (sem.give_row w.kern w.objects a id)
row (calls.SemFlush id) w a = of_objects w (sem.flush_row w.kern w.objects id)
row (calls.SemDelete id) w a = of_objects w (sem.delete_row w.kern w.objects id)
row (calls.MsgQCreate max_msgs max_length options) w a = of_queues w (queue.create_row (scene_of w) max_msgs max_length options)
row (calls.MsgQSend id buffer count timeout priority) w a = of_queues w (queue.send_row (scene_of w) id (queue.sending a buffer count timeout priority))
row (calls.MsgQReceive id buffer count timeout) w a = of_queues w (queue.receive_row (scene_of w) a id buffer count timeout)
row (calls.MsgQDelete id) w a = of_queues w (queue.delete_row (scene_of w) id)
row (calls.MsgQNumMsgs id) w a = of_queues w (queue.count_row (scene_of w) id)
row calls.WdCreate w a = of_watch w (watch.create_row w.kern w.watch)
row (calls.WdStart id delay routine parameter) w a = of_watch w (watch.start_row w.kern w.watch id delay (watch.routine_of routine parameter))
row (calls.WdCancel id) w a = of_watch w (watch.cancel_row w.kern w.watch id)
row (calls.WdDelete id) w a = of_watch w (watch.delete_row w.kern w.watch id)
row calls.IntLock w a = of_kern w (int_lock_row w.kern a)
row (calls.IntUnlock key) w a = of_kern w (int_unlock_row w.kern a key)
row calls.IntContext w a = of_kern w (int_context_row w.kern a)
row (calls.Malloc size) w a = of_part w (malloc_row w.part size)
row (calls.Free address) w a = of_part w (free_row w.part address)
row (calls.Memalign align size) w a = of_part w (align_row w.part align size)
row (calls.SymAdd table name value kind group) w a = of_symbols w (symbol_row w.symbols w.ram table name value kind)
row (calls.Printf format values stack) w a = of_text w (show.printf_row w.ram format values stack)
row calls.ErrnoGet w a = with_reply w (Answer (errno_of w a))
row (calls.ErrnoSet number) w a = with_reply (with_errno w a number) (Answer ok_word)
row calls.I w a = of_text w (show.tasks_row w.kern)
row (calls.Ld symbols no_abort name) w a = with_reply w (Refusal errors.BadAddress)
row (calls.Unld which options) w a = of_modules w (unload_row w.symbols w.modules.rows w.part w.ram which)
row (calls.Lkup text) w a = of_text w (show.lookup_row w.symbols w.ram text)
row calls.ModuleShow w a = of_text w (show.modules_row w.modules.rows)
row (calls.D address units width) w a = of_text w (show.dump_row w.ram address units width)
row (calls.IntConnect slot routine parameter) w a = of_irqs w (irq.connect_row w.irqs w.slots slot (watch.routine_of routine parameter))
row (calls.IntDisconnect slot routine) w a = of_irqs w (irq.disconnect_row w.irqs w.slots slot routine)
row (calls.IntEnable slot) w a = of_irqs w (irq.enable_row w.irqs w.slots slot true)
row (calls.IntDisable slot) w a = of_irqs w (irq.enable_row w.irqs w.slots slot false)
row (calls.IntPending slot) w a = of_irqs w (irq.pending_row w.irqs w.slots slot)
row (calls.DevRemove slot) w a = of_irqs w (irq.remove_row w.irqs w.slots slot)

-- the row of the call at a gate; if the gate has no call, nothing happens
abbrev pub row_of : Option Call → WorldState → Actor → Row
row_of None w a = with_reply w Later
row_of (Some c) w a = row c w a

-- ---- a call
abbrev pub answered : Gate → Actor → Row → WorldState
answered g a r = replied g r.world a r.reply

-- refused at interrupt level if the call isn't allowed there; then if only the shell's task may make it and the
-- caller is another
abbrev pub refusal_before : Gate → Actor → Option Errno
refusal_before g a =
    if is_interrupt a && not (is_isr_callable g) then Some errors.NotIsrCallable
    else if is_shells_own g && not (is_shell a) then Some errors.NotShell
    else None

-- a refused call changes nothing
abbrev pub declined : WorldState → Errno → Row
declined w e = with_reply w (Refusal e)

abbrev pub allowed_row : Gate → Option Call → WorldState → Actor → Row
allowed_row g c w a = unless (refusal_before g a) (declined w) (row_of c w a)

-- a call up to the answer: the caller goes on after its gate, and the call has its effect
abbrev pub made : Gate → WorldState → Actor → Row
made g w a = allowed_row g (call_by g w a) (left_gate w a) a

-- a whole call: the caller is answered too
abbrev pub call : Gate → WorldState → Actor → WorldState
call g w a = answered g a (made g w a)

-- what the board is told after a reply
abbrev pub outcome_by : Reply → Called
outcome_by (Answer value) = called.Done
outcome_by (Refusal e) = called.Done
outcome_by Later = called.Pended
outcome_by Gone = called.Ended

abbrev pub outcome : Gate → WorldState → Actor → Called
outcome g w a = outcome_by (made g w a).reply

-- ---- the file that a call needs
-- a name has 1 to 255 bytes
abbrev pub file_name : Option (List ℕ) → Option (List ℕ)
file_name None = None
file_name (Some name) = if length name == 0 || nat_lt longest_name (length name) then None else Some name

-- a call of ld by the shell's task wants a load; no other call does
abbrev pub load_by : Call → Actor → Option Load
load_by (calls.Ld symbols no_abort name) a = if is_shell a then Some (record { name = name; mode = symbols }) else None
load_by c a = None

abbrev pub load_in : Option Call → Actor → Option Load
load_in None a = None
load_in (Some c) a = load_by c a

-- the load that the call of a gate wants: the address of its file's name, and its mode
abbrev pub load_wanted : Gate → WorldState → Actor → Option Load
load_wanted g w a = load_in (call_by g w a) a

-- the file whose name is at the load's address
abbrev pub file_of : List ℕ → Option Load → Option (List ℕ)
file_of ram None = None
file_of ram (Some load) = file_name (string_at ram load.name)

-- the file that the call of a gate needs
abbrev pub file_wanted : Gate → WorldState → Actor → Option (List ℕ)
file_wanted g w a = file_of w.ram (load_wanted g w a)

-- the call was made
abbrev pub is_made : Called → Bool
is_made called.Done = true
is_made called.Pended = true
is_made called.Ended = true
is_made (called.NeedsFile name) = false
is_made called.NoMemory = false

-- the file that an answer names
abbrev pub asked_for : Called → Option (List ℕ)
asked_for (called.NeedsFile name) = Some name
asked_for c = None
