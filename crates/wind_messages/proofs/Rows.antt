-- Each row of the kernel's calls agrees with what the queues hold: the rows of queues by what they move; all
-- others don't touch the queues.
use Rattle.std.proofs.Common.{◌≡◌, ℕ, ◌+◌, ◌≤◌, true, false, cond, List, [], length, Option, None, Some, Result, Ok, Err, refl, arith}
use Rattle.std.specs.Prelude.{slice_index}
use Rattle.wind_base.specs.declared.board_kind.BoardKind.{BoardKind}
use Rattle.wind_base.specs.declared.errno.Errno.{Errno}
use Rattle.wind_base.specs.declared.errno.Errno.TheVariants as errors
use Rattle.wind_base.specs.declared.gate.Gate.{Gate}
use Rattle.wind_base.specs.declared.gate.Gate.TheVariants as gates
use Rattle.wind_base.specs.declared.semaphore.SemKind.TheVariants as kinds
use Rattle.id_table.specs.Rows.{object_of}
use Rattle.mem_partition.specs.State.{PartState, alloc_of}
use Rattle.mem_partition.specs.declared.block.PartErr.{PartErr}
use Rattle.task_block.specs.declared.task.Task.{Task as TaskRecord}
use Rattle.board_mem.specs.Memory.{has, with_word, string_at}
use Rattle.wind_core.specs.State.{KernState, task_of, task_named}
use Rattle.wind_core.specs.Moves.{live_id, spawn_refusal}
use Rattle.task_safety.specs.Safety.{lessen, unsafe_refusal}
use Rattle.task_safety.specs.Deletion.{deed_of, asked}
use Rattle.task_safety.specs.declared.deleting.Deed.{Deed}
use Rattle.task_safety.specs.declared.deleting.Deed.TheVariants.{Refuses, EndsItself, Removes, Awaits}
use Rattle.sem_plain.specs.declared.semaphore.Semaphore.{Semaphore}
use Rattle.sem_plain.specs.Calls as plain
use Rattle.msg_queue.specs.State.{QueueState, Scene, queue_of}
use Rattle.msg_queue.specs.Comings.{create_refusal, new_queue, created}
use Rattle.msg_queue.specs.Kept.{IsKept}
use Rattle.msg_queue.specs.Machine.{Event, accepted_next, taken_next}
use Rattle.msg_queue.specs.Laws.{Stock, IsBalanced}
use Rattle.msg_queue.proofs.Traffic.{stock, balanced_still, balanced_send, balanced_receive, balanced_create, balanced_gone}
use Rattle.isr_watch.specs.Calls.{create_refusal as watchdog_refusal, created as watchdog_created}
use Rattle.kernel_world.specs.State.{WorldState}
use Rattle.kernel_world.specs.declared.objects.Objects.{Objects}
use Rattle.call_rows.specs.TaskRows.{done, refused, ram_row, task_at, priority_in, suspend_row, resume_row, verify_row, found_row, name_row}
use Rattle.kernel_world.specs.Actors.{target}
use Rattle.call_rows.specs.SafetyRows.{deletes, meant}
use Rattle.call_rows.proofs.RowWalks.{on_made, on_binary, on_counting, on_mutex, on_plain_take, on_mutex_take, on_take, on_plain_give, on_mutex_give, on_give, on_flush, on_delete, on_priority}
use Rattle.call_rows.specs.Unless.{unless}
use Rattle.call_rows.specs.SemRows as sem
use Rattle.call_rows.specs.QueueRows as queue
use Rattle.call_rows.specs.WatchRows as watch
use Rattle.call_rows.specs.Spawning.{SpawnState, SpawnRow, no_spawn, spawned_at, spawned_if, stack_bytes, task_wanted, quick_wanted, spawn_state}
use Rattle.wind_machine.specs.KernelCallsCalls.{of_objects, of_queues, of_watch, of_ram, scene_of, row_of}
use Rattle.kernel_world.specs.CallWords.{ten_arguments, quick_arguments, call_of}
use Rattle.kernel_world.specs.declared.actor.Actor.{Actor}
use Rattle.kernel_world.specs.declared.actor.Actor.TheVariants.{Task as by_task, Interrupt}
use Rattle.kernel_world.specs.declared.reply.Reply.TheVariants.{Answer, Refusal}
use Rattle.wind_messages.specs.Messages.{event_in}
use Rattle.wind_messages.proofs.NextIds.{NextSame, next-resume, next-lessen, next-sem_take, next-sem_give, next-sem_flush, next-sem_delete, next-mutex_take, next-mutex_give, next-mutex_delete, next-priority_set}

-- the queues of a world, and the next id
abbrev pub stock_in : WorldState → Stock
stock_in w = stock (scene_of w)

-- from a world to another, if this queue call is made in a scene, or none
abbrev pub Balances : WorldState → WorldState → Scene → Option Event → Type 0
Balances w v s e = IsBalanced (stock_in w) (stock_in v) (accepted_next s e) (taken_next s e)

-- if no queue call is made, and the queues are the same
pub leaves : (w v : WorldState) (s : Scene) → v.objects.queues.queues ≡ w.objects.queues.queues → w.kern.next_id ≤ v.kern.next_id → Balances w v s None
leaves w v s same ids = balanced_still (stock_in w) (stock_in v) (λ q. []) (λ q. []) (λ q. refl) (λ q. refl) same ids

-- ---- rows that touch only tasks
suspends : (k : KernState) (o : Option ℕ) → NextSame k (suspend_row k o).kern
suspends k None = refl
suspends k (Some id) = refl

resumes : (k : KernState) (o : Option ℕ) → NextSame k (resume_row k o).kern
resumes k None = refl
resumes k (Some id) = next-resume k id

verifies : (k : KernState) (o : Option ℕ) → NextSame k (verify_row k o).kern
verifies k None = refl
verifies k (Some id) = refl

finds : (k : KernState) (o : Option TaskRecord) → NextSame k (found_row k o).kern
finds k None = refl
finds k (Some t) = refl

names : (k : KernState) (o : Option (List ℕ)) → NextSame k (name_row k o).kern
names k None = refl
names k (Some name) = finds k (task_named k.tasks name)

unsafes : (k : KernState) (who : ℕ) (o : Option Errno) → NextSame k (unless o (refused k) (done (lessen k who 1))).kern
unsafes k who None = next-lessen k who 1
unsafes k who (Some e) = refl

deletions : (board : BoardKind) (k : KernState) (p : PartState) (who : ℕ) (d : Deed) → NextSame k (deletes board k p who d).kern
deletions board k p who (Refuses e) = refl
deletions board k p who (EndsItself count) = next-lessen (asked k who) who count
deletions board k p who (Removes id) = refl
deletions board k p who (Awaits id) = refl

-- ---- spawns
abbrev NextLater : SpawnState → SpawnRow → Type 0
NextLater s r = s.kern.next_id ≤ r.after.kern.next_id

spawns_at : (s : SpawnState) (x : _) (o : Result ℕ PartErr) → NextLater s (spawned_at s x o)
spawns_at s x (Err e) = omega arith
spawns_at s x (Ok at) = omega arith

spawns_unless : (s : SpawnState) (x : _) (o : Option Errno) → NextLater s (unless o (no_spawn s) (spawned_at s x (alloc_of s.part (stack_bytes x.stack) 16)))
spawns_unless s x None = spawns_at s x (alloc_of s.part (stack_bytes x.stack) 16)
spawns_unless s x (Some e) = omega arith

spawns : (s : SpawnState) (o : Result _ Errno) → NextLater s (spawned_if s o)
spawns s (Err e) = omega arith
spawns s (Ok x) = spawns_unless s x (spawn_refusal s.kern)

-- ---- rows of semaphores and mutexes
record LeavesQueues (k : KernState) (o : Objects) (r : sem.ObjectRow) : Type 0 where
  pub queues : r.objects.queues.queues ≡ o.queues.queues
  pub ids : k.next_id ≤ r.kern.next_id

module _ (k : KernState) (o : Objects) where
  unchanged : (e : Errno) → LeavesQueues k o (sem.refused k o e)
  unchanged e = record { queues = refl; ids = omega arith }

  making_one : (v : Semaphore) → LeavesQueues k o (sem.made k o v)
  making_one v = on_made k o (LeavesQueues k o) unchanged v (λ fine. record { queues = refl; ids = omega arith })

  binaries : (options state : ℕ) → LeavesQueues k o (sem.binary_row k o options state)
  binaries options state = on_binary k o (LeavesQueues k o) unchanged options state (λ v low. making_one (plain.new_semaphore kinds.Binary v state))

  countings : (options count : ℕ) → LeavesQueues k o (sem.counting_row k o options count)
  countings options count = on_counting k o (LeavesQueues k o) unchanged options count (λ v. making_one (plain.new_semaphore kinds.Counting v count))

  mutexes : (options : ℕ) → LeavesQueues k o (sem.mutex_row k o options)
  mutexes options = on_mutex k o (LeavesQueues k o) unchanged options (λ v fine. record { queues = refl; ids = omega arith })

  takes : (a : Actor) (id n : ℕ) → LeavesQueues k o (sem.take_row k o a id n)
  takes a id n =
      on_take k o (LeavesQueues k o) unchanged a id n
      (λ who is there. on_mutex_take k o (LeavesQueues k o) unchanged who id n (λ fine. record { queues = refl; ids = omega (arith, next-mutex_take (sem.mutexes k o) who id n) }))
      (λ who other. on_plain_take k o (LeavesQueues k o) unchanged who id n (λ fine.
      record { queues = refl; ids = omega (arith, next-sem_take (sem.sems k o) who id n (plain.take_deed n (object_of o.semaphores id))) }))

  gives : (a : Actor) (id : ℕ) → LeavesQueues k o (sem.give_row k o a id)
  gives a id =
      on_give k o (LeavesQueues k o) unchanged a id
      (λ who is there. on_mutex_give k o (LeavesQueues k o) unchanged who id (λ fine. record { queues = refl; ids = omega (arith, next-mutex_give (sem.mutexes k o) who id) }))
      (λ other. on_plain_give k o (LeavesQueues k o) unchanged id (λ fine.
      record { queues = refl; ids = omega (arith, next-sem_give (sem.sems k o) id (plain.give_deed (plain.next_of (sem.sems k o) id) (object_of o.semaphores id))) }))

  flushes : (id : ℕ) → LeavesQueues k o (sem.flush_row k o id)
  flushes id = on_flush k o (LeavesQueues k o) unchanged id (λ other fine. record { queues = refl; ids = omega (arith, next-sem_flush (sem.sems k o) id) })

  sem_deletes : (id : ℕ) → LeavesQueues k o (sem.delete_row k o id)
  sem_deletes id =
      on_delete k o (LeavesQueues k o) unchanged id
      (λ there. record { queues = refl; ids = omega (arith, next-mutex_delete (sem.mutexes k o) id) })
      (λ other fine. record { queues = refl; ids = omega (arith, next-sem_delete (sem.sems k o) id) })

  priorities : (pri : ℕ) (who : Option ℕ) → LeavesQueues k o (sem.priority_row k o pri who)
  priorities pri who = on_priority k o (LeavesQueues k o) unchanged pri who (λ id. record { queues = refl; ids = omega (arith, next-priority_set (sem.mutexes k o) id pri) })

-- ---- the row of each gate
module _ (w : WorldState) (kept : IsKept (scene_of w)) (ram r : List ℕ) where
  none : (v : WorldState) → v.objects.queues.queues ≡ w.objects.queues.queues → w.kern.next_id ≤ v.kern.next_id → Balances w v (scene_of w) None
  none v same ids = leaves w v (scene_of w) same ids

  abbrev later : Actor → Gate → WorldState
  later a g = (row_of (call_of g ram r) w a).world

  by_tasks : (a : Actor) (g : Gate) → (later a g).objects.queues.queues ≡ w.objects.queues.queues → NextSame w.kern (later a g).kern → Balances w (later a g) (scene_of w) None
  by_tasks a g queues same = none (later a g) queues (omega (arith, same))

  by_objects : (x : sem.ObjectRow) → LeavesQueues w.kern w.objects x → Balances w (of_objects w x).world (scene_of w) None
  by_objects x p = none (of_objects w x).world p.queues p.ids

  tells : (at : ℕ) (o : Option TaskRecord) → Balances w (of_ram w (priority_in w.ram at o)).world (scene_of w) None
  tells at None = none w refl (omega arith)
  tells at (Some t) =
      elim (has w.ram at 4) as (λ b. Balances w (of_ram w (cond b (ram_row (with_word w.ram at t.pri) (done w.kern).reply) (ram_row w.ram (refused w.kern errors.BadAddress).reply))).world (scene_of w) None) [ true ↦ none (record w { ram = with_word w.ram at t.pri }) refl (omega arith) | false ↦ none w refl (omega arith) ]

  creates : (max_msgs max_len options : ℕ) → Balances w (of_queues w (queue.create_row (scene_of w) max_msgs max_len options)).world (scene_of w) None
  creates max_msgs max_len options =
      let q : QueueState = new_queue max_msgs max_len options in
      elim (create_refusal (length w.objects.queues.queues) w.kern.next_id max_msgs max_len options) as (λ o. Balances w (of_queues w (unless o (λ e. queue.row_of (scene_of w) (Refusal e)) (queue.row_of (created (scene_of w) q) (Answer w.kern.next_id)))).world (scene_of w) None) [
        | None ↦ balanced_create (scene_of w) q kept refl
        | Some e ↦ none w refl (omega arith)
      ]

  -- the row of a watchdog that is created
  abbrev watch_made : watch.WatchRow
  watch_made = watch.row_of (record w.kern { next_id = w.kern.next_id + 1 }) (watchdog_created w.watch w.kern.next_id) (Answer w.kern.next_id)

  watch_creates : Balances w (of_watch w (watch.create_row w.kern w.watch)).world (scene_of w) None
  watch_creates =
      elim (watchdog_refusal (length w.watch.watchdogs) w.kern.next_id) as (λ o. Balances w (of_watch w (unless o (λ e. watch.row_of w.kern w.watch (Refusal e)) watch_made)).world (scene_of w) None) [
        | None ↦ none (of_watch w watch_made).world refl (omega arith)
        | Some e ↦ none w refl (omega arith)
      ]

  pub row_balances : (a : Actor) (g : Gate) → Balances w (later a g) (scene_of w) (event_in a (call_of g ram r))
  row_balances a gates.TaskSpawn = none (later a gates.TaskSpawn) refl (spawns (spawn_state w) (task_wanted w.ram (slice_index r 3) (slice_index r 4) (slice_index r 6) (slice_index r 7) (ten_arguments ram r)))
  row_balances a gates.Sp = none (later a gates.Sp) refl (spawns (spawn_state w) (quick_wanted (slice_index r 3) (quick_arguments ram r)))
  row_balances (by_task who) gates.TaskDelete =
      by_tasks (by_task who) gates.TaskDelete refl (deletions w.board w.kern w.part who (deed_of w.kern.tasks who (meant who (slice_index r 3))))
  row_balances a gates.TaskSuspend = by_tasks a gates.TaskSuspend refl (suspends w.kern (target w.kern a (slice_index r 3)))
  row_balances a gates.TaskResume = by_tasks a gates.TaskResume refl (resumes w.kern (target w.kern a (slice_index r 3)))
  row_balances a gates.TaskPrioritySet = by_objects _ (priorities w.kern w.objects (slice_index r 4) (target w.kern a (slice_index r 3)))
  row_balances a gates.TaskPriorityGet = tells (slice_index r 4) (task_at w.kern (target w.kern a (slice_index r 3)))
  row_balances (by_task who) gates.TaskUnsafe = by_tasks (by_task who) gates.TaskUnsafe refl (unsafes w.kern who (unsafe_refusal (task_of w.kern.tasks who)))
  row_balances a gates.TaskIdVerify = by_tasks a gates.TaskIdVerify refl (verifies w.kern (live_id w.kern.tasks (slice_index r 3)))
  row_balances a gates.TaskNameToId = by_tasks a gates.TaskNameToId refl (names w.kern (string_at w.ram (slice_index r 3)))
  row_balances a gates.SemBCreate = by_objects _ (binaries w.kern w.objects (slice_index r 3) (slice_index r 4))
  row_balances a gates.SemCCreate = by_objects _ (countings w.kern w.objects (slice_index r 3) (slice_index r 4))
  row_balances a gates.SemMCreate = by_objects _ (mutexes w.kern w.objects (slice_index r 3))
  row_balances a gates.SemTake = by_objects _ (takes w.kern w.objects a (slice_index r 3) (slice_index r 4))
  row_balances a gates.SemGive = by_objects _ (gives w.kern w.objects a (slice_index r 3))
  row_balances a gates.SemFlush = by_objects _ (flushes w.kern w.objects (slice_index r 3))
  row_balances a gates.SemDelete = by_objects _ (sem_deletes w.kern w.objects (slice_index r 3))
  row_balances a gates.MsgQCreate = creates (slice_index r 3) (slice_index r 4) (slice_index r 5)
  row_balances a gates.MsgQSend = balanced_send (scene_of w) (slice_index r 3) (queue.sending a (slice_index r 4) (slice_index r 5) (slice_index r 6) (slice_index r 7)) kept
  row_balances (by_task who) gates.MsgQReceive =
      balanced_receive (scene_of w) (slice_index r 3) (record { caller = who; buffer = slice_index r 4; room = slice_index r 5; timeout = slice_index r 6 }) kept
  row_balances a gates.MsgQDelete = balanced_gone (scene_of w) (slice_index r 3) (queue_of (scene_of w) (slice_index r 3))
  row_balances a gates.WdCreate = watch_creates
  row_balances a gates.WdStart = none (later a gates.WdStart) refl (omega arith)
  row_balances a gates.WdCancel = none (later a gates.WdCancel) refl (omega arith)
  row_balances a gates.WdDelete = none (later a gates.WdDelete) refl (omega arith)
  row_balances a gates.IntConnect = none (later a gates.IntConnect) refl (omega arith)
  row_balances a gates.IntDisconnect = none (later a gates.IntDisconnect) refl (omega arith)
  row_balances a gates.IntEnable = none (later a gates.IntEnable) refl (omega arith)
  row_balances a gates.IntDisable = none (later a gates.IntDisable) refl (omega arith)
  row_balances a gates.IntPending = none (later a gates.IntPending) refl (omega arith)
  row_balances a gates.DevRemove = none (later a gates.DevRemove) refl (omega arith)
  row_balances (by_task who) g = none w refl (omega arith)
  row_balances Interrupt g = none w refl (omega arith)
