-- What every call keeps.
use Rattle.std.proofs.Common.{◌≡◌, ℕ, ◌+◌, ◌≤◌, Bool, List, ◌++◌, Option, None, Some, is_some, true, false, cond, refl, ◌∙◌, subst, arith}
use Rattle.std.specs.Prelude.{slice_index}
use Rattle.wind_base.specs.declared.gate.Gate.{Gate}
use Rattle.wind_base.specs.declared.gate.Gate.TheVariants as gates
use Rattle.wind_base.specs.declared.errno.Errno.{Errno}
use Rattle.std.specs.List.{All}
use Rattle.id_table.specs.Rows.{object_of, ids}
use Rattle.wind_base.specs.declared.errno.Errno.TheVariants as errors
use Rattle.task_block.specs.declared.task.Task.{Task as TaskRecord}
use Rattle.board_mem.specs.Memory.{has, with_word, string_at}
use Rattle.board_mem.proofs.Sizes.{length-with_number}
use Rattle.wind_core.specs.State.{Lives}
use Rattle.wind_core.specs.Moves.{live_id}
use Rattle.call_rows.specs.KernelWorldState.{WorldState}
use Rattle.call_rows.specs.KernelWorldObjects.{KeepsObjects, DepthsWithin}
use Rattle.call_rows.specs.KernelWorldActors.{Acts, MayCall, caller_words, target}
use Rattle.call_rows.specs.TaskRows.{KernRow, ram_row, task_at, priority_in}
use Rattle.call_rows.specs.SafetyRows.{delete_row}
use Rattle.call_rows.specs.SemRows.{ObjectRow, is_mutex}
use Rattle.call_rows.specs.QueueRows.{QueueRow, sending}
use Rattle.call_rows.specs.WatchRows.{WatchRow, routine_of}
use Rattle.call_rows.specs.IrqRows.{IrqRow}
use Rattle.kernel_calls.specs.ShowRows.{ShowRow}
use Rattle.call_rows.specs.Spawning.{spawned_if, task_wanted, quick_wanted, quick_text, after_spawn, spawn_state}
use Rattle.call_rows.specs.Unless.{unless}
use Rattle.kernel_calls.specs.Calls.{with_reply, of_kern, of_objects, scene_of, of_queues, of_watch, of_irqs, of_text, of_deletion, of_ram, row_of, refusal_before, declined, made, call}
use Rattle.call_rows.specs.KernelWorldCallWords.{ten_arguments, quick_arguments, call_of}
use Rattle.call_rows.specs.KernelWorldReplies.{left_gate}
use Rattle.call_rows.specs.KernelWorldKept.{IsWorld, Within, call_sinces}
use Rattle.kernel_calls.specs.Laws.{CallLaw}
use Rattle.call_rows.specs.KernelWorldActor.{Actor}
use Rattle.call_rows.specs.KernelWorldActor.TheVariants.{Task, Interrupt}
use Rattle.call_rows.specs.KernelWorldReply.{Reply}
use Rattle.call_rows.specs.KernelWorldReply.TheVariants.{Answer, Refusal, Later}
use Rattle.call_rows.proofs.KernelWorldGoes.{Goes}
use Rattle.call_rows.proofs.TaskMoves.{suspend_goes, resume_goes, delay_goes, lock_goes, unlock_goes, self_goes, verify_goes, name_goes, slice_goes, int_lock_goes, int_unlock_goes, int_context_goes, safe_goes, unsafe_goes}
use Rattle.call_rows.proofs.KernelWorldReplying.{safe_left, may_left, left_advances, replied_advances}
use Rattle.call_rows.proofs.KernRows.{objects-suspend_row, objects-resume_row, objects-delay_row, objects-lock_row, objects-unlock_row, objects-self_row, objects-verify_row, objects-name_row, objects-slice_row, objects-int_lock_row, objects-int_unlock_row, objects-int_context_row}
use Rattle.call_rows.proofs.KernelWorldAdvancing.{Advances, as_call, advances_on, advances_more, beside, of_devices, nowhere, of_tasks, of_both, of_scene, of_list, of_memory, errno_advances}
use Rattle.call_rows.proofs.RowMoves.{align_advances, free_advances, symbol_few, spawn_advances}
use Rattle.call_rows.proofs.QueueKept.{keeps-create_row, keeps-send_row, keeps-receive_row, keeps-delete_row as keeps-queue_delete_row}
use Rattle.call_rows.proofs.QueueCalls.{is_caller}
use Rattle.call_rows.proofs.QueueGoes.{IsNear, near_itself, create_near, send_near, receive_row_near, delete_near}
use Rattle.call_rows.proofs.WatchGoes.{create_advances, start_advances, cancel_advances, delete_advances}
use Rattle.kernel_calls.proofs.Unloading.{unload_advances}
use Rattle.kernel_calls.proofs.Serves.{Serves, served, acts_on, passes_after, passes_before}
use Rattle.call_rows.proofs.Callers.{mutex_callers, queue_callers}
use Rattle.kernel_calls.proofs.Deletions.{delete_serves}
use Rattle.call_rows.proofs.Deleting.{objects-safe_row, objects-unsafe_row}
use Rattle.call_rows.proofs.ObjectRows.{keeps-binary_row, keeps-counting_row, keeps-mutex_row, keeps-take_row, keeps-give_row, keeps-flush_row, keeps-delete_row, keeps-priority_row}
use Rattle.call_rows.proofs.SemGoes.{binary_goes, counting_goes, mutex_goes, take_goes, give_goes, flush_goes, delete_goes, priority_goes}
use Rattle.call_rows.specs.KernelWorldLiveIds.{object_ids}
use Rattle.call_rows.proofs.KernelWorldLiveIds.{Owns, Given, Nothing, given_none}
use Rattle.call_rows.proofs.KernelWorldWorldIds.{tasks_own, ids_objects}
use Rattle.call_rows.proofs.RowIds.{NoneComes, Comes, binary_comes, counting_comes, mutex_comes, take_stays, give_stays, flush_stays, delete_stays, priority_stays, send_stays, receive_row_stays, queue_delete_stays, queue_create_comes, queues_given, owners_may}
use Rattle.call_rows.proofs.EachMutex.{MayChange, each-binary, each-counting, each-mutex, each-take, each-give, each-flush, each-delete, each-priority}
use Rattle.call_rows.proofs.Depths.{depths_may}

-- a deletion by any caller
delete_row_serves : (w : WorldState) (kept : IsWorld w) (n : ℕ) (within : Within n w) (a : Actor) (id : ℕ) → MayCall w.kern a → Serves w a (of_deletion w (delete_row w.board w.kern w.part a id)) (n + 1)
delete_row_serves w kept n within (Task who) id may = delete_serves w kept n within who id may
delete_row_serves w kept n within Interrupt id may = served w Interrupt (of_deletion w (delete_row w.board w.kern w.part Interrupt id)) (n + 1) (nowhere w kept n within)

-- a priority that is reported
module _ (w : WorldState) (kept : IsWorld w) (n : ℕ) (within : Within n w) where
  priority_advances : (at : ℕ) (o : Option TaskRecord) → Advances w (of_ram w (priority_in w.ram at o)).world (n + 1) call_sinces 1
  priority_advances at None = nowhere w kept n within
  priority_advances at (Some t) = go (has w.ram at 4) refl where
    go : (b : Bool) → has w.ram at 4 ≡ b
        → Advances w (of_ram w (cond b (ram_row (with_word w.ram at t.pri) (Answer 0)) (ram_row w.ram (Refusal errors.BadAddress)))).world (n + 1) call_sinces 1
    go true e = of_memory w kept n within (with_word w.ram at t.pri) (length-with_number 4 w.ram at t.pri e)
    go false e = nowhere w kept n within

-- ---- the row of the call at each gate
module _ (w : WorldState) (kept : IsWorld w) (n : ℕ) (within : Within n w) (a : Actor) where
  -- nothing is done, whatever is answered
  idle : (reply : Reply) → Serves w a (with_reply w reply) (n + 1)
  idle reply = served w a (with_reply w reply) (n + 1) (nowhere w kept n within)

  of_kern_row : (r : KernRow) → Goes w.kern r.kern (n + 1) call_sinces → KeepsObjects w.board r.kern w.objects → Serves w a (of_kern w r) (n + 1)
  of_kern_row r g objects = served w a (of_kern w r) (n + 1) (of_tasks w kept n within r.kern g objects)

  -- an owner of a mutex: nobody, or a task whose id no object has
  abbrev MayOwn : Option ℕ → Type 0
  MayOwn = Owns w.kern.next_id (object_ids w)

  tasks_may : All (λ t. MayOwn (Some t.id)) w.kern.tasks
  tasks_may = tasks_own w kept.ids

  own : MayChange w.kern w.objects (Lives w.kern) (λ v. MayOwn v.owner)
  own = owners_may w.kern w.objects kept.kern MayOwn tt tasks_may kept.ids.owners

  deep : MayChange w.kern w.objects (λ who. Unit {0}) (λ v. v.depth ≤ n + 1)
  deep = depths_may w.kern w.objects n within.1

  -- at most one object is added, with the next id
  of_object_row : (r : ObjectRow) → Goes w.kern r.kern (n + 1) call_sinces → KeepsObjects w.board r.kern r.objects → DepthsWithin (n + 1) r.objects → Comes w.kern w.objects r
      → All (λ m. MayOwn m.1.owner) r.objects.mutexes.rows → Serves w a (of_objects w r) (n + 1)
  of_object_row r g objects depths comes owners =
      served w a (of_objects w r) (n + 1) (of_both w kept n within r.kern r.objects g objects depths (ids_objects w kept.ids r.kern r.objects g.alone comes.0 owners) comes.1)

  -- no object is added
  of_still_row : (r : ObjectRow) → Goes w.kern r.kern (n + 1) call_sinces → KeepsObjects w.board r.kern r.objects → DepthsWithin (n + 1) r.objects → NoneComes w.objects r.objects
      → All (λ m. MayOwn m.1.owner) r.objects.mutexes.rows → Serves w a (of_objects w r) (n + 1)
  of_still_row r g objects depths stays owners = of_object_row r g objects depths (Nothing g.next stays.0, stays.1) owners

  of_queue_row : (r : QueueRow) → IsNear (scene_of w) n kept.kern within.0 r.scene → KeepsObjects w.board r.scene.kern (record w.objects { queues = r.scene.queues })
      → Given w.kern.next_id r.scene.kern.next_id (ids w.objects.queues.queues) (ids r.scene.queues.queues) → Serves w a (of_queues w r) (n + 1)
  of_queue_row r near objects given =
      served w a (of_queues w r) (n + 1) (of_scene w kept n within r.scene near.0 near.1 objects
      (ids_objects w kept.ids r.scene.kern (record w.objects { queues = r.scene.queues }) near.0.alone
      (queues_given w.objects r.scene.queues w.kern.next_id r.scene.kern.next_id given) kept.ids.owners))

  of_watch_row : (r : WatchRow) → Advances w (of_watch w r).world n 0 1 → Serves w a (of_watch w r) (n + 1)
  of_watch_row r g = served w a (of_watch w r) (n + 1) (advances_more w (of_watch w r).world n (n + 1) 0 call_sinces 1 1 (omega arith) (omega arith) (omega arith) g)

  of_irq_row : (r : IrqRow) → Serves w a (of_irqs w r) (n + 1)
  of_irq_row r = served w a (of_irqs w r) (n + 1) (as_call w kept n within _ (of_devices w kept n within r.irqs r.slots))

  -- the invariant doesn't mention what is written
  writing : (v : WorldState) (text : List ℕ) → Advances w v (n + 1) call_sinces 1 → Advances w (record v { output = text }) (n + 1) call_sinces 1
  writing v text g =
      let more = beside v g.kept (n + 1) g.within v.slots text v.int_errno in
      advances_more w (record v { output = text }) (n + 1) (n + 1) (call_sinces + 0) call_sinces (1 + 0) 1 (omega arith) (omega arith) (omega arith)
      (advances_on w v (record v { output = text }) (n + 1) (n + 1) call_sinces 0 1 0 g more)

  of_text_row : (r : ShowRow) → Serves w a (of_text w r) (n + 1)
  of_text_row r = served w a (of_text w r) (n + 1) (writing w (w.output ++ r.text) (nowhere w kept n within))

  -- a caller that takes or gives a mutex, or calls on a queue, lives
  pub row_serves : (g : Gate) (ram r : List ℕ) → (is_mutex w.objects (slice_index r 3) ≡ true → Acts w.kern a) → (is_some (object_of w.objects.queues.queues (slice_index r 3)) ≡ true → Acts w.kern a) → MayCall w.kern a → Serves w a (row_of (call_of g ram r) w a) (n + 1)
  row_serves gates.TaskSpawn ram r live there may = served w a _ (n + 1) (spawn_advances w kept n within (task_wanted w.ram (slice_index r 3) (slice_index r 4) (slice_index r 6) (slice_index r 7) (ten_arguments ram r)))
  row_serves gates.Sp ram r live there may =
      let s = spawned_if (spawn_state w) (quick_wanted (slice_index r 3) (quick_arguments ram r)) in
      served w a _ (n + 1) (writing (after_spawn w s.after) (w.output ++ quick_text w.names s.reply) (spawn_advances w kept n within (quick_wanted (slice_index r 3) (quick_arguments ram r))))
  row_serves gates.TaskDelete ram r live there may = delete_row_serves w kept n within a (slice_index r 3) may
  row_serves gates.TaskSuspend ram r live there may = of_kern_row _ (suspend_goes w.kern n kept.kern within.0 (target w.kern a (slice_index r 3))) (objects-suspend_row w.kern w.objects kept.kern kept.objects (target w.kern a (slice_index r 3)))
  row_serves gates.TaskResume ram r live there may = of_kern_row _ (resume_goes w.kern n kept.kern within.0 (target w.kern a (slice_index r 3))) (objects-resume_row w.kern w.objects kept.kern kept.objects (target w.kern a (slice_index r 3)))
  row_serves gates.TaskDelay ram r live there may = of_kern_row _ (delay_goes w.kern n kept.kern within.0 a (slice_index r 3)) (objects-delay_row w.kern w.objects kept.kern kept.objects a (slice_index r 3))
  row_serves gates.TaskLock ram r live there may = of_kern_row _ (lock_goes w.kern n kept.kern within.0 a) (objects-lock_row w.kern w.objects kept.kern kept.objects a)
  row_serves gates.TaskUnlock ram r live there may = of_kern_row _ (unlock_goes w.kern n kept.kern within.0 a) (objects-unlock_row w.kern w.objects kept.kern kept.objects a)
  row_serves gates.TaskSafe ram r live there may = of_kern_row _ (safe_goes w.kern n kept.kern within.0 a) (objects-safe_row w.kern w.objects kept.kern kept.objects a)
  row_serves gates.TaskUnsafe ram r live there may = of_kern_row _ (unsafe_goes w.kern n kept.kern within.0 a) (objects-unsafe_row w.kern w.objects kept.kern kept.objects a)
  row_serves gates.TaskIdSelf ram r live there may = of_kern_row _ (self_goes w.kern n kept.kern within.0 a) (objects-self_row w.kern w.objects kept.kern kept.objects a)
  row_serves gates.TaskIdVerify ram r live there may = of_kern_row _ (verify_goes w.kern n kept.kern within.0 (live_id w.kern.tasks (slice_index r 3))) (objects-verify_row w.kern w.objects kept.kern kept.objects (live_id w.kern.tasks (slice_index r 3)))
  row_serves gates.TaskNameToId ram r live there may = of_kern_row _ (name_goes w.kern n kept.kern within.0 (string_at w.ram (slice_index r 3))) (objects-name_row w.kern w.objects kept.kern kept.objects (string_at w.ram (slice_index r 3)))
  row_serves gates.KernelTimeSlice ram r live there may = of_kern_row _ (slice_goes w.kern n kept.kern within.0 (slice_index r 3)) (objects-slice_row w.kern w.objects kept.kern kept.objects (slice_index r 3))
  row_serves gates.TaskPriorityGet ram r live there may = served w a _ (n + 1) (priority_advances w kept n within (slice_index r 4) (task_at w.kern (target w.kern a (slice_index r 3))))
  row_serves gates.TickGet ram r live there may = idle _
  row_serves gates.TaskPrioritySet ram r live there may = of_still_row _ (priority_goes w.kern w.objects n kept.kern within.0 (slice_index r 4) (target w.kern a (slice_index r 3))) (keeps-priority_row w.kern w.objects kept.kern kept.objects (slice_index r 4) (target w.kern a (slice_index r 3))) (each-priority w.kern w.objects _ _ deep (slice_index r 4) (target w.kern a (slice_index r 3)))
      (priority_stays w.kern w.objects (slice_index r 4) (target w.kern a (slice_index r 3))) (each-priority w.kern w.objects _ _ own (slice_index r 4) (target w.kern a (slice_index r 3)))
  row_serves gates.SemBCreate ram r live there may = of_object_row _ (binary_goes w.kern w.objects n kept.kern within.0 (slice_index r 3) (slice_index r 4)) (keeps-binary_row w.kern w.objects kept.kern kept.objects (slice_index r 3) (slice_index r 4)) (each-binary w.kern w.objects _ _ deep (slice_index r 3) (slice_index r 4))
      (binary_comes w.kern w.objects (slice_index r 3) (slice_index r 4)) (each-binary w.kern w.objects _ _ own (slice_index r 3) (slice_index r 4))
  row_serves gates.SemCCreate ram r live there may = of_object_row _ (counting_goes w.kern w.objects n kept.kern within.0 (slice_index r 3) (slice_index r 4)) (keeps-counting_row w.kern w.objects kept.kern kept.objects (slice_index r 3) (slice_index r 4)) (each-counting w.kern w.objects _ _ deep (slice_index r 3) (slice_index r 4))
      (counting_comes w.kern w.objects (slice_index r 3) (slice_index r 4)) (each-counting w.kern w.objects _ _ own (slice_index r 3) (slice_index r 4))
  row_serves gates.SemMCreate ram r live there may = of_object_row _ (mutex_goes w.kern w.objects n kept.kern within.0 (slice_index r 3)) (keeps-mutex_row w.kern w.objects kept.kern kept.objects (slice_index r 3)) (each-mutex w.kern w.objects _ _ deep (slice_index r 3))
      (mutex_comes w.kern w.objects (slice_index r 3)) (each-mutex w.kern w.objects _ _ own (slice_index r 3))
  row_serves gates.SemTake ram r live there may = of_still_row _ (take_goes w.kern w.objects n kept.kern within.0 a (slice_index r 3) (slice_index r 4)) (keeps-take_row w.kern w.objects kept.kern kept.objects a (slice_index r 3) (slice_index r 4) live) (each-take w.kern w.objects _ _ deep a (slice_index r 3) (slice_index r 4) (λ who same held. tt))
      (take_stays w.kern w.objects a (slice_index r 3) (slice_index r 4)) (each-take w.kern w.objects _ _ own a (slice_index r 3) (slice_index r 4) (λ who same held. subst (Acts w.kern) same (live held)))
  row_serves gates.SemGive ram r live there may = of_still_row _ (give_goes w.kern w.objects n kept.kern within.0 a (slice_index r 3)) (keeps-give_row w.kern w.objects kept.kern kept.objects a (slice_index r 3) live) (each-give w.kern w.objects _ _ deep a (slice_index r 3))
      (give_stays w.kern w.objects a (slice_index r 3)) (each-give w.kern w.objects _ _ own a (slice_index r 3))
  row_serves gates.SemFlush ram r live there may = of_still_row _ (flush_goes w.kern w.objects n kept.kern within.0 (slice_index r 3)) (keeps-flush_row w.kern w.objects kept.kern kept.objects (slice_index r 3)) (each-flush w.kern w.objects _ _ deep (slice_index r 3))
      (flush_stays w.kern w.objects (slice_index r 3)) (each-flush w.kern w.objects _ _ own (slice_index r 3))
  row_serves gates.SemDelete ram r live there may = of_still_row _ (delete_goes w.kern w.objects n kept.kern within.0 (slice_index r 3)) (keeps-delete_row w.kern w.objects kept.kern kept.objects (slice_index r 3)) (each-delete w.kern w.objects _ _ deep (slice_index r 3))
      (delete_stays w.kern w.objects (slice_index r 3)) (each-delete w.kern w.objects _ _ own (slice_index r 3))
  row_serves gates.MsgQCreate ram r live there may =
      of_queue_row _ (create_near (scene_of w) n kept.kern within.0 (slice_index r 3) (slice_index r 4) (slice_index r 5))
      (keeps-create_row w.kern w.objects w.ram kept.kern kept.objects kept.ram (slice_index r 3) (slice_index r 4) (slice_index r 5))
      (queue_create_comes (scene_of w) (slice_index r 3) (slice_index r 4) (slice_index r 5))
  row_serves gates.MsgQSend ram r live there may =
      let near = send_near (scene_of w) n kept.kern within.0 (kept.objects.queues w.ram kept.ram) (slice_index r 3) (sending a (slice_index r 4) (slice_index r 5) (slice_index r 6) (slice_index r 7)) in
      of_queue_row _ near
      (keeps-send_row w.kern w.objects w.ram kept.kern kept.objects kept.ram a (slice_index r 3) (slice_index r 4) (slice_index r 5) (slice_index r 6) (slice_index r 7) (λ h. is_caller w.kern a (there h) may) (near.1 ∙ kept.ram))
      (Nothing near.0.next (send_stays (scene_of w) (slice_index r 3) (sending a (slice_index r 4) (slice_index r 5) (slice_index r 6) (slice_index r 7))))
  row_serves gates.MsgQReceive ram r live there may =
      let near = receive_row_near (scene_of w) n kept.kern within.0 (kept.objects.queues w.ram kept.ram) a (slice_index r 3) (slice_index r 4) (slice_index r 5) (slice_index r 6) in
      of_queue_row _ near
      (keeps-receive_row w.kern w.objects w.ram kept.kern kept.objects kept.ram a (slice_index r 3) (slice_index r 4) (slice_index r 5) (slice_index r 6) (λ h. is_caller w.kern a (there h) may) (near.1 ∙ kept.ram))
      (Nothing near.0.next (receive_row_stays (scene_of w) a (slice_index r 3) (slice_index r 4) (slice_index r 5) (slice_index r 6)))
  row_serves gates.MsgQDelete ram r live there may =
      let near = delete_near (scene_of w) n kept.kern within.0 (slice_index r 3) in
      of_queue_row _ near (keeps-queue_delete_row w.kern w.objects w.ram kept.kern kept.objects kept.ram (slice_index r 3))
      (Nothing near.0.next (queue_delete_stays (scene_of w) (slice_index r 3)))
  row_serves gates.MsgQNumMsgs ram r live there may = of_queue_row _ (near_itself (scene_of w) n kept.kern within.0) kept.objects
      (given_none w.kern.next_id w.kern.next_id (ids w.objects.queues.queues) (omega arith))
  row_serves gates.WdCreate ram r live there may = of_watch_row _ (create_advances w kept n within)
  row_serves gates.WdStart ram r live there may = of_watch_row _ (start_advances w kept n within (slice_index r 3) (slice_index r 4) (routine_of (slice_index r 5) (slice_index r 6)))
  row_serves gates.WdCancel ram r live there may = of_watch_row _ (cancel_advances w kept n within (slice_index r 3))
  row_serves gates.WdDelete ram r live there may = of_watch_row _ (delete_advances w kept n within (slice_index r 3))
  row_serves gates.IntLock ram r live there may = of_kern_row _ (int_lock_goes w.kern n kept.kern within.0 a) (objects-int_lock_row w.kern w.objects kept.kern kept.objects a)
  row_serves gates.IntUnlock ram r live there may = of_kern_row _ (int_unlock_goes w.kern n kept.kern within.0 a (slice_index r 3)) (objects-int_unlock_row w.kern w.objects kept.kern kept.objects a (slice_index r 3))
  row_serves gates.IntContext ram r live there may = of_kern_row _ (int_context_goes w.kern n kept.kern within.0 a) (objects-int_context_row w.kern w.objects kept.kern kept.objects a)
  row_serves gates.Malloc ram r live there may = served w a _ (n + 1) (align_advances w kept n within 16 (slice_index r 3))
  row_serves gates.Free ram r live there may = served w a _ (n + 1) (free_advances w kept n within (slice_index r 3))
  row_serves gates.Memalign ram r live there may = served w a _ (n + 1) (align_advances w kept n within (slice_index r 3) (slice_index r 4))
  row_serves gates.SymAdd ram r live there may = served w a _ (n + 1) (of_list w kept n within _ (symbol_few w kept n within (slice_index r 3) (slice_index r 4) (slice_index r 5) (slice_index r 6)))
  row_serves gates.Printf ram r live there may = of_text_row _
  row_serves gates.ErrnoGet ram r live there may = idle _
  row_serves gates.ErrnoSet ram r live there may =
      served w a _ (n + 1) (as_call w kept n within _ (errno_advances w kept n within a (slice_index r 3)))
  row_serves gates.I ram r live there may = of_text_row _
  row_serves gates.Ld ram r live there may = idle _
  row_serves gates.Unld ram r live there may = served w a _ (n + 1) (unload_advances w kept n within (slice_index r 3))
  row_serves gates.Lkup ram r live there may = of_text_row _
  row_serves gates.ModuleShow ram r live there may = of_text_row _
  row_serves gates.D ram r live there may = of_text_row _
  row_serves gates.IntConnect ram r live there may = of_irq_row _
  row_serves gates.IntDisconnect ram r live there may = of_irq_row _
  row_serves gates.IntEnable ram r live there may = of_irq_row _
  row_serves gates.IntDisable ram r live there may = of_irq_row _
  row_serves gates.IntPending ram r live there may = of_irq_row _
  row_serves gates.DevRemove ram r live there may = of_irq_row _
  row_serves g ram r live there may = idle Later

unless_row : (w : WorldState) (kept : IsWorld w) (n : ℕ) (within : Within n w) (o : Option Errno) (g : Gate) (a : Actor) (ram r : List ℕ) → (is_mutex w.objects (slice_index r 3) ≡ true → Acts w.kern a)
    → (is_some (object_of w.objects.queues.queues (slice_index r 3)) ≡ true → Acts w.kern a) → MayCall w.kern a → Serves w a (unless o (declined w) (row_of (call_of g ram r) w a)) (n + 1)
unless_row w kept n within (Some e) g a ram r live there may = idle w kept n within a (Refusal e)
unless_row w kept n within None g a ram r live there may = row_serves w kept n within a g ram r live there may

pub made_serves : (g : Gate) (w : WorldState) (a : Actor) (n : ℕ) → IsWorld w → MayCall w.kern a → Within n w → Serves w a (made g w a) (n + 1)
made_serves g w a n kept may within =
    let left = left_advances w kept n within a may in
    let v = left_gate w a in
    let live : is_mutex v.objects (slice_index (caller_words w a) 3) ≡ true → Acts v.kern a = λ h. acts_on w v a n 0 0 left (mutex_callers w a kept.kern kept.objects h) in
    let there : is_some (object_of v.objects.queues.queues (slice_index (caller_words w a) 3)) ≡ true → Acts v.kern a = λ h. acts_on w v a n 0 0 left (queue_callers w a kept.objects h) in
    let rowed = unless_row v left.kept n left.within (refusal_before g a) g a w.ram (caller_words w a) live there (may_left w a may) in
    record {
      passes = passes_after w v (made g w a).world a n (n + 1) call_sinces 1 left (safe_left w a) rowed.passes;
      acts = λ stays lives. rowed.acts stays (acts_on w v a n 0 0 left lives);
    }

pub call_passes : CallLaw
call_passes g w a n kept may within =
    let m = (made_serves g w a n kept may within).passes in
    let r = made g w a in
    passes_before w r.world (call g w a) a (n + 1) (n + 1) call_sinces 1 m (replied_advances r.world m.kept (n + 1) m.within g a r.reply)
