-- The results of the rows of some calls.
use Rattle.std.proofs.Common.{◌≡◌, List, ℕ, Option, None, Some, Result, Ok, Err, refl, sym, ap, ◌∙◌}
use Rattle.std.specs.Prelude.{IfOk}
use Rattle.wind_base.specs.declared.NoMemory.{NoMemory}
use Rattle.task_block.specs.declared.task.Task.{Task as TaskRecord}
use Rattle.board_mem.specs.Memory.{string_at}
use Rattle.wind_core.specs.State.{KernState, task_named}
use Rattle.msg_queue.specs.State.{scene}
use Rattle.isr_watch.specs.State.{WatchState}
use Rattle.call_rows.specs.KernelWorldState.{WorldState}
use Rattle.call_rows.specs.QueueRows.{QueueRow, row_of as queue_row, create_row}
use Rattle.call_rows.specs.WatchRows.{WatchRow, row_of as watch_row}
use Rattle.kernel_calls.specs.Calls.{with_reply, of_kern, of_queues, of_watch, row}
use Rattle.call_rows.specs.TaskRows.{name_row, found_row}
use Rattle.call_rows.specs.KernelWorldObjectsType.{Objects}
use Rattle.call_rows.specs.KernelWorldActor.{Actor}
use Rattle.call_rows.specs.KernelWorldCall.{Call}
use Rattle.call_rows.specs.KernelWorldCall.TheVariants as calls
use Rattle.call_rows.specs.KernelWorldReply.{Reply}

-- msgQCreate: the kernel's objects stay, except for the queues
pub created : (c : Call) (w : WorldState) (a : Actor) (k : KernState) (o : Objects) (max_msgs max_len options : ℕ) (result : Result Reply NoMemory) → c ≡ calls.MsgQCreate max_msgs max_len options
    → IfOk result (λ r. (ram : List ℕ) → queue_row (scene k o.queues ram) r ≡ create_row (scene w.kern w.objects.queues ram) max_msgs max_len options)
    → o ≡ record w.objects { queues = o.queues } → IfOk result (λ r. with_reply (record w { kern = k; objects = o }) r ≡ row c w a)
created c w a k o max_msgs max_len options (Ok reply) is made rest =
    ap (λ (p : Objects). with_reply (record w { kern = k; objects = p }) reply) rest
    ∙ ap (λ (x : QueueRow). of_queues w x) (made w.ram)
    ∙ ap (λ d. row d w a) (sym is)
created c w a k o max_msgs max_len options (Err e) is made rest = tt

-- ---- taskNameToId: it changes nothing
pub named : (c : Call) (w : WorldState) (a : Actor) (name : ℕ) (reply : Reply) → c ≡ calls.TaskNameToId name → reply ≡ (name_row w.kern (string_at w.ram name)).reply → with_reply w reply ≡ row c w a
named c w a name reply is same = ap (λ t. with_reply w t) same ∙ still (string_at w.ram name) ∙ ap (λ d. row d w a) (sym is)
  where
    still : (o : Option (List ℕ)) → with_reply w (name_row w.kern o).reply ≡ of_kern w (name_row w.kern o)
    still None = refl
    still (Some text) =
        elim (task_named w.kern.tasks text) as (λ (o : Option TaskRecord). with_reply w (found_row w.kern o).reply ≡ of_kern w (found_row w.kern o)) [ None ↦ refl | Some t ↦ refl ]

-- ---- wdCancel and wdDelete: only the watchdogs change
pub watched : (c d : Call) (w : WorldState) (a : Actor) (s : WatchState) (reply : Reply) (x : WatchRow) → c ≡ d → watch_row w.kern s reply ≡ x → of_watch w x ≡ row d w a
    → with_reply (record w { watch = s }) reply ≡ row c w a
watched c d w a s reply x is same makes = ap (λ (y : WatchRow). of_watch w y) same ∙ makes ∙ ap (λ e. row e w a) (sym is)
