-- Which ids the objects have after each row of the calls on them, and who owns the mutexes.
use Rattle.std.proofs.Common.{◌≡◌, ℕ, ◌+◌, ◌-◌, List, [], ◌∷◌, ◌++◌, length, Option, None, Some, IsSome, refl, sym, ap, ◌∙◌, subst, arith}
use Rattle.std.specs.List.{All}
use Rattle.std.specs.Option.{option_map}
use Rattle.std.proofs.lemmas.List.Elements.{All-contains}
use Rattle.wind_base.specs.declared.errno.Errno.{Errno}
use Rattle.wind_base.specs.declared.semaphore.SemKind.TheVariants as kinds
use Rattle.id_table.specs.Rows.{object_of, with_object, without, ids}
use Rattle.id_table.proofs.Lookups.{found_has}
use Rattle.task_block.specs.declared.task.Task.{Task as TaskRecord}
use Rattle.id_table.proofs.Records.{found_id, found_at}
use Rattle.wind_core.specs.State.{KernState, IsKern, Lives, task_id, task_of}
use Rattle.wind_core.specs.Orders.{first_waiter}
use Rattle.kernel_world.specs.SemPlainSemaphore.{Semaphore}
use Rattle.kernel_world.specs.SemPlainCalls as plain
use Rattle.kernel_world.specs.InheritanceMutex.{Mutex}
use Rattle.kernel_world.specs.InheritanceMutexes.{LiveMutexes, mutex_place}
use Rattle.kernel_world.specs.SemMutexCalls as mutex
use Rattle.kernel_world.specs.SemMutexMaking as making
use Rattle.kernel_world.proofs.SemMutexAnswering.{next_lives}
use Rattle.msg_queue.specs.declared.words.Sending.{Sending}
use Rattle.msg_queue.specs.declared.words.Receiving.{Receiving}
use Rattle.msg_queue.specs.declared.asks.Ask.{Ask}
use Rattle.msg_queue.specs.State.{QueueState, QueuesState, Scene, queue_of, added, senders, first_asking}
use Rattle.msg_queue.specs.Sends.{SendDeed, declined, passed_on, queued, blocked, sent_bytes, send_deed, after_send, send}
use Rattle.msg_queue.specs.Receives.{ReceiveDeed, denied, taken, starved, receive_deed, taken_out, waited_bytes, refilled, after_receive}
use Rattle.msg_queue.specs.Comings.{create_refusal, new_queue, created, deleted, delete}
use Rattle.kernel_world.specs.LiveIds.{waited_ids}
use Rattle.kernel_world.specs.declared.objects.Objects.{Objects}
use Rattle.kernel_world.specs.declared.actor.Actor.{Actor}
use Rattle.kernel_world.specs.declared.actor.Actor.TheVariants.{Task, Interrupt}
use Rattle.kernel_world.proofs.LiveIds.{Fewer, Given, fewer_same, fewer_before, fewer_after, fewer_without, ids_write, given_before, given_after, given_none, given_push}
use Rattle.kernel_world.specs.declared.reply.Reply.TheVariants.{Answer, Refusal}
use Rattle.call_rows.specs.Unless.{unless}
use Rattle.call_rows.specs.SemRows.{ObjectRow, refused, live_in, sems, mutexes, made, binary_row, counting_row, mutex_row, take_row, give_row, flush_row, delete_row, priority_row}
use Rattle.call_rows.proofs.RowWalks.{on_made, on_binary, on_counting, on_mutex, on_plain_take, on_mutex_take, on_take, on_plain_give, on_mutex_give, on_give, on_flush, on_delete, on_priority}
use Rattle.call_rows.proofs.EachMutex.{MayChange}
use Rattle.call_rows.specs.QueueRows as queue_rows

-- ---- one kind of the objects
module _ (o : Objects) where
  -- these objects have only ids that were there before, under the same rule of inheritance
  abbrev pub NoneComes : Objects → Type 0
  NoneComes p = Fewer (waited_ids p) (waited_ids o) × (p.mutexes.profile ≡ o.mutexes.profile)

  pub none_comes : NoneComes o
  none_comes = (fewer_same (waited_ids o) (waited_ids o) refl, refl)

  by_semaphores : (ss : List (ℕ × Semaphore)) → Fewer (ids ss) (ids o.semaphores) → NoneComes (record o { semaphores = ss })
  by_semaphores ss few = (fewer_after (ids o.mutexes.rows ++ ids o.queues.queues) (ids o.semaphores) (ids ss) few, refl)

  by_mutex_rows : (live : LiveMutexes) → Fewer (ids live.rows) (ids o.mutexes.rows) → live.profile ≡ o.mutexes.profile → NoneComes (record o { mutexes = live })
  by_mutex_rows live few rule = (
    fewer_before (ids o.semaphores) (ids o.mutexes.rows ++ ids o.queues.queues) (ids live.rows ++ ids o.queues.queues) (fewer_after (ids o.queues.queues) (ids o.mutexes.rows) (ids live.rows) few),
    rule,
  )

  by_queues : (qs : QueuesState) → Fewer (ids qs.queues) (ids o.queues.queues) → NoneComes (record o { queues = qs })
  by_queues qs few = (
    fewer_before (ids o.semaphores) (ids o.mutexes.rows ++ ids o.queues.queues) (ids o.mutexes.rows ++ ids qs.queues) (fewer_before (ids o.mutexes.rows) (ids o.queues.queues) (ids qs.queues) few),
    refl,
  )

  semaphore_written : (id : ℕ) (v : Semaphore) → NoneComes (record o { semaphores = with_object o.semaphores id v })
  semaphore_written id v = by_semaphores (with_object o.semaphores id v) (fewer_same (ids o.semaphores) (ids (with_object o.semaphores id v)) (ids_write o.semaphores id v))

  mutex_written : (id : ℕ) (v : Mutex) → NoneComes (record o { mutexes = record o.mutexes { rows = with_object o.mutexes.rows id v } })
  mutex_written id v = by_mutex_rows (record o.mutexes { rows = with_object o.mutexes.rows id v }) (fewer_same (ids o.mutexes.rows) (ids (with_object o.mutexes.rows id v)) (ids_write o.mutexes.rows id v)) refl

-- ---- the ids after a row of semaphores and mutexes
module _ (k : KernState) (o : Objects) where
  -- at most the next id is added, under the same rule of inheritance
  abbrev pub Comes : ObjectRow → Type 0
  Comes r = Given k.next_id r.kern.next_id (waited_ids o) (waited_ids r.objects) × (r.objects.mutexes.profile ≡ o.mutexes.profile)

  still : (e : Errno) → Comes (refused k o e)
  still e = (given_none k.next_id k.next_id (waited_ids o) (omega arith), refl)

  made_comes : (v : Semaphore) → Comes (made k o v)
  made_comes v = on_made k o Comes still v (λ fine.
      (given_after k.next_id (k.next_id + 1) (ids o.mutexes.rows ++ ids o.queues.queues) (ids o.semaphores) (ids (o.semaphores ++ (k.next_id, v) ∷ [])) (given_push o.semaphores k.next_id v), refl))

  pub binary_comes : (options state : ℕ) → Comes (binary_row k o options state)
  binary_comes options state = on_binary k o Comes still options state (λ v low. made_comes (plain.new_semaphore kinds.Binary v state))

  pub counting_comes : (options count : ℕ) → Comes (counting_row k o options count)
  counting_comes options count = on_counting k o Comes still options count (λ v. made_comes (plain.new_semaphore kinds.Counting v count))

  pub mutex_comes : (options : ℕ) → Comes (mutex_row k o options)
  mutex_comes options = on_mutex k o Comes still options (λ v fine.
      let new : List (ℕ × Mutex) = o.mutexes.rows ++ (k.next_id, making.new_mutex v) ∷ [] in (
        given_before k.next_id (k.next_id + 1) (ids o.semaphores) (ids o.mutexes.rows ++ ids o.queues.queues) (ids new ++ ids o.queues.queues)
            (given_after k.next_id (k.next_id + 1) (ids o.queues.queues) (ids o.mutexes.rows) (ids new) (given_push o.mutexes.rows k.next_id (making.new_mutex v))),
        refl,
      ))

  -- ---- no other row adds one
  abbrev Stays : ObjectRow → Type 0
  Stays r = NoneComes o r.objects

  none : (e : Errno) → Stays (refused k o e)
  none e = none_comes o

  -- ---- semTake
  plain_taken : (who id m : ℕ) (d : plain.TakeDeed) → NoneComes o (record o { semaphores = (plain.after_take (sems k o) who id m d).semaphores })
  plain_taken who id m (plain.declined e) = none_comes o
  plain_taken who id m (plain.taken v) = semaphore_written o id (plain.counted_down v)
  plain_taken who id m (plain.starved v) = none_comes o

  mutex_taken : (who id m : ℕ) (d : mutex.TakeDeed) → NoneComes o (record o { mutexes = live_in (mutex.after_take (mutexes k o) who id m d) })
  mutex_taken who id m (mutex.declined e) = none_comes o
  mutex_taken who id m (mutex.taken v) = mutex_written o id (mutex.owned who v)
  mutex_taken who id m (mutex.retaken v) = mutex_written o id (record v { depth = v.depth + 1 })
  mutex_taken who id m (mutex.starved v) = none_comes o

  pub take_stays : (a : Actor) (id m : ℕ) → NoneComes o (take_row k o a id m).objects
  take_stays a id m =
      on_take k o Stays none a id m
      (λ who is there. on_mutex_take k o Stays none who id m (λ fine. mutex_taken who id m (mutex.take_deed who m (object_of o.mutexes.rows id))))
      (λ who other. on_plain_take k o Stays none who id m (λ fine. plain_taken who id m (plain.take_deed m (plain.live (sems k o) id))))

  -- ---- semGive
  plain_given : (id : ℕ) (d : plain.GiveDeed) → NoneComes o (record o { semaphores = (plain.after_give (sems k o) id d).semaphores })
  plain_given id (plain.denied e) = none_comes o
  plain_given id (plain.passed_on t) = none_comes o
  plain_given id (plain.counted v) = semaphore_written o id (plain.counted_up v)

  passed_stays : (id : ℕ) (v : Mutex) (next : Option TaskRecord) → NoneComes o (record o { mutexes = live_in (mutex.pass_on (mutexes k o) id v next) })
  passed_stays id v None = mutex_written o id (mutex.freed v)
  passed_stays id v (Some t) = mutex_written o id (mutex.owned t.id v)

  mutex_given : (who id : ℕ) (d : mutex.GiveDeed) → NoneComes o (record o { mutexes = live_in (mutex.after_give (mutexes k o) who id d) })
  mutex_given who id (mutex.denied e) = none_comes o
  mutex_given who id (mutex.lowered v) = mutex_written o id (record v { depth = v.depth - 1 })
  mutex_given who id (mutex.given_up v) = passed_stays id v (first_waiter k.tasks (mutex_place id))

  pub give_stays : (a : Actor) (id : ℕ) → NoneComes o (give_row k o a id).objects
  give_stays a id =
      on_give k o Stays none a id
      (λ who is there. on_mutex_give k o Stays none who id (λ fine. mutex_given who id (mutex.give_deed who (object_of o.mutexes.rows id))))
      (λ other. on_plain_give k o Stays none id (λ fine. plain_given id (plain.give_deed (plain.next_of (sems k o) id) (plain.live (sems k o) id))))

  -- ---- semFlush, semDelete and taskPrioritySet
  pub flush_stays : (id : ℕ) → NoneComes o (flush_row k o id).objects
  flush_stays id = on_flush k o Stays none id (λ other fine. none_comes o)

  delete_alone_stays : (id : ℕ) (v : Option Mutex) → NoneComes o (record o { mutexes = live_in (mutex.delete_alone (mutexes k o) id v) })
  delete_alone_stays id None = none_comes o
  delete_alone_stays id (Some v) = by_mutex_rows o (record o.mutexes { rows = without o.mutexes.rows id }) (fewer_without o.mutexes.rows id) refl

  pub delete_stays : (id : ℕ) → NoneComes o (delete_row k o id).objects
  delete_stays id =
      on_delete k o Stays none id
      (λ there. delete_alone_stays id (object_of o.mutexes.rows id))
      (λ other fine. by_semaphores o (without o.semaphores id) (fewer_without o.semaphores id))

  pub priority_stays : (pri : ℕ) (who : Option ℕ) → NoneComes o (priority_row k o pri who).objects
  priority_stays pri who = on_priority k o Stays none pri who (λ id. none_comes o)

-- ---- the ids after a row of queues
module _ (s : Scene) where
  -- these queues have only ids that were there before
  abbrev FewQueues : Scene → Type 0
  FewQueues t = Fewer (ids t.queues.queues) (ids s.queues.queues)

  all_queues : FewQueues s
  all_queues = fewer_same (ids s.queues.queues) (ids s.queues.queues) refl

  queue_written : (id : ℕ) (q : QueueState) → Fewer (ids (with_object s.queues.queues id q)) (ids s.queues.queues)
  queue_written id q = fewer_same (ids s.queues.queues) (ids (with_object s.queues.queues id q)) (ids_write s.queues.queues id q)

  sent_stays : (id : ℕ) (x : Sending) (d : SendDeed) → FewQueues (after_send s id x d)
  sent_stays id x (declined e) = all_queues
  sent_stays id x (passed_on a) = all_queues
  sent_stays id x (queued q) = queue_written id (added x.urgent (sent_bytes s x) q)
  sent_stays id x (blocked who q) = all_queues

  pub send_stays : (id : ℕ) (x : Sending) → FewQueues (send s id x)
  send_stays id x = sent_stays id x (send_deed s id x)

  refilled_stays : (id : ℕ) (x : Receiving) (q : QueueState) (m : List ℕ) (rest : List (List ℕ)) (a : Option Ask) → FewQueues (refilled (taken_out s id x q m rest) id (record q { held = rest }) a)
  refilled_stays id x q m rest None = queue_written id (record q { held = rest })
  refilled_stays id x q m rest (Some a) =
      let half : List (ℕ × QueueState) = with_object s.queues.queues id (record q { held = rest }) in
      let whole : QueueState = added a.urgent (waited_bytes (taken_out s id x q m rest) a) (record q { held = rest }) in
      fewer_same (ids s.queues.queues) (ids (with_object half id whole)) (ids_write half id whole ∙ ids_write s.queues.queues id (record q { held = rest }))

  received_stays : (id : ℕ) (x : Receiving) (d : ReceiveDeed) → FewQueues (after_receive s id x d)
  received_stays id x (denied e) = all_queues
  received_stays id x (taken q m rest) = refilled_stays id x q m rest (first_asking s (senders id))
  received_stays id x (starved q) = all_queues

  pub receive_row_stays : (a : Actor) (id buffer count timeout : ℕ) → FewQueues (queue_rows.receive_row s a id buffer count timeout).scene
  receive_row_stays (Task who) id buffer count timeout =
      let x : Receiving = record { caller = who; buffer = buffer; room = count; timeout = timeout } in received_stays id x (receive_deed s id x)
  receive_row_stays Interrupt id buffer count timeout = all_queues

  deleted_stays : (id : ℕ) (q : Option QueueState) → FewQueues (deleted s id q)
  deleted_stays id None = all_queues
  deleted_stays id (Some q) = fewer_without s.queues.queues id

  pub queue_delete_stays : (id : ℕ) → FewQueues (delete s id)
  queue_delete_stays id = deleted_stays id (queue_of s id)

  -- at most the next id is added
  abbrev pub QueueComes : Scene → Type 0
  QueueComes t = Given s.kern.next_id t.kern.next_id (ids s.queues.queues) (ids t.queues.queues)

  pub queue_create_comes : (max_msgs max_len options : ℕ) → QueueComes (queue_rows.create_row s max_msgs max_len options).scene
  queue_create_comes max_msgs max_len options = go (create_refusal (length s.queues.queues) s.kern.next_id max_msgs max_len options) where
    go : (r : Option Errno) → QueueComes (unless r (λ e. queue_rows.row_of s (Refusal e)) (queue_rows.row_of (created s (new_queue max_msgs max_len options)) (Answer s.kern.next_id))).scene
    go (Some e) = given_none s.kern.next_id s.kern.next_id (ids s.queues.queues) (omega arith)
    go None = given_push s.queues.queues s.kern.next_id (new_queue max_msgs max_len options)

-- the queues' ids among all
pub queues_given : (o : Objects) (qs : QueuesState) (next after : ℕ) → Given next after (ids o.queues.queues) (ids qs.queues) → Given next after (waited_ids o) (waited_ids (record o { queues = qs }))
queues_given o qs next after given =
    given_before next after (ids o.semaphores) (ids o.mutexes.rows ++ ids o.queues.queues) (ids o.mutexes.rows ++ ids qs.queues) (given_before next after (ids o.mutexes.rows) (ids o.queues.queues) (ids qs.queues) given)

-- ---- owners
-- what holds for every live task, for every owner, and if there is no owner
module _ (k : KernState) (o : Objects) (is : IsKern k) (Q : Option ℕ → Type 0) (none : Q None) (tasks : All (λ t. Q (Some t.id)) k.tasks) (owners : All (λ r. Q r.1.owner) o.mutexes.rows) where
  live_owner : (who : ℕ) → Lives k who → Q (Some who)
  live_owner who live =
      elim (task_of k.tasks who) as (λ q. task_of k.tasks who ≡ q → IsSome q → Q (Some who)) [
        | None ↦ λ e h. absurd (cc)
        | Some t ↦ λ e h. subst (λ n. Q (Some n)) (found_id task_id k.tasks who t e) (All-contains (λ (u : TaskRecord). Q (Some u.id)) k.tasks t tasks (found_at task_id k.tasks who t e))
      ] refl live

  -- a row keeps it of every owner
  pub owners_may : MayChange k o (Lives k) (λ v. Q v.owner)
  owners_may = record {
    all = owners;
    fresh = λ options. none;
    taken = λ who v live. live_owner who live;
    passed = λ id v t first. live_owner t.id (next_lives k id t.id is (sym (ap (option_map task_id) first)));
    freed = λ v. none;
    deeper = λ id v found. found_has (λ (u : Mutex). Q u.owner) o.mutexes.rows id v owners found;
    less = λ id v found. found_has (λ (u : Mutex). Q u.owner) o.mutexes.rows id v owners found;
  }
