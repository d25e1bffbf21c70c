-- Each row of the calls on objects keeps the objects' invariant.
use Rattle.std.proofs.Common.{◌≡◌, ℕ, ◌+◌, ◌<◌, ◌≤◌, Bool, true, false, cond, not, ◌&&◌, ◌||◌, eqb, leb, List, [], ◌∷◌, ◌++◌, length, get_or, Option, None, Some, IfSome, is_some, refl, sym, ap, ◌∙◌, subst, arith}
use Rattle.std.specs.List.{All}
use Rattle.std.proofs.lemmas.Bool.{and_parts, or_left, or_right}
use Rattle.std.proofs.lemmas.Bool.Decides.{nat_tests}
use Rattle.std.proofs.lemmas.List.Elements.{All-weaker, All-filter, All-push}
use Rattle.wind_base.specs.SemBits.{has_bits, are_options, is_priority, is_inversion_safe}
use Rattle.wind_base.specs.declared.board_kind.BoardKind.{BoardKind}
use Rattle.wind_base.specs.declared.errno.Errno.{Errno}
use Rattle.wind_base.specs.declared.errno.Errno.TheVariants as errors
use Rattle.wind_base.specs.declared.semaphore.SemKind.{SemKind}
use Rattle.wind_base.specs.declared.semaphore.SemKind.TheVariants as kinds
use Rattle.wind_base.specs.declared.semaphore.SemOptions.{SemOptions}
use Rattle.id_table.specs.Rows.{IdsBelow, IsId, ids, object_of, with_object, without}
use Rattle.id_table.proofs.Lookups.{found_below, no_object_of}
use Rattle.wind_core.specs.State.{KernState, IsKern}
use Rattle.wind_core.specs.Orders.{is_place}
use Rattle.wind_core.specs.Move.{Pend, EndWait, WakeAll, DrawIds}
use Rattle.kernel_world.specs.SemPlainSemaphore.{Semaphore}
use Rattle.kernel_world.specs.SemPlainState.{SemState, sem_place, may_hold}
use Rattle.kernel_world.specs.SemPlainCalls as plain
use Rattle.kernel_world.specs.SemPlainKept.{KeepsSemaphores}
use Rattle.kernel_world.specs.SemPlainLaws.{WaitsLiveIn, KeptByCalls, LiveByCalls}
use Rattle.kernel_world.proofs.SemPlainKeeping.{may_pend, calls_keep}
use Rattle.kernel_world.proofs.SemPlainDeeds.{TakeIs, take_is}
use Rattle.kernel_world.proofs.SemPlainLiving.{calls_live}
use Rattle.kernel_world.proofs.SemPlainMoving.{same_itself}
use Rattle.kernel_world.proofs.TaskSafetyWaiting.{moves_keep}
use Rattle.kernel_world.specs.InheritanceMutex.{Mutex}
use Rattle.kernel_world.specs.InheritanceMutexes.{MutexState, LiveMutexes, both, mutex_place}
use Rattle.kernel_world.specs.SemMutexCalls as mutex
use Rattle.kernel_world.specs.SemMutexMaking as making
use Rattle.kernel_world.specs.SemMutexKept.{MutexKept, KeepsMutexes}
use Rattle.kernel_world.specs.SemMutexLaws as laws
use Rattle.kernel_world.proofs.SemMutexLawful.{beside_law, calls_law, gone_law}
use Rattle.msg_queue.proofs.Calm.{calms}
use Rattle.kernel_world.specs.Objects.{is_live_beside, KeepsObjects}
use Rattle.call_rows.specs.SemRows.{ObjectRow, live_in, sems, mutexes, is_mutex, refused, by_semaphores, by_mutexes, made, binary_row, counting_row, mutex_with, mutex_row, took_reply, take_row, give_row, flush_row, delete_row, priority_row}
use Rattle.call_rows.proofs.RowWalks.{on_made, on_binary, on_counting, on_mutex_made, on_mutex_take, on_plain_take, on_take, on_plain_give, on_mutex_give, on_give, on_flush, on_delete, on_priority}
use Rattle.kernel_world.specs.Actors.{Acts}
use Rattle.kernel_world.specs.declared.objects.Objects.{Objects}
use Rattle.kernel_world.specs.declared.actor.Actor.{Actor}
use Rattle.kernel_world.specs.declared.reply.Reply.TheVariants.{Answer}
use Rattle.kernel_world.proofs.Calming.{KeepsQueues, queues-calm}
use Rattle.kernel_world.proofs.Apart.{not_some, by_id, none_from, none_push, none_write, none_without, other_kind, queue_ids}
use Rattle.kernel_world.proofs.Waiting.{waits-move}
use Rattle.kernel_world.proofs.ObjectMoves.{objects-move}
use Rattle.call_rows.proofs.MutexTables.{with_mutexes, all-ids, lives-ids, table-ids, table-without, table-push, waits-ids, waits-push, waits-without}
use Rattle.call_rows.proofs.MutexWaits.{Still, MayAwait, still-take, still-give, still-delete, still-priority_set, ids-take, ids-give}

-- the objects with other semaphores
abbrev other_semaphores : Objects → List (ℕ × Semaphore) → Objects
other_semaphores o ss = record o { semaphores = ss }

-- the invariant holds after the row
abbrev pub KeepsRow : BoardKind → ObjectRow → Type 0
KeepsRow board r = KeepsObjects board r.kern r.objects

-- an object is made only if there is room and an id is left
room_left : (n id : ℕ) (e f : Errno) → cond (leb 1024 n) (Some e) (cond (leb 1048577 id) (Some f) None) ≡ None → (n < 1024) × (id ≤ 1048576)
room_left n id e f none = grind (arith, nat_tests)

-- only a mutex whose tasks wait by priority may be inversion-safe
inherits : (a b c : Bool) → (a && (not b || c)) ≡ true → b ≡ true → c ≡ true
inherits a true c h e = (and_parts a c h).1
inherits a false c h e = absurd (cc)

module _ {board : BoardKind} (k : KernState) (o : Objects) (is : IsKern k) (kept : KeepsObjects board k o) where
  abbrev s : SemState
  s = sems k o

  -- no mutex has number 0
  pub zero_none : is_mutex o 0 ≡ false
  zero_none = ap is_some (no_object_of (record { rows = o.mutexes.rows; room = 1024 }) 0 kept.table (λ (i : IsId 0). omega (arith, i.0)))

  -- ---- semaphores
  keeps : KeptByCalls (sems k o)
  keeps = calls_keep (sems k o) kept.waits.semaphores

  lives : LiveByCalls (is_live_beside o) (sems k o)
  lives = calls_live (is_live_beside o) (sems k o) is kept.waits.live

  -- ---- ids of one kind are those of no other
  queue_below : IdsBelow k.next_id o.queues.queues
  queue_below = queue_ids k o kept

  semaphore_no_queue : (id : ℕ) → is_some (object_of o.semaphores id) ≡ true → object_of o.queues.queues id ≡ None
  semaphore_no_queue id there =
      other_kind o.queues.queues o.semaphores id
      (All-weaker (λ r. (object_of o.semaphores r.0 ≡ None) × (object_of o.mutexes.rows r.0 ≡ None)) (λ r. object_of o.semaphores r.0 ≡ None) (λ r h. h.0) o.queues.queues kept.queues_apart) there

  mutex_no_queue : (id : ℕ) → is_some (object_of o.mutexes.rows id) ≡ true → object_of o.queues.queues id ≡ None
  mutex_no_queue id there =
      other_kind o.queues.queues o.mutexes.rows id
      (All-weaker (λ r. (object_of o.semaphores r.0 ≡ None) × (object_of o.mutexes.rows r.0 ≡ None)) (λ r. object_of o.mutexes.rows r.0 ≡ None) (λ r h. h.1) o.queues.queues kept.queues_apart) there

  -- no id that was no semaphore's becomes one's
  abbrev StaysNone : List (ℕ × Semaphore) → Type 0
  StaysNone ss = (n : ℕ) → n < k.next_id → object_of o.semaphores n ≡ None → object_of ss n ≡ None

  apart_by : (ss : List (ℕ × Semaphore)) → StaysNone ss → All (λ r. object_of ss r.0 ≡ None) o.mutexes.rows
  apart_by ss none i d within = none (get_or o.mutexes.rows i d).0 (kept.mutexes.holds.mutexes i d within).id (kept.apart i d within)

  queues_apart_by : (ss : List (ℕ × Semaphore)) → StaysNone ss → All (λ r. (object_of ss r.0 ≡ None) × (object_of o.mutexes.rows r.0 ≡ None)) o.queues.queues
  queues_apart_by ss none i d within =
      let each = kept.queues_apart i d within in
      (none (get_or o.queues.queues i d).0 (queue_below i d within) each.0, each.1)

  -- other semaphores, with a kernel that keeps the invariant of these
  by_others : (j : KernState) (ss : List (ℕ × Semaphore)) → KeepsObjects board j o → KeepsSemaphores (sems j (other_semaphores o ss)) → WaitsLiveIn (is_live_beside o) (sems j (other_semaphores o ss))
      → StaysNone ss → KeepsObjects board j (other_semaphores o ss)
  by_others j ss there semaphores live none = record {
    waits = record { semaphores = semaphores; deleters = there.waits.deleters; live = live; right = there.waits.right };
    mutexes = there.mutexes;
    table = there.table;
    queues = there.queues;
    queues_ranged = kept.queues_ranged;
    apart = apart_by ss none;
    queues_apart = queues_apart_by ss none;
  }

  stays_write : (id : ℕ) (v : Semaphore) → StaysNone (with_object o.semaphores id v)
  stays_write id v n below none = none_write o.semaphores id n v none

  stays_without : (id : ℕ) → StaysNone (without o.semaphores id)
  stays_without id n below none = none_without o.semaphores id n none

  stays_push : (v : Semaphore) → StaysNone (o.semaphores ++ (k.next_id, v) ∷ [])
  stays_push v n below none = none_push o.semaphores k.next_id n v below none

  -- an id is drawn
  queues_draw : k.next_id ≤ 1048576 → KeepsQueues board (record k { next_id = k.next_id + 1 }) o
  queues_draw left = queues-calm board k (record k { next_id = k.next_id + 1 }) o (calms o.queues.queues k (DrawIds (k.next_id + 1)) is (omega arith, omega (arith, left)) tt) kept.queues

  abbrev RowKeeps : ObjectRow → Type 0
  RowKeeps r = KeepsRow board r

  none : (e : Errno) → RowKeeps (refused k o e)
  none e = kept

  -- ---- a semaphore is made
  sem_made : (kind : SemKind) (options : SemOptions) (count : ℕ) → may_hold kind count ≡ true → KeepsRow board (made k o (plain.new_semaphore kind options count))
  sem_made kind options count may =
      let v : Semaphore = plain.new_semaphore kind options count in
      let next : ℕ = k.next_id in
      let j : KernState = record k { next_id = next + 1 } in
      on_made k o RowKeeps none v (λ fine.
      record {
        waits = record {
          semaphores = keeps.creating kind options count may;
          deleters = moves_keep k (DrawIds (next + 1)) is kept.waits.deleters tt;
          live = lives.creating kind options count;
          right = kept.waits.right;
        };
        mutexes = beside_law (mutexes k o) (DrawIds (next + 1)) kept.mutexes (omega arith);
        table = kept.table;
        queues = queues_draw (room_left (length o.semaphores) next errors.TooMany errors.IdsSpent fine).1;
        queues_ranged = kept.queues_ranged;
        apart = apart_by (o.semaphores ++ (next, v) ∷ []) (stays_push v);
        queues_apart = queues_apart_by (o.semaphores ++ (next, v) ∷ []) (stays_push v);
      })

  -- a binary one, empty or full
  pub keeps-binary_row : (options state : ℕ) → KeepsRow board (binary_row k o options state)
  keeps-binary_row options state = on_binary k o RowKeeps none options state (λ v low. sem_made kinds.Binary v state low)

  pub keeps-counting_row : (options count : ℕ) → KeepsRow board (counting_row k o options count)
  keeps-counting_row options count = on_counting k o RowKeeps none options count (λ v. sem_made kinds.Counting v count refl)

  -- ---- a semaphore is taken, given, flushed, deleted
  sem_take : (who id n : ℕ) → object_of o.mutexes.rows id ≡ None → KeepsRow board (by_semaphores o (plain.take s who id n) (took_reply (plain.took s id)))
  sem_take who id n other =
      elim (plain.take_deed n (plain.live s id)) as (λ d. TakeIs s id n d → KeepsSemaphores (plain.after_take s who id n d) → WaitsLiveIn (is_live_beside o) (plain.after_take s who id n d)
      → KeepsObjects board (plain.after_take s who id n d).kern (other_semaphores o (plain.after_take s who id n d).semaphores)) [
        | plain.declined e ↦ λ said semaphores live. kept
        | plain.taken v ↦ λ said semaphores live. by_others k (with_object o.semaphores id (plain.counted_down v)) kept semaphores live (stays_write id (plain.counted_down v))
        | plain.starved v ↦ λ said semaphores live.
            let may = may_pend s id v (sem_place id) kept.waits.semaphores said.0 said.1 (same_itself (sem_place id)) in
            let there = or_left (is_some (object_of o.semaphores id)) (is_some (object_of o.mutexes.rows id) || (is_some (object_of o.queues.queues id) || false)) (ap is_some said.0) in
            objects-move k o is kept (Pend who (sem_place id) (not (is_priority v.options)) n) (
              said.2,
              record { may = may; lives = there; other = λ q. absurd (omega (arith, q)); console = λ q. absurd (omega (arith, q)) },
              (other, may.made),
              λ side. (refl, found_below o.semaphores k.next_id id v kept.waits.semaphores.ids said.0, semaphore_no_queue id (ap is_some said.0)),
            )
      ] (take_is s id n) (keeps.taking who id n) (lives.taking who id n)

  sem_give : (id : ℕ) → KeepsRow board (by_semaphores o (plain.give s id) (Answer 0))
  sem_give id =
      elim (plain.give_deed (plain.next_of s id) (plain.live s id)) as (λ d. KeepsSemaphores (plain.after_give s id d) → WaitsLiveIn (is_live_beside o) (plain.after_give s id d)
      → KeepsObjects board (plain.after_give s id d).kern (other_semaphores o (plain.after_give s id d).semaphores)) [
        | plain.denied e ↦ λ semaphores live. kept
        | plain.passed_on t ↦ λ semaphores live. objects-move k o is kept (EndWait t.id 0 None) (tt, tt, tt, tt)
        | plain.counted v ↦ λ semaphores live. by_others k (with_object o.semaphores id (plain.counted_up v)) kept semaphores live (stays_write id (plain.counted_up v))
      ] (keeps.giving id) (lives.giving id)

  sem_delete : (id : ℕ) → KeepsRow board (by_semaphores o (plain.delete s id) (Answer 0))
  sem_delete id =
      by_others (plain.delete s id).kern (without o.semaphores id) (objects-move k o is kept (WakeAll (sem_place id) 4294967295 (Some errors.ObjDeleted)) (tt, tt, tt, tt)) (keeps.deleting id) (lives.deleting id) (stays_without id)

  pub keeps-flush_row : (id : ℕ) → KeepsRow board (flush_row k o id)
  keeps-flush_row id = on_flush k o RowKeeps none id (λ other fine. objects-move k o is kept (WakeAll (sem_place id) 0 None) (tt, tt, tt, tt))

  -- ---- mutexes
  abbrev m : MutexState
  m = mutexes k o

  still : Still board k o
  still = record { kern = is; waits = kept.waits; queues = kept.queues }

  calls : laws.KeptByCalls m
  calls = calls_law m is kept.table kept.mutexes

  -- other mutexes with the same ids
  by_same : (j : KernState) (live : LiveMutexes) → Still board j o → ids live.rows ≡ ids o.mutexes.rows → KeepsMutexes (both j live) → KeepsObjects board j (with_mutexes o live)
  by_same j live there same mutexes = record {
    waits = waits-ids j o live same there.waits;
    mutexes = mutexes;
    table = table-ids o.mutexes.rows live.rows same kept.table;
    queues = there.queues;
    queues_ranged = kept.queues_ranged;
    apart = all-ids o.mutexes.rows live.rows same (λ n. object_of o.semaphores n ≡ None) kept.apart;
    queues_apart =
        All-weaker (λ r. (object_of o.semaphores r.0 ≡ None) × (object_of o.mutexes.rows r.0 ≡ None)) (λ r. (object_of o.semaphores r.0 ≡ None) × (object_of live.rows r.0 ≡ None))
        (λ r h. (h.0, not_some (object_of live.rows r.0) (lives-ids o.mutexes.rows live.rows same r.0 ∙ ap is_some h.1))) o.queues.queues kept.queues_apart;
  }

  below : IdsBelow k.next_id o.mutexes.rows
  below = All-weaker (MutexKept k.next_id) (λ r. r.0 < k.next_id) (λ r h. h.id) o.mutexes.rows kept.mutexes.holds.mutexes

  -- a mutex is made
  mutex_made : (options : SemOptions) → (is_inversion_safe options ≡ true → is_priority options ≡ true) → KeepsRow board (mutex_with k o (Some options))
  mutex_made options urgency =
      let v : Mutex = making.new_mutex options in
      let next : ℕ = k.next_id in
      let j : KernState = record k { next_id = next + 1 } in
      on_mutex_made k o RowKeeps none options (λ fine.
      let left = room_left (length o.mutexes.rows) next errors.TooMany errors.IdsSpent fine in
      record {
        waits = waits-push j o next v (waits-move k o is kept.waits (DrawIds (next + 1)) (omega arith));
        mutexes = calls.creating options urgency;
        table = table-push o.mutexes.rows next v kept.table left.0 is.first_id left.1 below;
        queues = queues_draw left.1;
        queues_ranged = kept.queues_ranged;
        apart = All-push (λ x. object_of o.semaphores x.0 ≡ None) o.mutexes.rows (next, v) kept.apart (none_from o.semaphores next next kept.waits.semaphores.ids (omega arith));
        queues_apart = λ i d within.
            let each = kept.queues_apart i d within in
            (each.0, none_push o.mutexes.rows next (get_or o.queues.queues i d).0 v (queue_below i d within) each.1);
      })

  pub keeps-mutex_row : (options : ℕ) → KeepsRow board (mutex_row k o options)
  keeps-mutex_row n =
      elim (are_options kinds.Mutex n) as (λ b. are_options kinds.Mutex n ≡ b → KeepsRow board (mutex_with k o (cond b (Some (record { 0 = n })) None))) [
        | true ↦ λ b. mutex_made (record { 0 = n }) (λ safe. inherits (has_bits 13 n) (has_bits n 8) (has_bits n 1) b safe)
        | false ↦ λ b. kept
      ] refl

  -- a mutex that lives may be waited for
  awaitable : (id : ℕ) → is_mutex o id ≡ true → MayAwait k o id
  awaitable id e = (
    record {
      empty = subst (λ q. IfSome q (λ v. v.count ≡ 0)) (sym (by_id (λ n. object_of o.semaphores n ≡ None) o.mutexes.rows id kept.apart e)) tt;
      made = by_id (λ n. n < k.next_id) o.mutexes.rows id below e;
    },
    or_right (is_some (object_of o.semaphores id)) (is_mutex o id || (is_some (object_of o.queues.queues id) || false)) (or_left (is_mutex o id) (is_some (object_of o.queues.queues id) || false) e),
    mutex_no_queue id e,
  )

  mutex_delete_keeps : (id : ℕ) → is_mutex o id ≡ true → KeepsRow board (by_mutexes o (mutex.delete m id) (Answer 0))
  mutex_delete_keeps id there =
      let fine : mutex.delete_refusal (object_of o.mutexes.rows id) ≡ None =
      elim (object_of o.mutexes.rows id) as (λ q. is_some q ≡ true → mutex.delete_refusal q ≡ None) [ None ↦ λ q. absurd (cc) | Some v ↦ λ q. refl ] there in
      elim (object_of o.mutexes.rows id) as (λ q. is_some q ≡ true → Still board (mutex.raised_at_once (mutex.delete_alone m id q)).kern o → KeepsMutexes (mutex.raised_at_once (mutex.delete_alone m id q))
      → All (λ t. is_place (mutex_place id) t.wait ≡ false) (mutex.raised_at_once (mutex.delete_alone m id q)).kern.tasks
      → KeepsObjects board (mutex.raised_at_once (mutex.delete_alone m id q)).kern (with_mutexes o (live_in (mutex.raised_at_once (mutex.delete_alone m id q))))) [
        | None ↦ λ q after mutexes away. absurd (cc)
        | Some v ↦ λ q after mutexes away. record {
          waits = waits-without (mutex.raised_at_once (mutex.delete_alone m id (Some v))).kern o id away after.waits;
          mutexes = mutexes;
          table = table-without o.mutexes.rows id kept.table;
          queues = after.queues;
          queues_ranged = kept.queues_ranged;
          apart = All-filter (λ r. not (eqb r.0 id)) (λ r. object_of o.semaphores r.0 ≡ None) o.mutexes.rows kept.apart;
          queues_apart =
              All-weaker (λ r. (object_of o.semaphores r.0 ≡ None) × (object_of o.mutexes.rows r.0 ≡ None)) (λ r. (object_of o.semaphores r.0 ≡ None) × (object_of (without o.mutexes.rows id) r.0 ≡ None))
              (λ r h. (h.0, none_without o.mutexes.rows id r.0 h.1)) o.queues.queues kept.queues_apart;
        }
      ] there (still-delete o m id still) (calls.deleting id fine) (gone_law m id is fine)

  -- ---- the rows of both kinds; a task that takes or gives a mutex lives
  pub keeps-take_row : (a : Actor) (id n : ℕ) → (is_mutex o id ≡ true → Acts k a) → KeepsRow board (take_row k o a id n)
  keeps-take_row a id n acts =
      on_take k o RowKeeps none a id n
      (λ who same there. on_mutex_take k o RowKeeps none who id n (λ fine.
      by_same (mutex.take m who id n).kern (live_in (mutex.take m who id n)) (still-take o m who id n (awaitable id) still) (ids-take m who id n) (calls.taking who id n (subst (Acts k) same (acts there)) fine)))
      (λ who other. on_plain_take k o RowKeeps none who id n (λ fine. sem_take who id n (not_some (object_of o.mutexes.rows id) other)))

  pub keeps-give_row : (a : Actor) (id : ℕ) → (is_mutex o id ≡ true → Acts k a) → KeepsRow board (give_row k o a id)
  keeps-give_row a id acts =
      on_give k o RowKeeps none a id
      (λ who same there. on_mutex_give k o RowKeeps none who id (λ fine.
      by_same (mutex.give m who id).kern (live_in (mutex.give m who id)) (still-give o m who id still) (ids-give m who id) (calls.giving who id (subst (Acts k) same (acts there)) fine)))
      (λ other. on_plain_give k o RowKeeps none id (λ fine. sem_give id))

  pub keeps-delete_row : (id : ℕ) → KeepsRow board (delete_row k o id)
  keeps-delete_row id = on_delete k o RowKeeps none id (mutex_delete_keeps id) (λ other fine. sem_delete id)

  pub keeps-priority_row : (pri : ℕ) (target : Option ℕ) → KeepsRow board (priority_row k o pri target)
  keeps-priority_row pri target = on_priority k o RowKeeps none pri target (λ id.
      by_same (mutex.priority_set m id pri).kern o.mutexes (still-priority_set o m id pri still) refl (calls.setting_priority id pri))
