-- Each row of the calls on message queues keeps the objects' invariant.
use Rattle.std.proofs.Common.{◌≡◌, ℕ, ◌+◌, ◌<◌, Bool, true, false, cond, not, ◌&&◌, ◌||◌, eqb, min, List, [], ◌∷◌, ◌++◌, length, get_or, Option, None, Some, IfSome, is_some, refl, sym, ap, ◌∙◌, subst, arith}
use Rattle.std.specs.List.{All}
use Rattle.std.proofs.lemmas.Bool.{or_left, or_right}
use Rattle.std.proofs.lemmas.List.Elements.{All-weaker, All-filter, All-push}
use Rattle.wind_base.specs.Boards.{board_rules}
use Rattle.wind_base.specs.declared.board_kind.BoardKind.{BoardKind}
use Rattle.wind_base.specs.declared.errno.Errno.{Errno}
use Rattle.wind_base.specs.declared.errno.Errno.TheVariants as errors
use Rattle.id_table.specs.Rows.{ids, object_of, with_object, without}
use Rattle.id_table.specs.declared.ident.Place.{Place}
use Rattle.id_table.proofs.Lookups.{object_of-without, object_of-push}
use Rattle.task_block.specs.declared.task.Task.{Task as TaskRecord}
use Rattle.id_table.specs.Sorting.{first}
use Rattle.id_table.proofs.Passing.{none_passes}
use Rattle.wind_core.specs.State.{KernState, IsKern, task_id}
use Rattle.wind_core.specs.Orders.{is_place, waits_at, waits_before, waiters}
use Rattle.wind_core.specs.Moves.{answered, end_wait, end_waits, wake_all, pend}
use Rattle.wind_core.specs.Move.{Move, Pend, EndWait, WakeAll, DrawIds, apply}
use Rattle.wind_core.proofs.Moving.{move_keeps}
use Rattle.wind_core.proofs.Lawful.{none_left}
use Rattle.wind_core.proofs.Passes.{waits_before-order}
use Rattle.wind_core.proofs.Stable.{move_task-stable}
use Rattle.kernel_world.specs.InheritanceMutexes.{both as with_mutexes}
use Rattle.kernel_world.specs.SemMutexKept.{MutexKept, KeepsMutexes}
use Rattle.kernel_world.specs.SemMutexLaws.{SparesMutexes}
use Rattle.kernel_world.proofs.SemMutexLawful.{beside_law}
use Rattle.msg_queue.specs.declared.words.Sending.{Sending}
use Rattle.msg_queue.specs.declared.words.Receiving.{Receiving}
use Rattle.msg_queue.specs.State.{QueueState, QueuesState, Scene, scene, queue_of, size_of, added, receivers, senders, first_asking, with_queue}
use Rattle.msg_queue.specs.Sends.{SendDeed, declined, passed_on, queued, blocked, sends_at, send_deed, sent_bytes, after_send, send}
use Rattle.msg_queue.specs.Receives.{ReceiveDeed, denied, taken, starved, receives_at, receive_deed, taken_out, waited_bytes, refilled, after_receive, receive}
use Rattle.msg_queue.specs.Comings.{create_refusal, new_queue, created, awakened, gone, deleted}
use Rattle.msg_queue.specs.Kept.{IsKept, IsCaller}
use Rattle.msg_queue.specs.Machine.{sends, receives, deletes, others}
use Rattle.msg_queue.proofs.Calm.{calm_stays}
use Rattle.msg_queue.proofs.Events.{keeps, creates_keep}
use Rattle.kernel_world.specs.Objects.{is_queue_side, is_live, KeepsWaits, KeepsObjects}
use Rattle.kernel_world.specs.declared.reply.Reply.TheVariants.{Answer, Refusal}
use Rattle.call_rows.specs.Unless.{unless}
use Rattle.call_rows.specs.QueueRows.{row_of, create_row, task_in, sending, send_row, receive_row, delete_row, count_row}
use Rattle.kernel_world.specs.declared.objects.Objects.{Objects}
use Rattle.kernel_world.specs.declared.actor.Actor.{Actor}
use Rattle.kernel_world.specs.declared.actor.Actor.TheVariants.{Task, Interrupt}
use Rattle.kernel_world.proofs.Apart.{not_some, by_id, none_from}
use Rattle.kernel_world.proofs.Waiting.{waits-move}
use Rattle.kernel_world.proofs.ObjectMoves.{objects-move}
use Rattle.call_rows.proofs.MutexTables.{all-ids, lives-ids, ids-write, waits_live}

-- the objects with other queues
abbrev pub with_queues : Objects → QueuesState → Objects
with_queues o qs = record o { queues = qs }

-- the invariant holds after the row of a call on queues
abbrev pub KeepsScene : BoardKind → Objects → Scene → Type 0
KeepsScene board o t = KeepsObjects board t.kern (with_queues o t.queues)

-- ---- waits for what lives, among other queues
grows : (a m b c d e : Bool) → (c ≡ true → d ≡ true) → (a || (m || ((b && c) || e))) ≡ true → (a || (m || ((b && d) || e))) ≡ true
grows true m b c d e more h = refl
grows false true b c d e more h = refl
grows false false false c d e more h = h
grows false false true c d true more h = or_right d true refl
grows false false true true d false more h = or_left d false (more refl)
grows false false true false d false more h = absurd (cc)

-- each queue that lived lives among these
waits_among : {board : BoardKind} (k : KernState) (o : Objects) (qs : QueuesState) → ((n : ℕ) → is_some (object_of o.queues.queues n) ≡ true → is_some (object_of qs.queues n) ≡ true) → KeepsWaits board k o → KeepsWaits board k (with_queues o qs)
waits_among k o qs more kept = waits_live k o (with_queues o qs) kept.semaphores (λ p h.
    grows (eqb p.side 0 && is_some (object_of o.semaphores p.id)) (eqb p.side 0 && is_some (object_of o.mutexes.rows p.id)) (is_queue_side p.side)
    (is_some (object_of o.queues.queues p.id)) (is_some (object_of qs.queues p.id)) (eqb p.side 2 || eqb p.side 3) (more p.id) h) kept

shrinks : (a m b c q e : Bool) (x : Option QueueState) → (b && q) ≡ false → (c && q) ≡ false → (a || (m || (((b || c) && is_some x) || e))) ≡ true → (a || (m || (((b || c) && is_some (cond q None x)) || e))) ≡ true
shrinks true m b c q e x first second h = refl
shrinks false true b c q e x first second h = refl
shrinks false false b c false e x first second h = h
shrinks false false true c true e x first second h = absurd (cc)
shrinks false false false true true e x first second h = absurd (cc)
shrinks false false false false true e x first second h = h

-- nobody waits at the place
abbrev NobodyAt : Place → KernState → Type 0
NobodyAt place k = All (λ t. is_place place t.wait ≡ false) k.tasks

-- a queue at which nobody waits is gone
waits_without : {board : BoardKind} (k : KernState) (o : Objects) (id : ℕ) → NobodyAt (receivers id) k → NobodyAt (senders id) k → KeepsWaits board k o → KeepsWaits board k (with_queues o (record o.queues { queues = without o.queues.queues id }))
waits_without k o id none_receives none_sends kept = record {
  semaphores = kept.semaphores;
  deleters = kept.deleters;
  live = λ i d within. each (get_or k.tasks i d).wait (none_receives i d within) (none_sends i d within) (kept.live i d within);
  right = kept.right;
}
  where
    each : (w : Option Place) → is_place (receivers id) w ≡ false → is_place (senders id) w ≡ false → IfSome w (λ p. is_live o p ≡ true)
        → IfSome w (λ p. is_live (with_queues o (record o.queues { queues = without o.queues.queues id })) p ≡ true)
    each None one two h = tt
    each (Some p) one two h =
        subst (λ x. ((eqb p.side 0 && is_some (object_of o.semaphores p.id)) || ((eqb p.side 0 && is_some (object_of o.mutexes.rows p.id)) || ((is_queue_side p.side && is_some x) || (eqb p.side 2 || eqb p.side 3)))) ≡ true)
        (sym (object_of-without o.queues.queues id p.id))
        (shrinks (eqb p.side 0 && is_some (object_of o.semaphores p.id)) (eqb p.side 0 && is_some (object_of o.mutexes.rows p.id)) (eqb p.side 0) (eqb p.side 1) (eqb p.id id) (eqb p.side 2 || eqb p.side 3)
        (object_of o.queues.queues p.id) one two h)

-- ---- all tasks that wait at a place go on
nobody-end_waits : (place : Place) (k : KernState) (ts : List TaskRecord) (a : ℕ) (e : Option Errno) → NobodyAt place k → NobodyAt place (end_waits k ts a e)
nobody-end_waits place k [] a e none = none
nobody-end_waits place k (t ∷ ts) a e none =
    nobody-end_waits place (end_wait k t.id a e) ts a e (move_task-stable (λ u. is_place place u.wait ≡ false) (λ since u h. h) k t.id (answered a e) (λ u h. refl) none)

nobody-wake_all : (place : Place) (k : KernState) (a : ℕ) (e : Option Errno) → IsKern k → NobodyAt place (wake_all k place a e)
nobody-wake_all place k a e is = none_passes task_id waits_before waits_before-order (waits_at place) (wake_all k place a e).tasks (ap first (none_left k is place a e))

-- ---- the queues
-- their invariant with one RAM holds with any of the same size
any_ram : (bytes : ℕ) (t : Scene) → length t.ram ≡ bytes → IsKept t → (ram : List ℕ) → length ram ≡ bytes → IsKept (scene t.kern t.queues ram)
any_ram bytes t size good ram long = keeps t (others t.kern ram) good (calm_stays t.queues.queues t.kern good.kern, long ∙ sym size)

module _ {board : BoardKind} (k : KernState) (o : Objects) (ram : List ℕ) (is : IsKern k) (kept : KeepsObjects board k o) (size : length ram ≡ (board_rules board).ram_bytes) where
  -- the size of RAM in bytes
  abbrev ram_bytes : ℕ
  ram_bytes = (board_rules board).ram_bytes

  abbrev s : Scene
  s = scene k o.queues ram

  sound : IsKept s
  sound = kept.queues ram size

  -- a move that spares mutexes
  mutexes-move : (m : Move) → SparesMutexes (with_mutexes k o.mutexes) m → KeepsMutexes (with_mutexes (apply k m) o.mutexes)
  mutexes-move m spares = beside_law (with_mutexes k o.mutexes) m kept.mutexes spares

  -- no id of a queue is that of a semaphore or of a mutex
  abbrev IsAlone : ℕ → Type 0
  IsAlone n = (object_of o.semaphores n ≡ None) × (object_of o.mutexes.rows n ≡ None)

  -- queues with the same ids
  by_same : (t : Scene) → KeepsWaits board t.kern o → KeepsMutexes (with_mutexes t.kern o.mutexes) → length t.ram ≡ ram_bytes → IsKept t → ids t.queues.queues ≡ ids o.queues.queues → KeepsScene board o t
  by_same t waits mutexes long good same = record {
    waits = waits_among t.kern o t.queues (λ n lives. lives-ids o.queues.queues t.queues.queues same n ∙ lives) waits;
    mutexes = mutexes;
    table = kept.table;
    queues = any_ram ram_bytes t long good;
    queues_ranged = all-ids o.queues.queues t.queues.queues same (λ n. 0 < n) kept.queues_ranged;
    apart = kept.apart;
    queues_apart = all-ids o.queues.queues t.queues.queues same IsAlone kept.queues_apart;
  }

  -- ---- a queue is made
  pub keeps-create_row : (max_msgs max_len options : ℕ) → KeepsScene board o (create_row s max_msgs max_len options).scene
  keeps-create_row max_msgs max_len options =
      let q : QueueState = new_queue max_msgs max_len options in
      let next : ℕ = k.next_id in
      let rs : List (ℕ × QueueState) = o.queues.queues in
      elim (create_refusal (length rs) next max_msgs max_len options) as (λ r. create_refusal (length rs) next max_msgs max_len options ≡ r → KeepsScene board o (unless r (λ e. row_of s (Refusal e)) (row_of (created s q) (Answer next))).scene) [
        | Some e ↦ λ r. kept
        | None ↦ λ r. record {
          waits =
              waits_among (record k { next_id = next + 1 }) o (record o.queues { queues = rs ++ (next, q) ∷ [] })
              (λ n lives. ap is_some (object_of-push rs next n q) ∙ ap (λ c. is_some (cond c (object_of rs n) (cond (eqb next n) (Some q) None))) lives ∙ lives)
              (waits-move k o is kept.waits (DrawIds (next + 1)) (omega arith));
          mutexes = mutexes-move (DrawIds (next + 1)) (omega arith);
          table = kept.table;
          queues = λ other long. creates_keep (scene k o.queues other) max_msgs max_len options r (kept.queues other long);
          queues_ranged = All-push (λ x. 0 < x.0) rs (next, q) kept.queues_ranged is.first_id;
          apart = kept.apart;
          queues_apart = All-push (λ x. IsAlone x.0) rs (next, q) kept.queues_apart
              (none_from o.semaphores next next kept.waits.semaphores.ids (omega arith), none_from o.mutexes.rows next next (All-weaker (MutexKept next) (λ x. x.0 < next) (λ x h. h.id) o.mutexes.rows kept.mutexes.holds.mutexes) (omega arith));
        }
      ] refl

  -- ---- a wait at a queue begins
  module _ (id : ℕ) (there : is_some (object_of o.queues.queues id) ≡ true) where
    alone : IsAlone id
    alone = by_id IsAlone o.queues.queues id kept.queues_apart there

    below : id < k.next_id
    below = by_id (λ n. n < k.next_id) o.queues.queues id sound.ids there

    waits_to_send : (who n : ℕ) (fifo : Bool) → KeepsWaits board (pend k who (senders id) fifo n) o
    waits_to_send who n fifo =
        waits-move k o is kept.waits (Pend who (senders id) fifo n) (record {
          may = record { empty = tt; made = below };
          lives = or_left (is_some (object_of o.queues.queues id)) false there;
          other = λ q. absurd (omega (arith, q));
          console = λ q. absurd (omega (arith, q));
        })

    waits_to_receive : (who n : ℕ) (fifo : Bool) → KeepsWaits board (pend k who (receivers id) fifo n) o
    waits_to_receive who n fifo =
        let queue : Bool = is_some (object_of o.queues.queues id) in
        waits-move k o is kept.waits (Pend who (receivers id) fifo n) (record {
          may = record { empty = subst (λ q. IfSome q (λ v. v.count ≡ 0)) (sym alone.0) tt; made = below };
          lives = or_right (is_some (object_of o.semaphores id)) (is_some (object_of o.mutexes.rows id) || (queue || false)) (or_right (is_some (object_of o.mutexes.rows id)) (queue || false) (or_left queue false there));
          other = λ q. absurd (omega (arith, q));
          console = λ q. absurd (omega (arith, q));
        })

    -- ---- the result of a send and of a receive
    sent : (x : Sending) (d : SendDeed) → length (after_send s id x d).ram ≡ ram_bytes → IsKept (after_send s id x d) → KeepsScene board o (after_send s id x d)
    sent x (declined e) long good = kept
    sent x (passed_on a) long good = objects-move k o is kept (EndWait a.who (min (length (sent_bytes s x)) a.count) None) (tt, tt, tt, tt)
    sent x (queued q) long good =
        let y : QueueState = added x.urgent (sent_bytes s x) q in
        by_same (with_queue s id y) kept.waits kept.mutexes long good (ids-write o.queues.queues id y)
    sent x (blocked who q) long good =
        by_same (after_send s id x (blocked who q)) (waits_to_send who x.timeout (not q.by_priority)) (mutexes-move (Pend who (senders id) (not q.by_priority) x.timeout) (refl, below)) long good refl

    received : (x : Receiving) (d : ReceiveDeed) → length (after_receive s id x d).ram ≡ ram_bytes → IsKept (after_receive s id x d) → KeepsScene board o (after_receive s id x d)
    received x (denied e) long good = kept
    received x (taken q m rest) long good =
        let out : Scene = taken_out s id x q m rest in
        let less : QueueState = record q { held = rest } in
        let rs : List (ℕ × QueueState) = o.queues.queues in
        elim (first_asking s (senders id)) as (λ f. length (refilled out id less f).ram ≡ ram_bytes → IsKept (refilled out id less f) → KeepsScene board o (refilled out id less f)) [
          | None ↦ λ same sure. by_same out kept.waits kept.mutexes same sure (ids-write rs id less)
          | Some a ↦ λ same sure.
              let y : QueueState = added a.urgent (waited_bytes out a) less in
              by_same (refilled out id less (Some a)) (waits-move k o is kept.waits (EndWait a.who 0 None) tt) (mutexes-move (EndWait a.who 0 None) tt) same sure
              (ids-write (with_object rs id less) id y ∙ ids-write rs id less)
        ] long good
    received x (starved q) long good =
        by_same (after_receive s id x (starved q)) (waits_to_receive x.caller x.timeout (not q.by_priority)) (mutexes-move (Pend x.caller (receivers id) (not q.by_priority) x.timeout) (alone.1, below)) long good refl

  -- ---- a message is sent, by a caller that is ready if the queue lives
  pub keeps-send : (id : ℕ) (x : Sending) → (is_some (object_of o.queues.queues id) ≡ true → IsCaller k x.caller) → length (send s id x).ram ≡ ram_bytes → KeepsScene board o (send s id x)
  keeps-send id x callers long =
      elim (is_some (object_of o.queues.queues id)) as (λ b. is_some (object_of o.queues.queues id) ≡ b → KeepsScene board o (send s id x)) [
        | true ↦ λ there. sent id there x (send_deed s id x) long (keeps s (sends id x) sound (callers there))
        | false ↦ λ none. subst (λ q. KeepsScene board o (after_send s id x (sends_at (size_of s) x (first_asking s (receivers id)) q))) (sym (not_some (queue_of s id) none)) kept
      ] refl

  pub keeps-send_row : (a : Actor) (id buffer count timeout pri : ℕ) → (is_some (object_of o.queues.queues id) ≡ true → IsCaller k (task_in a))
      → length (send_row s id (sending a buffer count timeout pri)).scene.ram ≡ ram_bytes → KeepsScene board o (send_row s id (sending a buffer count timeout pri)).scene
  keeps-send_row a id buffer count timeout pri callers long = keeps-send id (sending a buffer count timeout pri) callers long

  -- ---- a message is received
  pub keeps-receive : (id : ℕ) (x : Receiving) → (is_some (object_of o.queues.queues id) ≡ true → IsCaller k (Some x.caller)) → length (receive s id x).ram ≡ ram_bytes → KeepsScene board o (receive s id x)
  keeps-receive id x callers long =
      elim (is_some (object_of o.queues.queues id)) as (λ b. is_some (object_of o.queues.queues id) ≡ b → KeepsScene board o (receive s id x)) [
        | true ↦ λ there. received id there x (receive_deed s id x) long (keeps s (receives id x) sound (callers there))
        | false ↦ λ none. subst (λ q. KeepsScene board o (after_receive s id x (receives_at (size_of s) x q))) (sym (not_some (queue_of s id) none)) kept
      ] refl

  pub keeps-receive_row : (a : Actor) (id buffer count timeout : ℕ) → (is_some (object_of o.queues.queues id) ≡ true → IsCaller k (task_in a))
      → length (receive_row s a id buffer count timeout).scene.ram ≡ ram_bytes → KeepsScene board o (receive_row s a id buffer count timeout).scene
  keeps-receive_row (Task who) id buffer count timeout callers long =
      keeps-receive id (record { caller = who; buffer = buffer; room = count; timeout = timeout }) callers long
  keeps-receive_row Interrupt id buffer count timeout callers long = kept

  -- ---- a queue is deleted
  gone_kept : (id : ℕ) → IsKept (gone s id) → KeepsScene board o (gone s id)
  gone_kept id good =
      let half : KernState = wake_all k (receivers id) 4294967295 (Some errors.ObjDeleted) in
      let is1 : IsKern half = move_keeps k (WakeAll (receivers id) 4294967295 (Some errors.ObjDeleted)) is tt in
      let one : KeepsObjects board half o = objects-move k o is kept (WakeAll (receivers id) 4294967295 (Some errors.ObjDeleted)) (tt, tt, tt, tt) in
      let two : KeepsObjects board (awakened k id) o = objects-move half o is1 one (WakeAll (senders id) 4294967295 (Some errors.ObjDeleted)) (tt, tt, tt, tt) in
      let none_receives : NobodyAt (receivers id) (awakened k id) =
      nobody-end_waits (receivers id) half (waiters half.tasks (senders id)) 4294967295 (Some errors.ObjDeleted) (nobody-wake_all (receivers id) k 4294967295 (Some errors.ObjDeleted) is) in
      let none_sends : NobodyAt (senders id) (awakened k id) = nobody-wake_all (senders id) half 4294967295 (Some errors.ObjDeleted) is1 in
      record {
        waits = waits_without (awakened k id) o id none_receives none_sends two.waits;
        mutexes = two.mutexes;
        table = kept.table;
        queues = any_ram ram_bytes (gone s id) size good;
        queues_ranged = All-filter (λ r. not (eqb r.0 id)) (λ r. 0 < r.0) o.queues.queues kept.queues_ranged;
        apart = kept.apart;
        queues_apart = All-filter (λ r. not (eqb r.0 id)) (λ r. IsAlone r.0) o.queues.queues kept.queues_apart;
      }

  pub keeps-delete_row : (id : ℕ) → KeepsScene board o (delete_row s id).scene
  keeps-delete_row id = elim (queue_of s id) as (λ q. IsKept (deleted s id q) → KeepsScene board o (deleted s id q)) [ None ↦ λ good. kept | Some q ↦ λ good. gone_kept id good ] (keeps s (deletes id) sound tt)

  -- ---- messages are counted
  pub keeps-count_row : (id : ℕ) → KeepsScene board o (count_row s id).scene
  keeps-count_row id = kept
