-- Each step keeps the invariant: a receive, the making or deletion of a queue, and everything that isn't a call on queues.
use Rattle.std.proofs.Common.{◌≡◌, ℕ, ◌+◌, ◌*◌, ◌<◌, ◌≤◌, Bool, true, false, not, ◌&&◌, cond, eqb, leb, ltb, min, List, [], ◌∷◌, ◌++◌, length, take, Option, None, Some, IsSome, Result, Ok, Err, IfOk, IfErr, refl, sym, ap, ap₂, ◌∙◌, subst, arith}
use Rattle.std.specs.List.{All, AllPairs, Contains}
use Rattle.std.proofs.lemmas.Bool.{eqb-true, eqb-false, leb-true, ltb-false, and_parts}
use Rattle.std.proofs.lemmas.List.{length-take, map-append}
use Rattle.std.proofs.lemmas.List.Elements.{All-filter, All-contains, All-head, All-tail, All-map, All-push, All-weaker, All-nil}
use Rattle.std.proofs.lemmas.List.Quantifiers.{all_pairs_push}
use Rattle.wind_base.specs.declared.errno.Errno.{Errno}
use Rattle.wind_base.specs.declared.errno.Errno.TheVariants as errors
use Rattle.id_table.specs.Rows.{object_of, without, ids, IdsBelow}
use Rattle.id_table.specs.declared.ident.Place.{Place}
use Rattle.task_block.specs.declared.task.Task.{Task}
use Rattle.id_table.specs.Sorting.{first}
use Rattle.id_table.proofs.Passing.{none_passes}
use Rattle.wind_core.specs.State.{KernState, IsKern, task_id}
use Rattle.wind_core.specs.Orders.{waits_before, waits_at, waiters}
use Rattle.wind_core.specs.Moves.{wake_all}
use Rattle.wind_core.specs.Tick.{tick}
use Rattle.wind_core.specs.Move.{Move, WakeAll, Tick, DrawIds}
use Rattle.wind_core.proofs.Passes.{waits_before-order}
use Rattle.wind_core.proofs.Keeping.{end_waits_keep}
use Rattle.wind_core.proofs.Moving.{move_keeps}
use Rattle.wind_core.proofs.Lawful.{none_left}
use Rattle.msg_queue.specs.declared.asks.Ask.{Ask}
use Rattle.msg_queue.specs.declared.words.Receiving.{Receiving}
use Rattle.msg_queue.specs.declared.words.MakeErr.{MakeErr}
use Rattle.msg_queue.specs.State.{QueueState, QueuesState, Scene, scene, queue_of, lies_in, size_of, added, receivers, senders, first_asking, with_queue, stored}
use Rattle.msg_queue.specs.Receives.{denied, taken, starved, receive_deed, taken_out, waited_bytes, refilled, receive_ask, after_receive}
use Rattle.msg_queue.specs.Comings.{is_size, ids_refusal, IsMade, IsNotMade, new_queue, created, awakened, deleted}
use Rattle.msg_queue.specs.Kept.{IsQueue, IsServable, WaitsWell, SendsToLive, WaitsForOld, IsKept, IsCaller, IsCalm}
use Rattle.msg_queue.specs.Machine.{sends, receives, creates, deletes, ticks, others}
use Rattle.msg_queue.specs.Laws.{StartLaw, KeptLaw, CreateLaw}
use Rattle.msg_queue.proofs.Tables.{taken_same, taken_other, added_other, rises-without, written_twice}
use Rattle.msg_queue.proofs.Members.{each}
use Rattle.msg_queue.proofs.Deeds.{passed, not_false, ReceiveIs, receive_is}
use Rattle.msg_queue.proofs.Calm.{calms, calm_series}
use Rattle.msg_queue.proofs.Keeping.{calm_keeps, write_keeps, place_is}
use Rattle.msg_queue.proofs.Waits.{waits_itself, pend_keeps}
use Rattle.msg_queue.proofs.Steps.{length-bytes_at, kept_bytes, served_keeps, good_of, well_at, nobody, length-added, added_good, positive, send_keeps}
use Rattle.msg_queue.proofs.Traffic.{is_first, stuck}

-- ---- a receive
module _ (s : Scene) (id : ℕ) (q : QueueState) (m : List ℕ) (rest : List (List ℕ)) (kept : IsKept s) (here : queue_of s id ≡ Some q) (held : q.held ≡ m ∷ rest) where
  less_good : IsQueue (record q { held = rest })
  less_good =
      let good = good_of s id q kept here in
      record {
        some = good.some;
        fits = omega (arith, good.fits, ap length held);
        short = All-tail (λ v. length v ≤ q.max_len) m rest (subst (All (λ v. length v ≤ q.max_len)) held good.short);
      }

  no_receiver : (t : Task) → Contains s.kern.tasks t → t.wait ≡ Some (receivers id) → ⊥
  no_receiver t at wait = let none = ((well_at s t (receivers id) q kept at wait (omega arith) here).receiver refl).0 in let both = sym held ∙ none in absurd (cc)

  out_keeps : first_asking s (senders id) ≡ None → IsKept (with_queue s id (record q { held = rest }))
  out_keeps none =
      write_keeps s id q (record q { held = rest }) kept here less_good refl no_receiver (λ t at wait. absurd (nobody s (senders id) q kept (omega arith) here none t at wait))

  in_keeps : (a : Ask) (b : List ℕ) → first_asking s (senders id) ≡ Some a → length b ≤ a.count → IsKept (with_queue (with_queue s id (record q { held = rest })) id (added a.urgent b (record q { held = rest })))
  in_keeps a b first short =
      let less : QueueState = record q { held = rest } in
      let y = added a.urgent b less in
      let is = (stuck s (senders id) a q kept (is_first s (senders id) a kept.kern first) (omega arith) here).sender refl in
      let count : length q.held ≡ length rest + 1 = ap length held ∙ omega arith in
      let good : IsQueue y = added_good a.urgent b less less_good (omega (arith, count, is.0)) (omega (arith, is.1, short)) in
      let full : length y.held ≡ y.max_msgs = omega (arith, length-added a.urgent b less, count, is.0) in
      subst (λ rs. IsKept (record s { queues = record s.queues { queues = rs } })) (sym (written_twice s.queues.queues id less y))
      (write_keeps s id q y kept here good refl no_receiver (λ t at wait. full))

taken_keeps : (s : Scene) (id : ℕ) (x : Receiving) (q : QueueState) (m : List ℕ) (rest : List (List ℕ)) → IsKept s → queue_of s id ≡ Some q → q.held ≡ m ∷ rest
    → lies_in (size_of s) x.buffer (min x.room q.max_len) ≡ true → IsKept (after_receive s id x (taken q m rest))
taken_keeps s id x q m rest kept here held there =
    let short : length m ≤ q.max_len = All-head (λ v. length v ≤ q.max_len) m rest (subst (All (λ v. length v ≤ q.max_len)) held (good_of s id q kept here).short) in
    let copied = stored s x.buffer (take x.room m) in
    let copied_kept : IsKept copied = kept_bytes s x.buffer (min x.room q.max_len) (take x.room m) kept there (omega (arith, length-take x.room m, short)) in
    let out = taken_out s id x q m rest in
    elim (first_asking s (senders id)) as (λ f. first_asking s (senders id) ≡ f → IsKept (refilled out id (record q { held = rest }) f)) [
      | None ↦ λ e. out_keeps copied id q m rest copied_kept here held e
      | Some a ↦ λ e.
          let b = waited_bytes out a in
          served_keeps (with_queue out id (added a.urgent b (record q { held = rest }))) a.who 0
          (in_keeps copied id q m rest copied_kept here held a b e (length-bytes_at out.ram a.buffer a.count))
    ] refl

pub receive_keeps : (s : Scene) (id : ℕ) (x : Receiving) → IsKept s → IsCaller s.kern (Some x.caller) → IsKept (after_receive s id x (receive_deed s id x))
receive_keeps s id x kept ready =
    elim (receive_deed s id x) as (λ d. ReceiveIs s id x d → IsKept (after_receive s id x d)) [
      | denied e ↦ λ is. kept
      | taken q m rest ↦ λ is. taken_keeps s id x q m rest kept is.0 is.1 is.2
      | starved q ↦ λ is.
          pend_keeps s (receive_ask id x) (not q.by_priority) x.timeout q ready.0 kept ready.1 ready.2 (positive x.timeout is.3)
          (record { side = omega arith; here = is.0; receiver = λ h. (is.1, is.2); sender = λ h. absurd (omega (arith, h)) })
    ] (receive_is s id x)

-- ---- queues are made and deleted
ids_below_at : (rs : List (ℕ × QueueState)) (next : ℕ) → IdsBelow next rs → All (λ n. n < next) (ids rs)
ids_below_at rs next below = All-map (λ n. n < next) (λ (r : ℕ × QueueState). r.0) rs below

pub created_keeps : (s : Scene) (y : QueueState) → IsKept s → IsQueue y → s.kern.next_id ≤ 1048576 → IsKept (created s y)
created_keeps s y kept good left =
    let n = s.kern.next_id in
    let rs = s.queues.queues in
    let qs : QueuesState = record s.queues { queues = rs ++ (n, y) ∷ [] } in
    record {
      kern = move_keeps s.kern (DrawIds (n + 1)) kept.kern (omega arith, omega (arith, left));
      rising = subst (λ ns. AllPairs (λ i j. i < j) ns) (sym (map-append (λ (r : ℕ × QueueState). r.0) rs ((n, y) ∷ [])))
          (all_pairs_push (λ i j. i < j) (ids rs) n kept.rising (ids_below_at rs n kept.ids));
      ids = All-push (λ (r : ℕ × QueueState). r.0 < n + 1) rs (n, y) (All-weaker (λ (r : ℕ × QueueState). r.0 < n) (λ (r : ℕ × QueueState). r.0 < n + 1) (λ r h. omega (arith, h)) rs kept.ids) (omega arith);
      sound = All-push (λ (r : ℕ × QueueState). IsQueue r.1) rs (n, y) kept.sound good;
      single = kept.single;
      well = each (WaitsWell (length s.ram) qs) s.kern.tasks (λ t at place q wait side there.
          let below : place.id < n = All-contains (WaitsForOld n) s.kern.tasks t kept.old_ids at place wait side in
          let same = added_other rs n place.id y (λ e. omega (arith, e, below)) in
          let is = All-contains (WaitsWell (length s.ram) s.queues) s.kern.tasks t kept.well at place q wait side (sym same ∙ there) in
          record { ask = is.ask; own = is.own; there = is.there; receiver = is.receiver; sender = is.sender });
      live = each (SendsToLive qs) s.kern.tasks (λ t at place wait side.
          let below : place.id < n = All-contains (WaitsForOld n) s.kern.tasks t kept.old_ids at place wait (omega (arith, side)) in
          subst (λ o. IsSome o) (sym (added_other rs n place.id y (λ e. omega (arith, e, below)))) (All-contains (SendsToLive s.queues) s.kern.tasks t kept.live at place wait side));
      old_ids = each (WaitsForOld (n + 1)) s.kern.tasks (λ t at place wait side. let below : place.id < n = All-contains (WaitsForOld n) s.kern.tasks t kept.old_ids at place wait side in omega (arith, below));
    }

-- the waits at a queue end
awakened_calm : (rs : List (ℕ × QueueState)) (k : KernState) (id : ℕ) → IsKern k → IsCalm rs k (awakened k id)
awakened_calm rs k id is =
    let wakes : Place → Move = λ place. WakeAll place 4294967295 (Some errors.ObjDeleted) in
    calm_series rs k (wakes (receivers id) ∷ wakes (senders id) ∷ []) is ((tt, tt), ((tt, tt), tt))

-- and no sender waits there any more
no_sender : (k : KernState) (id : ℕ) → IsKern k → (t : Task) → Contains (awakened k id).tasks t → t.wait ≡ Some (senders id) → ⊥
no_sender k id is t at wait =
    let half = wake_all k (receivers id) 4294967295 (Some errors.ObjDeleted) in
    let none = none_left half (end_waits_keep k (waiters k.tasks (receivers id)) 4294967295 (Some errors.ObjDeleted) is) (senders id) 4294967295 (Some errors.ObjDeleted) in
    let passes = All-contains (λ (u : Task). waits_at (senders id) u ≡ false) (awakened k id).tasks t (none_passes task_id waits_before waits_before-order (waits_at (senders id)) (awakened k id).tasks (ap (λ (ts : List Task). first ts) none)) at in
    let waits = waits_itself (senders id) t.wait wait in
    absurd (cc)

-- and the queue is removed
gone_keeps : (s : Scene) (id : ℕ) (o : Option QueueState) → IsKept s → IsKept (deleted s id o)
gone_keeps s id None kept = kept
gone_keeps s id (Some q) kept =
    let k = awakened s.kern id in
    let calm = awakened_calm s.queues.queues s.kern id kept.kern in
    let rs = without s.queues.queues id in
    let qs : QueuesState = record s.queues { queues = rs } in
    let mid : IsKept (record s { kern = k }) = calm_keeps s k s.ram kept calm refl in
    let stays : ℕ × QueueState → Bool = λ r. not (eqb r.0 id) in
    record {
      kern = mid.kern;
      rising = rises-without s.queues.queues id kept.rising;
      ids = All-filter stays (λ (r : ℕ × QueueState). r.0 < k.next_id) s.queues.queues mid.ids;
      sound = All-filter stays (λ (r : ℕ × QueueState). IsQueue r.1) s.queues.queues kept.sound;
      single = kept.single;
      well = each (WaitsWell (length s.ram) qs) k.tasks (λ t at place z wait side there.
          elim (eqb id place.id) as (λ b. eqb id place.id ≡ b → IsServable (length s.ram) s.queues.asks t place z) [
            | true ↦ λ e. let lost = sym (ap (object_of rs) (eqb-true id place.id e)) ∙ taken_same s.queues.queues id in absurd (cc)
            | false ↦ λ e. All-contains (WaitsWell (length s.ram) s.queues) k.tasks t mid.well at place z wait side (sym (taken_other s.queues.queues id place.id (eqb-false id place.id e)) ∙ there)
          ] refl);
      live = each (SendsToLive qs) k.tasks (λ t at place wait side.
          elim (eqb id place.id) as (λ b. eqb id place.id ≡ b → IsSome (object_of rs place.id)) [
            | true ↦ λ e. absurd (no_sender s.kern id kept.kern t at (wait ∙ place_is place 1 id side (eqb-true id place.id e)))
            | false ↦ λ e. subst (λ o. IsSome o) (sym (taken_other s.queues.queues id place.id (eqb-false id place.id e))) (All-contains (SendsToLive s.queues) k.tasks t mid.live at place wait side)
          ] refl);
      old_ids = mid.old_ids;
    }

-- ---- each step
pub keeps : KeptLaw
keeps s (sends id x) kept may = send_keeps s id x kept may
keeps s (receives id x) kept may = receive_keeps s id x kept may
keeps s (creates y) kept may = created_keeps s y kept may.0 may.2
keeps s (deletes id) kept may = gone_keeps s id (queue_of s id) kept
keeps s ticks kept may = calm_keeps s (tick s.kern) s.ram kept (calms s.queues.queues s.kern Tick kept.kern tt tt) refl
keeps s (others k ram) kept may = calm_keeps s k ram kept may.0 may.1

-- there are no queues, and no task waits
pub starts : StartLaw
starts k ram is none =
    let idle : (t : Task) (place : Place) → Contains k.tasks t → t.wait ≡ Some place → ⊥ =
    λ t place at here. let free = All-contains (λ (u : Task). u.wait ≡ None) k.tasks t none at in absurd (cc) in
    let qs : QueuesState = record { queues = []; asks = [] } in
    record {
      kern = is;
      rising = λ i j d hij hj. absurd (omega arith);
      ids = All-nil (λ (r : ℕ × QueueState). r.0 < k.next_id);
      sound = All-nil (λ (r : ℕ × QueueState). IsQueue r.1);
      single = λ i j d hij hj. absurd (omega arith);
      well = each (WaitsWell (length ram) qs) k.tasks (λ t at place q here side there. absurd (idle t place at here));
      live = each (SendsToLive qs) k.tasks (λ t at place here side. absurd (idle t place at here));
      old_ids = each (WaitsForOld k.next_id) k.tasks (λ t at place here side. absurd (idle t place at here));
    }

-- ---- a new queue
pub creates_keep : CreateLaw
creates_keep s max_msgs max_len options none kept =
    let live = length s.queues.queues in
    let next = s.kern.next_id in
    let three : Option Errno = cond (leb 256 live) (Some errors.TooMany) (ids_refusal next) in
    let first = passed (ltb 1 options) errors.InvalidOption (cond (not (is_size max_msgs max_len)) (Some errors.BadSize) three) none in
    let second = passed (not (is_size max_msgs max_len)) errors.BadSize three first.1 in
    let third = passed (leb 256 live) errors.TooMany (ids_refusal next) second.1 in
    let fourth = passed (ltb 1048576 next) errors.IdsSpent None third.1 in
    let size = not_false (is_size max_msgs max_len) second.0 in
    let some = leb-true 1 max_msgs (and_parts (leb 1 max_msgs) (leb max_msgs 4096 && (leb max_len 65536 && leb (max_msgs * max_len) 1048576)) size).0 in
    let left = ltb-false 1048576 next fourth.0 in
    created_keeps s (new_queue max_msgs max_len options) kept (record { some = omega (arith, some); fits = omega arith; short = All-nil (λ (m : List ℕ). length m ≤ max_len) }) (omega (arith, left))

-- a call that makes a queue, or changes nothing, keeps the invariant
pub made_keeps : (k l : KernState) (qs us : QueuesState) (max_msgs max_len options : ℕ) (r : Result ℕ MakeErr)
    → IfOk r (IsMade k l qs us max_msgs max_len options) → IfErr r (IsNotMade k l qs us max_msgs max_len options)
    → (ram : List ℕ) → IsKept (scene k qs ram) → IsKept (scene l us ram)
made_keeps k l qs us max_msgs max_len options (Ok id) ok err ram kept = subst IsKept (sym (ok.2 ram)) (creates_keep (scene k qs ram) max_msgs max_len options ok.0 kept)
made_keeps k l qs us max_msgs max_len options (Err e) ok err ram kept = subst IsKept (sym (ap₂ (λ m v. scene m v ram) err.0 err.1)) kept
