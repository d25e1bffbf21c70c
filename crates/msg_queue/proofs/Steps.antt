-- A send keeps the invariant.
use Rattle.std.proofs.Common.{◌≡◌, ℕ, ◌+◌, ◌-◌, ◌<◌, ◌≤◌, Bool, true, false, not, cond, eqb, leb, min, List, [], ◌∷◌, ◌++◌, length, take, drop, Option, None, Some, refl, subst, arith, length-append, length-drop, ⊎_elim}
use Rattle.std.specs.List.{All, Contains}
use Rattle.std.proofs.lemmas.Bool.{eqb-true, leb-true, leb-false, or_cases}
use Rattle.std.proofs.lemmas.List.{length-take, length_push}
use Rattle.std.proofs.lemmas.List.Elements.{All-contains, All-cons, All-push}
use Rattle.id_table.specs.declared.ident.Place.{Place}
use Rattle.board_mem.specs.Memory.{with_bytes, bytes_at}
use Rattle.task_block.specs.declared.task.Task.{Task}
use Rattle.id_table.proofs.Passing.{none_passes, front_found, front_passes}
use Rattle.id_table.proofs.Records.{found_at}
use Rattle.wind_core.specs.State.{KernState, IsKern, task_id}
use Rattle.wind_core.specs.Orders.{waits_before, waits_at, first_waiter}
use Rattle.wind_core.specs.Moves.{end_wait}
use Rattle.wind_core.proofs.Passes.{waits_before-order}
use Rattle.msg_queue.specs.declared.asks.Ask.{Ask}
use Rattle.msg_queue.specs.declared.words.Sending.{Sending}
use Rattle.msg_queue.specs.State.{QueueState, Scene, queue_of, lies_in, is_full, added, receivers, senders, ask_of, asked_by, first_asking, with_queue, stored, served}
use Rattle.msg_queue.specs.Sends.{declined, passed_on, queued, blocked, send_deed, sent_bytes, handed, send_ask, after_send}
use Rattle.msg_queue.specs.Kept.{IsQueue, IsServable, AtObject, WaitsWell, IsKept, IsCaller}
use Rattle.id_table.proofs.Lookups.{found_has}
use Rattle.msg_queue.proofs.Deeds.{SendIs, send_is}
use Rattle.msg_queue.proofs.Calm.{calm_stays, calm_end_wait}
use Rattle.msg_queue.proofs.Keeping.{calm_keeps, write_keeps}
use Rattle.msg_queue.proofs.Waits.{waits_itself, pend_keeps}
use Rattle.msg_queue.proofs.Traffic.{waits_is, is_first, stuck}

-- ---- bytes in memory
pub length-with_bytes : (ram : List ℕ) (at n : ℕ) (bytes : List ℕ) → lies_in (length ram) at n ≡ true → length bytes ≤ n → length (with_bytes ram at bytes) ≡ length ram
length-with_bytes ram at n bytes there short =
    let front = length-take at ram in
    let back = length-drop (at + length bytes) ram in
    let whole : length (with_bytes ram at bytes) ≡ min at (length ram) + (length bytes + (length ram - (at + length bytes))) = simp (length-append, front, back) (omega arith) in
    ⊎_elim (λ none. let zero_n = eqb-true n 0 none in omega arith) (λ some. let fits = leb-true (at + n) (length ram) some in omega arith) (or_cases (eqb n 0) (leb (at + n) (length ram)) there)

pub length-bytes_at : (ram : List ℕ) (at n : ℕ) → length (bytes_at ram at n) ≤ n
length-bytes_at ram at n = omega (arith, length-take n (drop at ram))

pub kept_bytes : (s : Scene) (at n : ℕ) (bytes : List ℕ) → IsKept s → lies_in (length s.ram) at n ≡ true → length bytes ≤ n → IsKept (stored s at bytes)
kept_bytes s at n bytes kept there short =
    calm_keeps s s.kern (with_bytes s.ram at bytes) kept (calm_stays s.queues.queues s.kern kept.kern) (length-with_bytes s.ram at n bytes there short)

pub served_keeps : (s : Scene) (who answer : ℕ) → IsKept s → IsKept (served s who answer)
served_keeps s who answer kept = calm_keeps s (end_wait s.kern who answer None) s.ram kept (calm_end_wait s.queues.queues s.kern who answer None kept.kern) refl

pub good_of : (s : Scene) (id : ℕ) (q : QueueState) → IsKept s → queue_of s id ≡ Some q → IsQueue q
good_of s id q kept here = found_has IsQueue s.queues.queues id q kept.sound here

-- ---- which tasks wait at a queue
pub well_at : (s : Scene) (t : Task) (place : Place) (q : QueueState) → IsKept s → Contains s.kern.tasks t → t.wait ≡ Some place → AtObject place → queue_of s place.id ≡ Some q
    → IsServable (length s.ram) s.queues.asks t place q
well_at s t place q kept at wait side here = All-contains (WaitsWell (length s.ram) s.queues) s.kern.tasks t kept.well at place q wait side here

-- the first waiting task
pub front_of : (s : Scene) (place : Place) (f : Task) → IsKern s.kern → first_waiter s.kern.tasks place ≡ Some f → Contains s.kern.tasks f × (f.wait ≡ Some place)
front_of s place f is e = (
  found_at task_id s.kern.tasks f.id f (front_found task_id waits_before waits_before-order (waits_at place) s.kern.tasks f is.rising e),
  waits_is place f.wait (front_passes task_id waits_before waits_before-order (waits_at place) s.kern.tasks f e),
)

pub positive : (n : ℕ) → (n ≡ 0 → ⊥) → 0 < n
positive n h = omega arith

-- if there is no first request, no task waits
not_none : (o : Option Ask) (a : Ask) → o ≡ Some a → o ≡ None → ⊥
not_none None a e h = cc
not_none (Some b) a e h = cc

pub nobody : (s : Scene) (place : Place) (q : QueueState) → IsKept s → AtObject place → queue_of s place.id ≡ Some q → first_asking s place ≡ None → (t : Task) → Contains s.kern.tasks t → t.wait ≡ Some place → ⊥
nobody s place q kept side here none t at wait =
    elim (first_waiter s.kern.tasks place) as (λ o. first_waiter s.kern.tasks place ≡ o → asked_by s.queues.asks o ≡ None → ⊥) [
      | None ↦ λ e h.
          let passes = All-contains (λ (u : Task). waits_at place u ≡ false) s.kern.tasks t (none_passes task_id waits_before waits_before-order (waits_at place) s.kern.tasks e) at in
          let waits = waits_itself place t.wait wait in
          absurd (cc)
      | Some f ↦ λ e h.
          let first = front_of s place f kept.kern e in
          let is = well_at s f place q kept first.0 first.1 side here in
          not_none (ask_of s.queues.asks f.id) is.ask is.own h
    ] refl none

-- ---- a send
pub full_is : (q : QueueState) → IsQueue q → is_full q ≡ true → length q.held ≡ q.max_msgs
full_is q good e = omega (arith, good.fits, leb-true q.max_msgs (length q.held) e)

room_is : (q : QueueState) → is_full q ≡ false → length q.held < q.max_msgs
room_is q e = leb-false q.max_msgs (length q.held) e

pub length-added : (urgent : Bool) (m : List ℕ) (q : QueueState) → length (added urgent m q).held ≡ length q.held + 1
length-added urgent m q = elim urgent as (λ b. length (cond b (m ∷ q.held) (q.held ++ m ∷ [])) ≡ length q.held + 1) [ true ↦ omega arith | false ↦ length_push q.held m ]

pub added_good : (urgent : Bool) (m : List ℕ) (q : QueueState) → IsQueue q → length q.held < q.max_msgs → length m ≤ q.max_len → IsQueue (added urgent m q)
added_good urgent m q good room short = record {
  some = good.some;
  fits = omega (arith, length-added urgent m q);
  short = elim urgent as (λ b. All (λ v. length v ≤ q.max_len) (cond b (m ∷ q.held) (q.held ++ m ∷ []))) [
    | true ↦ All-cons (λ v. length v ≤ q.max_len) m q.held short good.short
    | false ↦ All-push (λ v. length v ≤ q.max_len) q.held m good.short short
  ];
}

pub handed_keeps : (s : Scene) (id : ℕ) (m : List ℕ) (a : Ask) (q : QueueState) → IsKept s → queue_of s id ≡ Some q → first_asking s (receivers id) ≡ Some a → length m ≤ q.max_len → IsKept (handed s m a)
handed_keeps s id m a q kept here first short =
    let is = stuck s (receivers id) a q kept (is_first s (receivers id) a kept.kern first) (omega arith) here in
    served_keeps (stored s a.buffer (take a.count m)) a.who (min (length m) a.count)
    (kept_bytes s a.buffer (min a.count q.max_len) (take a.count m) kept (is.receiver refl).1 (omega (arith, length-take a.count m, short)))

pub queued_keeps : (s : Scene) (id : ℕ) (m : List ℕ) (urgent : Bool) (q : QueueState) → IsKept s → queue_of s id ≡ Some q → first_asking s (receivers id) ≡ None → is_full q ≡ false → length m ≤ q.max_len
    → IsKept (with_queue s id (added urgent m q))
queued_keeps s id m urgent q kept here none room short =
    write_keeps s id q (added urgent m q) kept here (added_good urgent m q (good_of s id q kept here) (room_is q room) short) refl
    (nobody s (receivers id) q kept (omega arith) here none)
    (λ t at wait. let is = (well_at s t (senders id) q kept at wait (omega arith) here).sender refl in absurd (omega (arith, is.0, room_is q room)))

ready_caller : (k : KernState) (o : Option ℕ) (who : ℕ) → o ≡ Some who → IsCaller k o → IsCaller k (Some who)
ready_caller k o who e = subst (IsCaller k) e

pub send_keeps : (s : Scene) (id : ℕ) (x : Sending) → IsKept s → IsCaller s.kern x.caller → IsKept (after_send s id x (send_deed s id x))
send_keeps s id x kept ready =
    let m = sent_bytes s x in
    let long : length m ≤ x.count = length-bytes_at s.ram x.buffer x.count in
    elim (send_deed s id x) as (λ d. SendIs s id x d → IsKept (after_send s id x d)) [
      | declined e ↦ λ is. kept
      | passed_on a ↦ λ is. handed_keeps s id m a is.0 kept is.1 is.2 (omega (arith, long, is.3))
      | queued q ↦ λ is. queued_keeps s id m x.urgent q kept is.0 is.1 is.2 (omega (arith, long, is.3))
      | blocked who q ↦ λ is.
          let caller = ready_caller s.kern x.caller who is.1 ready in
          pend_keeps s (send_ask id who x) (not q.by_priority) x.timeout q caller.0 kept caller.1 caller.2 (positive x.timeout is.5)
          (record { side = omega arith; here = is.0; receiver = λ h. absurd (omega (arith, h)); sender = λ h. (full_is q (good_of s id q kept is.0) is.2, is.3, is.4) })
    ] (send_is s id x)
