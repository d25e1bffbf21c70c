-- A task begins to wait at a queue, with its request.
use Rattle.std.proofs.Common.{◌≡◌, ℕ, ◌<◌, ◌≤◌, Bool, true, false, not, ◌&&◌, cond, eqb, min, List, [], ◌∷◌, length, get_or, Option, None, Some, IsSome, is_none, refl, sym, ap, ◌∙◌, subst}
use Rattle.std.specs.List.{All, Contains, filter}
use Rattle.std.proofs.lemmas.Bool.{eqb-true, eqb-false, eq-eqb, and_parts}
use Rattle.std.proofs.lemmas.Option.{same_Some}
use Rattle.std.proofs.lemmas.List.Elements.{All-contains, All-weaker, filter_passes}
use Rattle.std.proofs.lemmas.List.Kept.{AllPairs-filter}
use Rattle.std.proofs.lemmas.List.Quantifiers.{all_pairs_push}
use Rattle.id_table.specs.Rows.{object_of}
use Rattle.id_table.specs.Sides.{object_side, senders_side}
use Rattle.id_table.specs.declared.ident.Place.{Place}
use Rattle.task_block.specs.declared.task.Task.{Task}
use Rattle.task_block.specs.Standing.{is_ready}
use Rattle.id_table.proofs.Records.{found_in}
use Rattle.wind_core.specs.State.{KernState, IsKern, task_id, task_of}
use Rattle.wind_core.specs.Orders.{is_place}
use Rattle.wind_core.specs.Moves.{renewed, wake_at, pended, pend}
use Rattle.wind_core.specs.Move.{Pend}
use Rattle.wind_core.proofs.Moving.{move_keeps}
use Rattle.msg_queue.specs.declared.asks.Ask.{Ask}
use Rattle.msg_queue.specs.State.{QueueState, QueuesState, Scene, queue_of, ask_of, lies_in, waits_there, counts, with_new_ask, waiting}
use Rattle.msg_queue.specs.Kept.{IsServable, AtObject, WaitsWell, SendsToLive, WaitsForOld, IsKept}
use Rattle.id_table.proofs.Lookups.{found_below}
use Rattle.msg_queue.proofs.Members.{each, contains_map, find_passes, find_kept, find_after}

pub waits_itself : (place : Place) (o : Option Place) → o ≡ Some place → is_place place o ≡ true
waits_itself place o e =
    ap (is_place place) e ∙ ap (λ b. b && eqb place.id place.id) (eq-eqb place.side place.side refl) ∙ eq-eqb place.id place.id refl

pub ready_waits : (t : Task) → is_ready t ≡ true → t.wait ≡ None
ready_waits t e = no_place t.wait (and_parts (is_none t.wait) (is_none t.wake && not t.suspended) e).0
  where
    no_place : (o : Option Place) → is_none o ≡ true → o ≡ None
    no_place None e = refl
    no_place (Some p) e = absurd (cc)

-- no valid request is of a task that doesn't wait
pub other_asks : (k : KernState) (asks : List Ask) (who : ℕ) (t : Task) → task_of k.tasks who ≡ Some t → t.wait ≡ None → All (λ a. eqb a.who who ≡ false) (filter (counts k) asks)
other_asks k asks who t here idle =
    All-weaker (λ a. counts k a ≡ true) (λ a. eqb a.who who ≡ false)
    (λ a waits.
    elim (eqb a.who who) as (λ b. eqb a.who who ≡ b → b ≡ false) [
      | true ↦ λ e.
          let lost : is_place a.place None ≡ true = ap (is_place a.place) (sym idle) ∙ ap (waits_there a.place) (sym (ap (task_of k.tasks) (eqb-true a.who who e) ∙ here)) ∙ waits in
          absurd (cc)
      | false ↦ λ e. refl
    ] refl)
    (filter (counts k) asks) (filter_passes (counts k) asks)

-- the request of a waiting task is valid
ask_counts : (k : KernState) (u : Task) (a : Ask) (place : Place) → IsKern k → Contains k.tasks u → u.wait ≡ Some place → a.who ≡ u.id → a.place ≡ place → counts k a ≡ true
ask_counts k u a place is at wait own there =
    ap (waits_there a.place) (ap (task_of k.tasks) own ∙ found_in task_id k.tasks u is.rising at) ∙ waits_itself a.place u.wait (wait ∙ ap {B = Option Place} (λ p. Some p) (sym there))

-- ---- the wait
-- a new wait at a queue that can't serve it
pub record WaitsAnew (s : Scene) (a : Ask) (q : QueueState) : Type 0 where
  pub side : AtObject a.place
  pub here : queue_of s a.place.id ≡ Some q
  pub receiver : a.place.side ≡ object_side → (q.held ≡ []) × (lies_in (length s.ram) a.buffer (min a.count q.max_len) ≡ true)
  pub sender : a.place.side ≡ senders_side → (length q.held ≡ q.max_msgs) × (a.count ≤ q.max_len) × (lies_in (length s.ram) a.buffer a.count ≡ true)

module _ (s : Scene) (a : Ask) (fifo : Bool) (n : ℕ) (q : QueueState) (t : Task) where
  pub pend_keeps : IsKept s → task_of s.kern.tasks a.who ≡ Some t → is_ready t ≡ true → 0 < n → WaitsAnew s a q → IsKept (waiting s a fifo n)
  pend_keeps kept here ready some anew =
      let k = s.kern in
      let wake = wake_at a.place.side k.tick n in
      let g : Task → Task = λ u. renewed k.next_since (pended a.place fifo wake u) in
      let others : All (λ b. eqb b.who a.who ≡ false) (filter (counts k) s.queues.asks) = other_asks k s.queues.asks a.who t here (ready_waits t ready) in
      let asks = with_new_ask k s.queues.asks a in
      let qs : QueuesState = record s.queues { asks = asks } in
      let who_is : (u : Task) → Contains (pend k a.who a.place fifo n).tasks u → (v : Task) × Contains k.tasks v × (u ≡ cond (eqb v.id a.who) (g v) v) = λ u at. contains_map (λ (v : Task). cond (eqb v.id a.who) (g v) v) k.tasks u at in
      record {
        kern = move_keeps k (Pend a.who a.place fifo n) kept.kern some;
        rising = kept.rising;
        ids = kept.ids;
        sound = kept.sound;
        single = all_pairs_push (λ b c. b.who ≡ c.who → ⊥) (filter (counts k) s.queues.asks) a (AllPairs-filter (λ b c. b.who ≡ c.who → ⊥) (counts k) s.queues.asks kept.single)
            (λ i d within same. let apart = eqb-false (get_or (filter (counts k) s.queues.asks) i d).who a.who (others i d within) in apart same);
        well = each (WaitsWell (length s.ram) qs) (pend k a.who a.place fifo n).tasks (λ u at place z wait side there.
            let v = who_is u at in
            elim (eqb v.0.id a.who) as (λ b. eqb v.0.id a.who ≡ b → u ≡ cond b (g v.0) v.0 → IsServable (length s.ram) asks u place z) [
              | true ↦ λ e is.
                  let at_place = same_Some a.place place (sym (ap (λ (w : Task). w.wait) is) ∙ wait) in
                  let is_q = same_Some q z (sym anew.here ∙ ap (λ (p : Place). object_of s.queues.queues p.id) at_place ∙ there) in
                  let own : u.id ≡ a.who = ap (λ (w : Task). w.id) is ∙ eqb-true v.0.id a.who e in
                  subst (λ p. IsServable (length s.ram) asks u p z) at_place
                  (subst (IsServable (length s.ram) asks u a.place) is_q (record {
                    ask = a;
                    own = ap (ask_of asks) own ∙ find_after (λ (b : Ask). eqb b.who a.who) (filter (counts k) s.queues.asks) a others (eq-eqb a.who a.who refl);
                    there = refl;
                    receiver = anew.receiver;
                    sender = anew.sender;
                  }))
              | false ↦ λ e is.
                  let was = All-contains (WaitsWell (length s.ram) s.queues) k.tasks v.0 kept.well v.1 place z (sym (ap (λ (w : Task). w.wait) is) ∙ wait) side there in
                  let own = eqb-true was.ask.who v.0.id (find_passes (λ (b : Ask). eqb b.who v.0.id) s.queues.asks was.ask was.own) in
                  let still = ask_counts k v.0 was.ask place kept.kern v.1 (sym (ap (λ (w : Task). w.wait) is) ∙ wait) own was.there in
                  record {
                    ask = was.ask;
                    own = ap (λ (w : Task). ask_of asks w.id) is ∙ find_kept (λ (b : Ask). eqb b.who v.0.id) (counts k) s.queues.asks (a ∷ []) was.ask was.own still;
                    there = was.there;
                    receiver = was.receiver;
                    sender = was.sender;
                  }
            ] refl v.2);
        live = each (SendsToLive qs) (pend k a.who a.place fifo n).tasks (λ u at place wait side.
            let v = who_is u at in
            elim (eqb v.0.id a.who) as (λ b. u ≡ cond b (g v.0) v.0 → IsSome (object_of s.queues.queues place.id)) [
              | true ↦ λ is.
                  let at_place = same_Some a.place place (sym (ap (λ (w : Task). w.wait) is) ∙ wait) in
                  subst (λ (p : Place). IsSome (object_of s.queues.queues p.id)) at_place (subst (λ o. IsSome o) (sym anew.here) refl)
              | false ↦ λ is. All-contains (SendsToLive s.queues) k.tasks v.0 kept.live v.1 place (sym (ap (λ (w : Task). w.wait) is) ∙ wait) side
            ] v.2);
        old_ids = each (WaitsForOld k.next_id) (pend k a.who a.place fifo n).tasks (λ u at place wait side.
            let v = who_is u at in
            elim (eqb v.0.id a.who) as (λ b. u ≡ cond b (g v.0) v.0 → place.id < k.next_id) [
              | true ↦ λ is.
                  let at_place = same_Some a.place place (sym (ap (λ (w : Task). w.wait) is) ∙ wait) in
                  subst (λ (p : Place). p.id < k.next_id) at_place (found_below s.queues.queues k.next_id a.place.id q kept.ids anew.here)
              | false ↦ λ is. All-contains (WaitsForOld k.next_id) k.tasks v.0 kept.old_ids v.1 place (sym (ap (λ (w : Task). w.wait) is) ∙ wait) side
            ] v.2);
      }
