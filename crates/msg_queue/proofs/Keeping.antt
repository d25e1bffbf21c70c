-- What keeps the invariant: a calm move of the kernel, and a write of a queue that no task waits for.
use Rattle.std.proofs.Common.{◌≡◌, ℕ, ◌<◌, true, false, eqb, List, length, Option, Some, IsSome, refl, sym, ap, ◌∙◌, subst, arith, ⊎_elim}
use Rattle.std.specs.List.{Contains}
use Rattle.std.proofs.lemmas.Bool.{eqb-true, eqb-false}
use Rattle.std.proofs.lemmas.Option.{same_Some}
use Rattle.std.proofs.lemmas.List.Elements.{All-contains, All-weaker}
use Rattle.id_table.specs.declared.ident.Place.{Place}
use Rattle.id_table.specs.Rows.{object_of, with_object}
use Rattle.task_block.specs.declared.task.Task.{Task}
use Rattle.wind_core.specs.State.{KernState}
use Rattle.msg_queue.specs.declared.asks.Ask.{Ask}
use Rattle.id_table.proofs.Lookups.{All-write}
use Rattle.msg_queue.specs.State.{QueueState, Scene, queue_of, receivers, senders, ask_of, with_queue}
use Rattle.msg_queue.specs.Kept.{IsQueue, IsServable, WaitsWell, SendsToLive, WaitsForOld, IsKept, BeginsNone, IsCalm}
use Rattle.msg_queue.proofs.Tables.{written_same, written_other, rises-written}
use Rattle.msg_queue.proofs.Members.{each}

-- ---- the queues stay
servable_as : (size : ℕ) (asks : List Ask) (u t : Task) (place : Place) (q : QueueState) → u.id ≡ t.id → IsServable size asks u place q → IsServable size asks t place q
servable_as size asks u t place q id is = record { ask = is.ask; own = subst (λ n. ask_of asks n ≡ Some is.ask) id is.own; there = is.there; receiver = is.receiver; sender = is.sender }

pub calm_keeps : (s : Scene) (k : KernState) (ram : List ℕ) → IsKept s → IsCalm s.queues.queues s.kern k → length ram ≡ length s.ram → IsKept (record s { kern = k; ram = ram })
calm_keeps s k ram kept calm size =
    let still : (t : Task) → Contains k.tasks t → BeginsNone s.queues.queues s.kern k.next_id t = λ t at. All-contains (BeginsNone s.queues.queues s.kern k.next_id) k.tasks t calm.waits at in
    record {
      kern = calm.kern;
      rising = kept.rising;
      ids = All-weaker (λ (r : ℕ × QueueState). r.0 < s.kern.next_id) (λ (r : ℕ × QueueState). r.0 < k.next_id) (λ r h. omega (arith, h, calm.ids)) s.queues.queues kept.ids;
      sound = kept.sound;
      single = kept.single;
      well = each (WaitsWell (length ram) s.queues) k.tasks (λ t at place q here side there.
          ⊎_elim {C = IsServable (length ram) s.queues.asks t place q}
          (λ from.
          let is : IsServable (length ram) s.queues.asks from.0 place q =
          subst (λ n. IsServable n s.queues.asks from.0 place q) (sym size) (All-contains (WaitsWell (length s.ram) s.queues) s.kern.tasks from.0 kept.well from.1 place q from.3 side there) in
          servable_as (length ram) s.queues.asks from.0 t place q from.2 is)
          (λ other. let none = (other side).2 in absurd (cc)) (still t at place here));
      live = each (SendsToLive s.queues) k.tasks (λ t at place here side.
          ⊎_elim {C = IsSome (object_of s.queues.queues place.id)}
          (λ from. All-contains (SendsToLive s.queues) s.kern.tasks from.0 kept.live from.1 place from.3 side)
          (λ other. let zero_side = (other (omega (arith, side))).0 in absurd (omega (arith, side, zero_side))) (still t at place here));
      old_ids = each (WaitsForOld k.next_id) k.tasks (λ t at place here side.
          ⊎_elim {C = place.id < k.next_id}
          (λ from. let below = All-contains (WaitsForOld s.kern.next_id) s.kern.tasks from.0 kept.old_ids from.1 place from.3 side in omega (arith, below, calm.ids))
          (λ other. (other side).1) (still t at place here));
    }

-- ---- one queue is overwritten
pub place_is : (p : Place) (side id : ℕ) → p.side ≡ side → id ≡ p.id → ◌≡◌ {A = Option Place} (Some p) (Some (record { side = side; id = id }))
place_is p side id e f = ap {B = Option Place} (λ n. Some (record p { side = n })) e ∙ ap {B = Option Place} (λ n. Some (record { side = side; id = n })) (sym f)

pub write_keeps : (s : Scene) (id : ℕ) (q y : QueueState) → IsKept s → queue_of s id ≡ Some q → IsQueue y → y.max_len ≡ q.max_len
    → ((t : Task) → Contains s.kern.tasks t → t.wait ≡ Some (receivers id) → ⊥) → ((t : Task) → Contains s.kern.tasks t → t.wait ≡ Some (senders id) → length y.held ≡ y.max_msgs)
    → IsKept (with_queue s id y)
write_keeps s id q y kept here good long no_receiver full =
    let rs = s.queues.queues in
    record {
      kern = kept.kern;
      rising = rises-written rs id y kept.rising;
      ids = All-write (λ r. r.0 < s.kern.next_id) rs id y kept.ids (λ r h. h);
      sound = All-write (λ r. IsQueue r.1) rs id y kept.sound (λ r h. good);
      single = kept.single;
      well = each (WaitsWell (length s.ram) (record s.queues { queues = with_object rs id y })) s.kern.tasks (λ t at place z wait side there.
          let old = All-contains (WaitsWell (length s.ram) s.queues) s.kern.tasks t kept.well at place in
          elim (eqb id place.id) as (λ b. eqb id place.id ≡ b → IsServable (length s.ram) s.queues.asks t place z) [
            | true ↦ λ e.
                let same = eqb-true id place.id e in
                let was = old q wait side (subst (λ n. object_of rs n ≡ Some q) same here) in
                let is_y = same_Some y z (sym (written_same rs id q y here) ∙ ap (object_of (with_object rs id y)) same ∙ there) in
                subst (IsServable (length s.ram) s.queues.asks t place) is_y (record {
                  ask = was.ask;
                  own = was.own;
                  there = was.there;
                  receiver = λ side. absurd (no_receiver t at (wait ∙ place_is place 0 id side same));
                  sender = λ side. let is = was.sender side in (full t at (wait ∙ place_is place 1 id side same), omega (arith, is.1, long), is.2);
                })
            | false ↦ λ e. old z wait side (sym (written_other rs id place.id y (eqb-false id place.id e)) ∙ there)
          ] refl);
      live = each (SendsToLive (record s.queues { queues = with_object rs id y })) s.kern.tasks (λ t at place wait side.
          let old = All-contains (SendsToLive s.queues) s.kern.tasks t kept.live at place wait side in
          elim (eqb id place.id) as (λ b. eqb id place.id ≡ b → IsSome (object_of (with_object rs id y) place.id)) [
            | true ↦ λ e. subst (λ o. IsSome o) (sym (sym (ap (object_of (with_object rs id y)) (eqb-true id place.id e)) ∙ written_same rs id q y here)) refl
            | false ↦ λ e. subst (λ o. IsSome o) (sym (written_other rs id place.id y (eqb-false id place.id e))) old
          ] refl);
      old_ids = kept.old_ids;
    }
