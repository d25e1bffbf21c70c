-- What each step accepts and takes agrees with what the queues hold before and after it.
use Rattle.std.proofs.Common.{◌≡◌, ℕ, ◌≤◌, Bool, true, false, cond, eqb, List, [], ◌∷◌, ◌++◌, length, min, Option, None, Some, IsSome, refl, sym, ap, ◌∙◌, subst, arith}
use Rattle.std.proofs.lemmas.Bool.{eqb-true, eqb-false, and_parts}
use Rattle.std.specs.List.{Contains}
use Rattle.std.specs.List.Sorted.{IsPermutation}
use Rattle.std.proofs.lemmas.Option.{same_Some}
use Rattle.std.proofs.lemmas.List.{append-nil}
use Rattle.std.proofs.lemmas.List.Elements.{All-contains, All-head}
use Rattle.std.proofs.lemmas.List.Sorted.{IsPermutation-refl, IsPermutation-sym, IsPermutation-append_comm, IsPermutation-middle}
use Rattle.id_table.specs.Rows.{object_of, without}
use Rattle.id_table.specs.Sides.{object_side, senders_side}
use Rattle.id_table.specs.declared.ident.Place.{Place}
use Rattle.task_block.specs.declared.task.Task.{Task}
use Rattle.id_table.proofs.Passing.{front_found, front_passes}
use Rattle.id_table.proofs.Records.{found_at, found_in}
use Rattle.wind_core.specs.State.{IsKern, Lives, task_id}
use Rattle.wind_core.specs.Orders.{waits_before, waits_at, is_place, first_waiter}
use Rattle.wind_core.specs.Moves.{answered}
use Rattle.wind_core.proofs.Passes.{waits_before-order}
use Rattle.msg_queue.specs.declared.asks.Ask.{Ask}
use Rattle.msg_queue.specs.declared.words.Sending.{Sending}
use Rattle.msg_queue.specs.declared.words.Receiving.{Receiving}
use Rattle.msg_queue.specs.State.{QueueState, Scene, queue_of, lies_in, added, receivers, senders, ask_of, asked_by, first_asking, with_queue}
use Rattle.msg_queue.specs.Sends.{declined, passed_on, queued, blocked, send_deed, sent_bytes, after_send, handed}
use Rattle.msg_queue.specs.Receives.{denied, taken, starved, receive_deed, taken_out, waited_bytes, refilled, after_receive}
use Rattle.msg_queue.specs.Comings.{created, gone, deleted}
use Rattle.msg_queue.specs.Kept.{IsKept, AtObject, WaitsWell}
use Rattle.msg_queue.specs.Machine.{Parcel, contents, AllPlain, accepted_by_send, taken_by_send, refilled_with, accepted_by_receive, taken_by_receive, Event, sends, receives, creates, deletes, ticks, others, after_event, of_queue, accepted_by, taken_by, IsAllowed}
use Rattle.msg_queue.specs.Laws.{Stock, IsBalanced}
use Rattle.msg_queue.proofs.Tables.{not_live, written_same, written_other, taken_same, taken_other, added_other, added_same}
use Rattle.msg_queue.proofs.Members.{find_passes}
use Rattle.msg_queue.proofs.Deeds.{SendIs, send_is, ReceiveIs, receive_is}
use Rattle.wind_core.proofs.NextId.{next-move, next-tick}
use Rattle.msg_queue.proofs.Calm.{next-awakened}

abbrev pub stock : Scene → Stock
stock s = record { queues = s.queues.queues; next_id = s.kern.next_id }

-- ---- which queue

pub of_none : {X : Type 0} (id q : ℕ) → of_queue {X = X} id q [] ≡ []
of_none {X} id q = elim (eqb id q) as (λ b. ◌≡◌ {A = List X} (cond b [] []) []) [ true ↦ refl | false ↦ refl ]

-- only the queue with one id changes, by what was added and taken
pub balanced_at : (s t : Stock) (id : ℕ) (x y : QueueState) (ps : List Parcel) (ms : List (List ℕ)) → object_of s.queues id ≡ Some x → object_of t.queues id ≡ Some y
    → ((q : ℕ) → (id ≡ q → ⊥) → object_of t.queues q ≡ object_of s.queues q) → IsPermutation (contents ps ++ x.held) (ms ++ y.held) → (AllPlain ps → x.held ++ contents ps ≡ ms ++ y.held)
    → s.next_id ≤ t.next_id → IsBalanced s t (λ q. of_queue id q ps) (λ q. of_queue id q ms)
balanced_at s t id x y ps ms before later other same order ids = record {
  born = λ q v here none.
      elim (eqb id q) as (λ b. eqb id q ≡ b → (s.next_id ≤ q) × (v.held ≡ [])) [
        | true ↦ λ e. let there : object_of s.queues q ≡ Some x = subst (λ n. object_of s.queues n ≡ Some x) (eqb-true id q e) before in absurd (cc)
        | false ↦ λ e. let there = other q (eqb-false id q e) in absurd (cc)
      ] refl;
  idle = λ q none.
      elim (eqb id q) as (λ b. eqb id q ≡ b → (cond b ps [] ≡ []) × (cond b ms [] ≡ [])) [
        | true ↦ λ e. let there : object_of s.queues q ≡ Some x = subst (λ n. object_of s.queues n ≡ Some x) (eqb-true id q e) before in absurd (cc)
        | false ↦ λ e. (refl, refl)
      ] refl;
  stays = λ q u v first second.
      elim (eqb id q) as (λ b. eqb id q ≡ b → IsPermutation (contents (cond b ps []) ++ u.held) (cond b ms [] ++ v.held)) [
        | true ↦ λ e.
            let is_x = same_Some x u (sym before ∙ ap (object_of s.queues) (eqb-true id q e) ∙ first) in
            let is_y = same_Some y v (sym later ∙ ap (object_of t.queues) (eqb-true id q e) ∙ second) in
            subst (λ w. IsPermutation (contents ps ++ w.held) (ms ++ v.held)) is_x (subst (λ w. IsPermutation (contents ps ++ x.held) (ms ++ w.held)) is_y same)
        | false ↦ λ e.
            let is_u = same_Some u v (sym first ∙ sym (other q (eqb-false id q e)) ∙ second) in
            subst (λ w. IsPermutation u.held w.held) is_u (IsPermutation-refl u.held)
      ] refl;
  in_order = λ q u v first second.
      elim (eqb id q) as (λ b. eqb id q ≡ b → AllPlain (cond b ps []) → u.held ++ contents (cond b ps []) ≡ cond b ms [] ++ v.held) [
        | true ↦ λ e plain.
            let is_x = same_Some x u (sym before ∙ ap (object_of s.queues) (eqb-true id q e) ∙ first) in
            let is_y = same_Some y v (sym later ∙ ap (object_of t.queues) (eqb-true id q e) ∙ second) in
            ap (λ (w : QueueState). w.held ++ contents ps) (sym is_x) ∙ order plain ∙ ap (λ (w : QueueState). ms ++ w.held) is_y
        | false ↦ λ e plain.
            let is_u = same_Some u v (sym first ∙ sym (other q (eqb-false id q e)) ∙ second) in
            append-nil u.held ∙ ap (λ (w : QueueState). w.held) is_u
      ] refl;
  ids = ids;
}

-- nothing is added or taken, and each queue afterwards existed before, or is new and empty
pub balanced_quiet : (s t : Stock) (accepts : ℕ → List Parcel) (takes : ℕ → List (List ℕ)) → ((q : ℕ) → accepts q ≡ []) → ((q : ℕ) → takes q ≡ [])
    → ((q : ℕ) (y : QueueState) → object_of t.queues q ≡ Some y → object_of s.queues q ≡ None → (s.next_id ≤ q) × (y.held ≡ []))
    → ((q : ℕ) (x y : QueueState) → object_of s.queues q ≡ Some x → object_of t.queues q ≡ Some y → x ≡ y) → s.next_id ≤ t.next_id → IsBalanced s t accepts takes
balanced_quiet s t accepts takes no_in no_out fresh stays ids = record {
  born = fresh;
  idle = λ q none. (no_in q, no_out q);
  stays = λ q x y first second.
      rw (no_in q, no_out q) (subst (λ v. IsPermutation x.held v.held) (stays q x y first second) (IsPermutation-refl x.held));
  in_order = λ q x y first second plain.
      ap (λ ps. x.held ++ contents ps) (no_in q) ∙ append-nil x.held ∙ ap (λ (v : QueueState). v.held) (stays q x y first second) ∙ ap (λ ms. ms ++ y.held) (sym (no_out q));
  ids = ids;
}

-- the queues are the same
pub balanced_still : (s t : Stock) (accepts : ℕ → List Parcel) (takes : ℕ → List (List ℕ)) → ((q : ℕ) → accepts q ≡ []) → ((q : ℕ) → takes q ≡ []) → t.queues ≡ s.queues → s.next_id ≤ t.next_id
    → IsBalanced s t accepts takes
balanced_still s t accepts takes no_in no_out same ids =
    balanced_quiet s t accepts takes no_in no_out
    (λ q y here none. let there = sym (ap (λ rs. object_of rs q) same) ∙ here in absurd (cc))
    (λ q x y first second. same_Some x y (sym first ∙ ap (λ rs. object_of rs q) (sym same) ∙ second))
    ids

-- ---- which tasks wait
pub waits_is : (place : Place) (o : Option Place) → is_place place o ≡ true → o ≡ Some place
waits_is place None e = absurd (cc)
waits_is place (Some p) e =
    let both = and_parts (eqb p.side place.side) (eqb p.id place.id) e in
    let side = eqb-true p.side place.side both.0 in
    let id = eqb-true p.id place.id both.1 in
    ap {B = Option Place} (λ n. Some (record p { side = n })) side ∙ ap {B = Option Place} (λ n. Some (record place { id = n })) id

-- the first task that waits at a place, with its request
pub record IsFirst (s : Scene) (place : Place) (a : Ask) : Type 0 where
  pub task : Task
  pub there : Contains s.kern.tasks task
  pub wait : task.wait ≡ Some place
  pub own : ask_of s.queues.asks task.id ≡ Some a
  pub same : a.who ≡ task.id

asked_is : (asks : List Ask) (o : Option Task) (a : Ask) → asked_by asks o ≡ Some a → (t : Task) × (o ≡ Some t) × (ask_of asks t.id ≡ Some a)
asked_is asks None a e = absurd (cc)
asked_is asks (Some t) a e = (t, refl, e)

pub is_first : (s : Scene) (place : Place) (a : Ask) → IsKern s.kern → first_asking s place ≡ Some a → IsFirst s place a
is_first s place a kern e =
    let is = asked_is s.queues.asks (first_waiter s.kern.tasks place) a e in
    record {
      task = is.0;
      there = found_at task_id s.kern.tasks is.0.id is.0 (front_found task_id waits_before waits_before-order (waits_at place) s.kern.tasks is.0 kern.rising is.1);
      wait = waits_is place is.0.wait (front_passes task_id waits_before waits_before-order (waits_at place) s.kern.tasks is.0 is.1);
      own = is.2;
      same = eqb-true a.who is.0.id (find_passes (λ (b : Ask). eqb b.who is.0.id) s.queues.asks a is.2);
    }

-- its task is live
pub first_lives : (s : Scene) (place : Place) (a : Ask) → IsKern s.kern → IsFirst s place a → Lives s.kern a.who
first_lives s place a kern first =
    subst (Lives s.kern) (sym first.same) (subst (λ o. IsSome o) (sym (found_in task_id s.kern.tasks first.task kern.rising first.there)) refl)

-- a first task with this request, at a queue that can't serve it
pub record IsStuck (s : Scene) (place : Place) (a : Ask) (q : QueueState) : Type 0 where
  pub receiver : place.side ≡ object_side → (q.held ≡ []) × (lies_in (length s.ram) a.buffer (min a.count q.max_len) ≡ true)
  pub sender : place.side ≡ senders_side → (length q.held ≡ q.max_msgs) × (a.count ≤ q.max_len) × (lies_in (length s.ram) a.buffer a.count ≡ true)

-- it can't be served by the queue that it waits for
pub stuck : (s : Scene) (place : Place) (a : Ask) (q : QueueState) → IsKept s → IsFirst s place a → AtObject place → queue_of s place.id ≡ Some q → IsStuck s place a q
stuck s place a q kept first side here =
    let is = All-contains (WaitsWell (length s.ram) s.queues) s.kern.tasks first.task kept.well first.there place q first.wait side here in
    subst (λ b. IsStuck s place b q) (same_Some is.ask a (sym is.own ∙ first.own)) (record { receiver = is.receiver; sender = is.sender })

pub empty_queue : (s : Scene) (id : ℕ) (a : Ask) (q : QueueState) → IsKept s → first_asking s (receivers id) ≡ Some a → queue_of s id ≡ Some q → q.held ≡ []
empty_queue s id a q kept e here = ((stuck s (receivers id) a q kept (is_first s (receivers id) a kept.kern e) (omega arith) here).receiver refl).0

-- ---- a send
added_same_count : (urgent : Bool) (m : List ℕ) (held : List (List ℕ)) → IsPermutation (m ∷ held) (cond urgent (m ∷ held) (held ++ m ∷ []))
added_same_count urgent m held =
    elim urgent as (λ b. IsPermutation (m ∷ held) (cond b (m ∷ held) (held ++ m ∷ []))) [ true ↦ IsPermutation-refl (m ∷ held) | false ↦ IsPermutation-append_comm (m ∷ []) held ]

added_in_order : (urgent : Bool) (m : List ℕ) (held : List (List ℕ)) → AllPlain (record { bytes = m; urgent = urgent } ∷ []) → held ++ m ∷ [] ≡ cond urgent (m ∷ held) (held ++ m ∷ [])
added_in_order urgent m held plain =
    ap (λ b. cond b (m ∷ held) (held ++ m ∷ [])) (sym (All-head (λ p. p.urgent ≡ false) (record { bytes = m; urgent = urgent }) [] plain))

pub balanced_send : (s : Scene) (id : ℕ) (x : Sending) → IsKept s
    → IsBalanced (stock s) (stock (after_send s id x (send_deed s id x))) (λ q. of_queue id q (accepted_by_send s x (send_deed s id x))) (λ q. of_queue id q (taken_by_send s x (send_deed s id x)))
balanced_send s id x kept =
    let m = sent_bytes s x in
    elim (send_deed s id x) as (λ d. SendIs s id x d → IsBalanced (stock s) (stock (after_send s id x d)) (λ q. of_queue id q (accepted_by_send s x d)) (λ q. of_queue id q (taken_by_send s x d))) [
      | declined e ↦ λ is. balanced_still (stock s) (stock s) (λ q. of_queue id q []) (λ q. of_queue id q []) (of_none id) (of_none id) refl (omega arith)
      | passed_on a ↦ λ is.
          let q = is.0 in
          let none = empty_queue s id a q kept is.2 is.1 in
          let after = handed s m a in
          balanced_at (stock s) (stock after) id q q (record { bytes = m; urgent = x.urgent } ∷ []) (m ∷ []) is.1 is.1 (λ v ne. refl) (IsPermutation-refl (m ∷ q.held))
          (λ plain. ap (λ h. h ++ m ∷ []) none ∙ ap (λ h. m ∷ h) (sym none)) (omega (arith, next-move s.kern a.who (answered (min (length m) a.count) None)))
      | queued q ↦ λ is.
          let y = added x.urgent m q in
          balanced_at (stock s) (stock (with_queue s id y)) id q y (record { bytes = m; urgent = x.urgent } ∷ []) [] is.0 (written_same s.queues.queues id q y is.0)
          (λ v ne. written_other s.queues.queues id v y ne) (added_same_count x.urgent m q.held) (added_in_order x.urgent m q.held) (omega arith)
      | blocked who q ↦ λ is. balanced_still (stock s) (stock (after_send s id x (blocked who q))) (λ q. of_queue id q []) (λ q. of_queue id q []) (of_none id) (of_none id) refl (omega arith)
    ] (send_is s id x)

-- ---- a receive
refilled_count : (urgent : Bool) (m b : List ℕ) (rest : List (List ℕ)) → IsPermutation (b ∷ m ∷ rest) (m ∷ cond urgent (b ∷ rest) (rest ++ b ∷ []))
refilled_count urgent m b rest =
    elim urgent as (λ v. IsPermutation (b ∷ m ∷ rest) (m ∷ cond v (b ∷ rest) (rest ++ b ∷ []))) [
      | true ↦ IsPermutation-sym (m ∷ b ∷ rest) (b ∷ m ∷ rest) (IsPermutation-middle (m ∷ []) b rest)
      | false ↦ IsPermutation-append_comm (b ∷ []) (m ∷ rest)
    ]

balanced_taken : (s : Scene) (id : ℕ) (x : Receiving) (q : QueueState) (m : List ℕ) (rest : List (List ℕ)) (f : Option Ask) → queue_of s id ≡ Some q → q.held ≡ m ∷ rest
    → IsBalanced (stock s) (stock (refilled (taken_out s id x q m rest) id (record q { held = rest }) f)) (λ v. of_queue id v (refilled_with (taken_out s id x q m rest) f)) (λ v. of_queue id v (m ∷ []))
balanced_taken s id x q m rest None here is =
    let y : QueueState = record q { held = rest } in
    balanced_at (stock s) (stock (taken_out s id x q m rest)) id q y [] (m ∷ []) here (written_same s.queues.queues id q y here) (λ v ne. written_other s.queues.queues id v y ne)
    (subst (λ h. IsPermutation h (m ∷ rest)) (sym is) (IsPermutation-refl (m ∷ rest))) (λ plain. append-nil q.held ∙ is) (omega arith)
balanced_taken s id x q m rest (Some a) here is =
    let less : QueueState = record q { held = rest } in
    let out = taken_out s id x q m rest in
    let b = waited_bytes out a in
    let y = added a.urgent b less in
    let after = refilled out id less (Some a) in
    balanced_at (stock s) (stock after) id q y (record { bytes = b; urgent = a.urgent } ∷ []) (m ∷ []) here
    (written_same out.queues.queues id less y (written_same s.queues.queues id q less here))
    (λ v ne. written_other out.queues.queues id v y ne ∙ written_other s.queues.queues id v less ne)
    (subst (λ h. IsPermutation (b ∷ h) (m ∷ y.held)) (sym is) (refilled_count a.urgent m b rest))
    (λ plain. ap (λ h. h ++ b ∷ []) is ∙ ap (λ h. m ∷ h) (added_in_order a.urgent b rest plain))
    (omega (arith, next-move s.kern a.who (answered 0 None)))

pub balanced_receive : (s : Scene) (id : ℕ) (x : Receiving) → IsKept s
    → IsBalanced (stock s) (stock (after_receive s id x (receive_deed s id x))) (λ q. of_queue id q (accepted_by_receive s id x (receive_deed s id x))) (λ q. of_queue id q (taken_by_receive (receive_deed s id x)))
balanced_receive s id x kept =
    elim (receive_deed s id x) as (λ d. ReceiveIs s id x d → IsBalanced (stock s) (stock (after_receive s id x d)) (λ q. of_queue id q (accepted_by_receive s id x d)) (λ q. of_queue id q (taken_by_receive d))) [
      | denied e ↦ λ is. balanced_still (stock s) (stock s) (λ q. of_queue id q []) (λ q. of_queue id q []) (of_none id) (of_none id) refl (omega arith)
      | taken q m rest ↦ λ is. balanced_taken s id x q m rest (first_asking s (senders id)) is.0 is.1
      | starved q ↦ λ is. balanced_still (stock s) (stock (after_receive s id x (starved q))) (λ q. of_queue id q []) (λ q. of_queue id q []) (of_none id) (of_none id) refl (omega arith)
    ] (receive_is s id x)

-- ---- queues are made and deleted
pub balanced_create : (s : Scene) (y : QueueState) → IsKept s → y.held ≡ [] → IsBalanced (stock s) (stock (created s y)) (λ q. []) (λ q. [])
balanced_create s y kept none =
    let n = s.kern.next_id in
    let rs = s.queues.queues in
    let fresh : object_of rs n ≡ None = not_live rs n n kept.ids (omega arith) in
    balanced_quiet (stock s) (stock (created s y)) (λ q. []) (λ q. []) (λ q. refl) (λ q. refl)
    (λ q z here gone.
    elim (eqb n q) as (λ b. eqb n q ≡ b → (n ≤ q) × (z.held ≡ [])) [
      | true ↦ λ e.
          let same = eqb-true n q e in
          let is_y = same_Some y z (sym (added_same rs n y fresh) ∙ ap (object_of (rs ++ (n, y) ∷ [])) same ∙ here) in
          (omega (arith, same), ap (λ (v : QueueState). v.held) (sym is_y) ∙ none)
      | false ↦ λ e. let there = added_other rs n q y (eqb-false n q e) in absurd (cc)
    ] refl)
    (λ q u v first second.
    elim (eqb n q) as (λ b. eqb n q ≡ b → u ≡ v) [
      | true ↦ λ e. let there = sym (ap (object_of rs) (eqb-true n q e)) ∙ fresh in absurd (cc)
      | false ↦ λ e. same_Some u v (sym first ∙ sym (added_other rs n q y (eqb-false n q e)) ∙ second)
    ] refl)
    (omega arith)

pub balanced_gone : (s : Scene) (id : ℕ) (o : Option QueueState) → IsBalanced (stock s) (stock (deleted s id o)) (λ q. []) (λ q. [])
balanced_gone s id None = balanced_still (stock s) (stock s) (λ q. []) (λ q. []) (λ q. refl) (λ q. refl) refl (omega arith)
balanced_gone s id (Some x) =
    let rs = s.queues.queues in
    balanced_quiet (stock s) (stock (gone s id)) (λ q. []) (λ q. []) (λ q. refl) (λ q. refl)
    (λ q y here none.
    elim (eqb id q) as (λ b. eqb id q ≡ b → (s.kern.next_id ≤ q) × (y.held ≡ [])) [
      | true ↦ λ e. let lost = sym (ap (object_of (without rs id)) (eqb-true id q e)) ∙ taken_same rs id in absurd (cc)
      | false ↦ λ e. let there = taken_other rs id q (eqb-false id q e) in absurd (cc)
    ] refl)
    (λ q u v first second.
    elim (eqb id q) as (λ b. eqb id q ≡ b → u ≡ v) [
      | true ↦ λ e. let lost = sym (ap (object_of (without rs id)) (eqb-true id q e)) ∙ taken_same rs id in absurd (cc)
      | false ↦ λ e. same_Some u v (sym first ∙ sym (taken_other rs id q (eqb-false id q e)) ∙ second)
    ] refl)
    (omega (arith, next-awakened s.kern id))

-- ---- each step
pub balanced : (s : Scene) (e : Event) → IsKept s → IsAllowed s e → IsBalanced (stock s) (stock (after_event s e)) (accepted_by s e) (taken_by s e)
balanced s (sends id x) kept may = balanced_send s id x kept
balanced s (receives id x) kept may = balanced_receive s id x kept
balanced s (creates y) kept may = balanced_create s y kept may.1
balanced s (deletes id) kept may = balanced_gone s id (queue_of s id)
balanced s ticks kept may = balanced_still (stock s) (stock (after_event s ticks)) (λ q. []) (λ q. []) (λ q. refl) (λ q. refl) refl (omega (arith, next-tick s.kern))
balanced s (others k ram) kept may = balanced_still (stock s) (stock (after_event s (others k ram))) (λ q. []) (λ q. []) (λ q. refl) (λ q. refl) refl may.0.ids
