-- The code of a send, compared with what a send will do.
use Rattle.std.proofs.Common.{◌≡◌, ℕ, ◌+◌, ◌-◌, ◌<◌, ◌≤◌, Bool, true, false, not, eqb, leb, min, List, length, take, drop, None, Some, IsSome, Ok, Err, refl, sym, ap, ap₂, ◌∙◌, subst, arith, length-drop, ⊎_elim}
use Rattle.std.specs.List.{filter}
use Rattle.std.proofs.lemmas.Bool.{eqb-true, leb-true, le-leb, or_cases, or_left, or_right, eq-eqb}
use Rattle.std.proofs.lemmas.List.{length-take}
use Rattle.std.proofs.lemmas.Option.{same_Some}
use Rattle.wind_base.specs.declared.errno.Errno.{Errno}
use Rattle.id_table.specs.Rows.{object_of, with_object}
use Rattle.board_mem.specs.Memory.{with_bytes, bytes_at}
use Rattle.wind_core.specs.State.{KernState, Lives}
use Rattle.wind_core.specs.Moves.{pend, end_wait}
use Rattle.msg_queue.specs.declared.asks.Ask.{Ask}
use Rattle.msg_queue.specs.declared.plans.SendPlan.TheVariants as plan
use Rattle.msg_queue.specs.declared.words.Sending.{Sending}
use Rattle.wind_core.specs.declared.took.Took.TheVariants as took
use Rattle.msg_queue.specs.State.{QueueState, QueuesState, Scene, scene, queue_of, lies_in, size_of, is_full, added, receivers, first_asking, counts, with_new_ask, waiting}
use Rattle.msg_queue.specs.Sends.{SendDeed, declined, passed_on, queued, blocked, send_deed, send_ask, after_send, send, send_answer}
use Rattle.msg_queue.specs.Inside.{send_plan}
use Rattle.msg_queue.specs.Kept.{IsKept, IsCaller}
use Rattle.msg_queue.proofs.Deeds.{SendIs, send_is}
use Rattle.msg_queue.proofs.Traffic.{is_first, first_lives, stuck}
use Rattle.msg_queue.proofs.Steps.{positive}
use Rattle.msg_queue.proofs.Room.{room}

-- ---- which deed
module _ (id : ℕ) (x : Sending) where
  declined_arm : (d : SendDeed) (e : Errno) → plan.Declined e ≡ send_plan id x d → d ≡ declined e
  declined_arm (declined f) e h = let same : f ≡ e = cc in ap declined same
  declined_arm (passed_on a) e h = absurd (cc)
  declined_arm (queued q) e h = absurd (cc)
  declined_arm (blocked who q) e h = absurd (cc)

  passed_arm : (d : SendDeed) (a : Ask) → plan.PassedOn a ≡ send_plan id x d → d ≡ passed_on a
  passed_arm (declined f) a h = absurd (cc)
  passed_arm (passed_on b) a h = let same : b ≡ a = cc in ap passed_on same
  passed_arm (queued q) a h = absurd (cc)
  passed_arm (blocked who q) a h = absurd (cc)

  queued_arm : (d : SendDeed) (at : ℕ) → plan.Queued at ≡ send_plan id x d → (q : QueueState) × (d ≡ queued q) × (at ≡ id)
  queued_arm (declined f) at h = absurd (cc)
  queued_arm (passed_on a) at h = absurd (cc)
  queued_arm (queued q) at h = (q, refl, cc)
  queued_arm (blocked who q) at h = absurd (cc)

  -- the caller that waits, and its queue
  record Waits (d : SendDeed) (a : Ask) (b : Bool) : Type 0 where
    who : ℕ
    queue : QueueState
    deed : d ≡ blocked who queue
    ask : a ≡ send_ask id who x
    fifo : b ≡ not queue.by_priority

  blocked_arm : (d : SendDeed) (a : Ask) (b : Bool) → plan.Blocked a b ≡ send_plan id x d → Waits d a b
  blocked_arm (declined f) a b h = absurd (cc)
  blocked_arm (passed_on c) a b h = absurd (cc)
  blocked_arm (queued q) a b h = absurd (cc)
  blocked_arm (blocked who q) a b h = record { who = who; queue = q; deed = refl; ask = cc; fifo = cc }

-- ---- bytes in memory
pub lies_less : (size at n m : ℕ) → m ≤ n → lies_in size at n ≡ true → lies_in size at m ≡ true
lies_less size at n m less e =
    ⊎_elim (λ none. or_left (eqb m 0) (leb (at + m) size) (let zero_n = eqb-true n 0 none in eq-eqb m 0 (omega arith)))
    (λ fits. let within = leb-true (at + n) size fits in or_right (eqb m 0) (leb (at + m) size) (le-leb (at + m) size (omega arith))) (or_cases (eqb n 0) (leb (at + n) size) e)

pub length-there : (ram : List ℕ) (at n : ℕ) → lies_in (length ram) at n ≡ true → length (bytes_at ram at n) ≡ n
length-there ram at n e =
    let count : length (bytes_at ram at n) ≡ min n (length (drop at ram)) = length-take n (drop at ram) in
    let left : length (drop at ram) ≡ length ram - at = length-drop at ram in
    ⊎_elim (λ none. let zero_n = eqb-true n 0 none in omega arith) (λ fits. let within = leb-true (at + n) (length ram) fits in omega arith) (or_cases (eqb n 0) (leb (at + n) (length ram)) e)

-- ---- a wait
-- the task's request is added, and its wait begins
abbrev pub BeginsWait : Scene → Ask → Bool → ℕ → KernState → QueuesState → Type 0
BeginsWait s a fifo n k qs = (qs ≡ record s.queues { asks = with_new_ask s.kern s.queues.asks a }) × (k ≡ pend s.kern a.who a.place fifo n)

pub wait_begun : (s : Scene) (a b : Ask) (fifo order : Bool) (n : ℕ) (k : KernState) (qs : QueuesState) → a ≡ b → fifo ≡ order → BeginsWait s a fifo n k qs
    → scene k qs s.ram ≡ waiting s b order n
wait_begun s a b fifo order n k qs ask same begins =
    ap₂ (λ l r. scene l r s.ram) begins.1 begins.0
    ∙ ap₂ (λ c v. waiting s c v n) ask same

-- ---- a send
module _ (s : Scene) (id : ℕ) (x : Sending) where
  is_at : (d : SendDeed) → send_deed s id x ≡ d → SendIs s id x d
  is_at d e = subst (SendIs s id x) e (send_is s id x)

  pub sent_declined : (e : Errno) → plan.Declined e ≡ send_plan id x (send_deed s id x) → s ≡ send s id x
  sent_declined e h = sym (ap (after_send s id x) (declined_arm id x (send_deed s id x) e h))

  pub answer_declined : (e : Errno) → plan.Declined e ≡ send_plan id x (send_deed s id x) → Err e ≡ send_answer (send_deed s id x)
  answer_declined e h = sym (ap send_answer (declined_arm id x (send_deed s id x) e h))

  module _ (a : Ask) (h : plan.PassedOn a ≡ send_plan id x (send_deed s id x)) where
    to : send_deed s id x ≡ passed_on a
    to = passed_arm id x (send_deed s id x) a h

    is : (q : QueueState) × (queue_of s id ≡ Some q) × (first_asking s (receivers id) ≡ Some a) × (x.count ≤ q.max_len) × (lies_in (size_of s) x.buffer x.count ≡ true)
    is = is_at (passed_on a) to

    pub sent_passed : (k : KernState) (ram : List ℕ) → k ≡ end_wait s.kern a.who (min x.count a.count) None → ram ≡ with_bytes s.ram a.buffer (take a.count (bytes_at s.ram x.buffer x.count))
        → scene k s.queues ram ≡ send s id x
    sent_passed k ram e f =
        ap₂ (λ l r. scene l s.queues r) (e ∙ ap (λ n. end_wait s.kern a.who (min n a.count) None) (sym (length-there s.ram x.buffer x.count is.4))) f
        ∙ sym (ap (after_send s id x) to)

    pub passed_live : IsKept s → Lives s.kern a.who
    passed_live kept = first_lives s (receivers id) a kept.kern (is_first s (receivers id) a kept.kern is.2)

    pub passed_place : IsKept s → lies_in (length s.ram) a.buffer (min x.count a.count) ≡ true
    passed_place kept =
        let fits = ((stuck s (receivers id) a is.0 kept (is_first s (receivers id) a kept.kern is.2) (omega arith) is.1).receiver refl).1 in
        let short : x.count ≤ is.0.max_len = is.3 in
        lies_less (length s.ram) a.buffer (min a.count is.0.max_len) (min x.count a.count) (omega arith) fits

  module _ (at : ℕ) (h : plan.Queued at ≡ send_plan id x (send_deed s id x)) where
    into : (q : QueueState) × (send_deed s id x ≡ queued q) × (at ≡ id)
    into = queued_arm id x (send_deed s id x) at h

    added_is : (object_of s.queues.queues at ≡ Some into.0) × (first_asking s (receivers id) ≡ None) × (is_full into.0 ≡ false) × (x.count ≤ into.0.max_len) × (lies_in (size_of s) x.buffer x.count ≡ true)
    added_is = let is = is_at (queued into.0) into.1 in (ap (object_of s.queues.queues) into.2 ∙ is.0, is.1, is.2, is.3, is.4)

    pub queued_live : IsSome (object_of s.queues.queues at)
    queued_live = subst (λ o. IsSome o) (sym added_is.0) refl

    pub queued_there : lies_in (length s.ram) x.buffer x.count ≡ true
    queued_there = added_is.4

    pub queued_room : (q : QueueState) → object_of s.queues.queues at ≡ Some q → is_full q ≡ false
    queued_room q here = subst (λ (v : QueueState). is_full v ≡ false) (same_Some into.0 q (sym added_is.0 ∙ here)) added_is.2

    pub queued_short : (q : QueueState) → object_of s.queues.queues at ≡ Some q → x.count ≤ q.max_len
    queued_short q here = subst (λ (v : QueueState). x.count ≤ v.max_len) (same_Some into.0 q (sym added_is.0 ∙ here)) added_is.3

    pub sent_queued : (qs : QueuesState)
        → ((q : QueueState) → object_of s.queues.queues at ≡ Some q → qs ≡ record s.queues { queues = with_object s.queues.queues at (added x.urgent (bytes_at s.ram x.buffer x.count) q) })
        → scene s.kern qs s.ram ≡ send s id x
    sent_queued qs e =
        ap (λ r. scene s.kern r s.ram) (e into.0 added_is.0)
        ∙ ap (λ n. scene s.kern (record s.queues { queues = with_object s.queues.queues n (added x.urgent (bytes_at s.ram x.buffer x.count) into.0) }) s.ram) into.2
        ∙ sym (ap (after_send s id x) into.1)

    pub answer_queued : Ok took.Taken ≡ send_answer (send_deed s id x)
    answer_queued = sym (ap send_answer into.1)

  module _ (a : Ask) (b : Bool) (h : plan.Blocked a b ≡ send_plan id x (send_deed s id x)) where
    at_wait : Waits id x (send_deed s id x) a b
    at_wait = blocked_arm id x (send_deed s id x) a b h

    blocked_is : (queue_of s id ≡ Some at_wait.queue) × (x.caller ≡ Some at_wait.who) × (is_full at_wait.queue ≡ true) × (x.count ≤ at_wait.queue.max_len) × (lies_in (size_of s) x.buffer x.count ≡ true) × (x.timeout ≡ 0 → ⊥)
    blocked_is = is_at (blocked at_wait.who at_wait.queue) at_wait.deed

    blocked_caller : IsCaller s.kern x.caller → IsCaller s.kern (Some at_wait.who)
    blocked_caller ready = subst (IsCaller s.kern) blocked_is.1 ready

    pub blocked_live : IsCaller s.kern x.caller → Lives s.kern a.who
    blocked_live ready = subst (λ (c : Ask). Lives s.kern c.who) (sym at_wait.ask) (subst (λ o. IsSome o) (sym (blocked_caller ready).1) refl)

    pub blocked_room : IsKept s → IsCaller s.kern x.caller → length (filter (counts s.kern) s.queues.asks) < 256
    blocked_room kept ready = let t = blocked_caller ready in room s.kern s.queues.asks at_wait.who t.0 kept.kern kept.single t.1 t.2

    pub blocked_timeout : 0 < x.timeout
    blocked_timeout = positive x.timeout blocked_is.5

    pub sent_blocked : (k : KernState) (qs : QueuesState) → BeginsWait s a b x.timeout k qs → scene k qs s.ram ≡ send s id x
    sent_blocked k qs begins = wait_begun s a (send_ask id at_wait.who x) b (not at_wait.queue.by_priority) x.timeout k qs at_wait.ask at_wait.fifo begins ∙ sym (ap (after_send s id x) at_wait.deed)

    pub answer_blocked : Ok took.Pended ≡ send_answer (send_deed s id x)
    answer_blocked = sym (ap send_answer at_wait.deed)
