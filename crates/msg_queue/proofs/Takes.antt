-- The code of a receive, compared with what a receive will do.
use Rattle.std.proofs.Common.{◌≡◌, ℕ, ◌+◌, ◌<◌, ◌≤◌, Bool, true, false, not, leb, min, List, [], ◌∷◌, length, take, drop, Option, None, Some, IsSome, IfSome, Ok, Err, refl, sym, ap, ap₂, ◌∙◌, subst, arith}
use Rattle.std.specs.List.{All, filter}
use Rattle.std.proofs.lemmas.Bool.{leb-true}
use Rattle.std.proofs.lemmas.List.{length-take}
use Rattle.std.proofs.lemmas.List.Elements.{All-head}
use Rattle.std.proofs.lemmas.Option.{same_Some}
use Rattle.wind_base.specs.declared.errno.Errno.{Errno}
use Rattle.id_table.specs.Rows.{object_of, with_object}
use Rattle.board_mem.specs.Memory.{with_bytes}
use Rattle.wind_core.specs.State.{KernState, Lives}
use Rattle.msg_queue.specs.declared.asks.Ask.{Ask}
use Rattle.msg_queue.specs.declared.plans.ReceivePlan.TheVariants as plan
use Rattle.msg_queue.specs.declared.words.Receiving.{Receiving}
use Rattle.msg_queue.specs.declared.words.Got.TheVariants as got
use Rattle.msg_queue.specs.State.{QueueState, QueuesState, Scene, scene, queue_of, lies_in, size_of, is_full, senders, first_asking, counts}
use Rattle.msg_queue.specs.Receives.{ReceiveDeed, denied, taken, starved, receive_deed, receive_ask, refilled, after_receive, receive, receive_answer}
use Rattle.msg_queue.specs.Inside.{receive_plan}
use Rattle.msg_queue.specs.Kept.{IsKept, IsCaller}
use Rattle.msg_queue.proofs.Tables.{written_same}
use Rattle.msg_queue.proofs.Arms.{BeginsWait, wait_begun}
use Rattle.msg_queue.proofs.Deeds.{ReceiveIs, receive_is}
use Rattle.msg_queue.proofs.Traffic.{is_first, first_lives, stuck}
use Rattle.msg_queue.proofs.Steps.{positive, good_of, length-with_bytes}
use Rattle.msg_queue.proofs.Room.{room}

module _ (id : ℕ) (x : Receiving) where
  denied_arm : (d : ReceiveDeed) (e : Errno) → plan.Denied e ≡ receive_plan id x d → d ≡ denied e
  denied_arm (denied f) e h = let same : f ≡ e = cc in ap denied same
  denied_arm (taken q m rest) e h = absurd (cc)
  denied_arm (starved q) e h = absurd (cc)

  -- the first message, and its queue
  record Front (d : ReceiveDeed) (at : ℕ) : Type 0 where
    queue : QueueState
    message : List ℕ
    rest : List (List ℕ)
    deed : d ≡ taken queue message rest
    same : at ≡ id

  taken_arm : (d : ReceiveDeed) (at : ℕ) → plan.Taken at ≡ receive_plan id x d → Front d at
  taken_arm (denied f) at h = absurd (cc)
  taken_arm (taken q m rest) at h = record { queue = q; message = m; rest = rest; deed = refl; same = cc }
  taken_arm (starved q) at h = absurd (cc)

  -- the queue for which the caller waits
  record Waits (d : ReceiveDeed) (a : Ask) (b : Bool) : Type 0 where
    queue : QueueState
    deed : d ≡ starved queue
    ask : a ≡ receive_ask id x
    fifo : b ≡ not queue.by_priority

  starved_arm : (d : ReceiveDeed) (a : Ask) (b : Bool) → plan.Starved a b ≡ receive_plan id x d → Waits d a b
  starved_arm (denied f) a b h = absurd (cc)
  starved_arm (taken q m rest) a b h = absurd (cc)
  starved_arm (starved q) a b h = record { queue = q; deed = refl; ask = cc; fifo = cc }

-- a sender that waits
record IsSender (s : Scene) (q : QueueState) (a : Ask) : Type 0 where
  lives : Lives s.kern a.who
  there : lies_in (length s.ram) a.buffer a.count ≡ true
  short : a.count ≤ q.max_len

sender_of : (s : Scene) (id : ℕ) (q : QueueState) (o : Option Ask) → IsKept s → queue_of s id ≡ Some q → first_asking s (senders id) ≡ o → IfSome o (IsSender s q)
sender_of s id q None kept here e = tt
sender_of s id q (Some a) kept here e =
    let first = is_first s (senders id) a kept.kern e in
    let is = (stuck s (senders id) a q kept first (omega arith) here).sender refl in
    record { lives = first_lives s (senders id) a kept.kern first; there = is.2; short = is.1 }

each_sender : (P Q : Ask → Type 0) (o : Option Ask) → ((a : Ask) → P a → Q a) → IfSome o P → IfSome o Q
each_sender P Q None f h = tt
each_sender P Q (Some a) f h = f a h

module _ (s : Scene) (id : ℕ) (x : Receiving) where
  is_at : (d : ReceiveDeed) → receive_deed s id x ≡ d → ReceiveIs s id x d
  is_at d e = subst (ReceiveIs s id x) e (receive_is s id x)

  pub got_denied : (e : Errno) → plan.Denied e ≡ receive_plan id x (receive_deed s id x) → s ≡ receive s id x
  got_denied e h = sym (ap (after_receive s id x) (denied_arm id x (receive_deed s id x) e h))

  pub answer_denied : (e : Errno) → plan.Denied e ≡ receive_plan id x (receive_deed s id x) → Err e ≡ receive_answer x (receive_deed s id x)
  answer_denied e h = sym (ap (receive_answer x) (denied_arm id x (receive_deed s id x) e h))

  module _ (a : Ask) (b : Bool) (h : plan.Starved a b ≡ receive_plan id x (receive_deed s id x)) where
    at_wait : Waits id x (receive_deed s id x) a b
    at_wait = starved_arm id x (receive_deed s id x) a b h

    starved_is : (queue_of s id ≡ Some at_wait.queue) × (at_wait.queue.held ≡ []) × (lies_in (size_of s) x.buffer (min x.room at_wait.queue.max_len) ≡ true) × (x.timeout ≡ 0 → ⊥)
    starved_is = is_at (starved at_wait.queue) at_wait.deed

    pub starved_lives : IsCaller s.kern (Some x.caller) → Lives s.kern a.who
    starved_lives ready = subst (λ (c : Ask). Lives s.kern c.who) (sym at_wait.ask) (subst (λ o. IsSome o) (sym ready.1) refl)

    pub starved_room : IsKept s → IsCaller s.kern (Some x.caller) → length (filter (counts s.kern) s.queues.asks) < 256
    starved_room kept ready = room s.kern s.queues.asks x.caller ready.0 kept.kern kept.single ready.1 ready.2

    pub starved_timeout : 0 < x.timeout
    starved_timeout = positive x.timeout starved_is.3

    pub got_starved : (k : KernState) (qs : QueuesState) → BeginsWait s a b x.timeout k qs → scene k qs s.ram ≡ receive s id x
    got_starved k qs begins = wait_begun s a (receive_ask id x) b (not at_wait.queue.by_priority) x.timeout k qs at_wait.ask at_wait.fifo begins ∙ sym (ap (after_receive s id x) at_wait.deed)

    pub answer_starved : Ok got.Pended ≡ receive_answer x (receive_deed s id x)
    answer_starved = sym (ap (receive_answer x) at_wait.deed)

  -- the id as the code has it
  pub at_id : (at : ℕ) → plan.Taken at ≡ receive_plan id x (receive_deed s id x) → at ≡ id
  at_id at h = (taken_arm id x (receive_deed s id x) at h).same

  -- the first message is taken
  module _ (h : plan.Taken id ≡ receive_plan id x (receive_deed s id x)) (kept : IsKept s) where
    front : Front id x (receive_deed s id x) id
    front = taken_arm id x (receive_deed s id x) id h

    is : (queue_of s id ≡ Some front.queue) × (front.queue.held ≡ front.message ∷ front.rest) × (lies_in (length s.ram) x.buffer (min x.room front.queue.max_len) ≡ true)
    is = is_at (taken front.queue front.message front.rest) front.deed

    pub front_live : IsSome (object_of s.queues.queues id)
    front_live = subst (λ o. IsSome o) (sym is.0) refl

    pub front_place : (q : QueueState) → object_of s.queues.queues id ≡ Some q → lies_in (length s.ram) x.buffer (min x.room q.max_len) ≡ true
    front_place q here = subst (λ (v : QueueState). lies_in (length s.ram) x.buffer (min x.room v.max_len) ≡ true) (same_Some front.queue q (sym is.0 ∙ here)) is.2

    pub front_short : (q : QueueState) → object_of s.queues.queues id ≡ Some q → All (λ m. length m ≤ q.max_len) q.held
    front_short q here = (good_of s id q kept here).short

    -- the queue without that message
    abbrev less : QueueState
    less = record front.queue { held = front.rest }

    abbrev without_front : QueuesState
    without_front = record s.queues { queues = with_object s.queues.queues id less }

    module _ (qs : QueuesState) (e : (q : QueueState) → object_of s.queues.queues id ≡ Some q → qs ≡ record s.queues { queues = with_object s.queues.queues id (record q { held = drop 1 q.held }) }) where
      dropped : qs ≡ without_front
      dropped = e front.queue is.0 ∙ ap (λ hs. record s.queues { queues = with_object s.queues.queues id (record front.queue { held = drop 1 hs }) }) is.1

      less_there : object_of qs.queues id ≡ Some less
      less_there = ap (λ (r : QueuesState). object_of r.queues id) dropped ∙ written_same s.queues.queues id front.queue less is.0

      not_full : is_full less ≡ false
      not_full =
          let good = good_of s id front.queue kept is.0 in
          let count : length front.queue.held ≡ length front.rest + 1 = ap length is.1 ∙ omega arith in
          elim (leb front.queue.max_msgs (length front.rest)) as (λ b. leb front.queue.max_msgs (length front.rest) ≡ b → b ≡ false) [
            | true ↦ λ e. absurd (omega (arith, good.fits, count, leb-true front.queue.max_msgs (length front.rest) e))
            | false ↦ λ e. refl
          ] refl

      is_less : (q : QueueState) → object_of qs.queues id ≡ Some q → less ≡ q
      is_less q here = same_Some less q (sym less_there ∙ here)

      pub left_live : IsSome (object_of qs.queues id)
      left_live = subst (λ o. IsSome o) (sym less_there) refl

      module _ (o : Option Ask) (f : o ≡ first_asking (scene s.kern qs s.ram) (senders id)) where
        sender_is : o ≡ first_asking s (senders id)
        sender_is = f ∙ ap (λ r. first_asking (scene s.kern r s.ram) (senders id)) dropped

        of_sender : (P : Ask → Type 0) → ((a : Ask) → IsSender s front.queue a → P a) → IfSome o P
        of_sender P g =
            subst (λ p. IfSome p P) (sym sender_is)
            (each_sender (IsSender s front.queue) P (first_asking s (senders id)) g (sender_of s id front.queue (first_asking s (senders id)) kept is.0 refl))

        pub sender_lives : IfSome o (λ a. Lives s.kern a.who)
        sender_lives = of_sender (λ a. Lives s.kern a.who) (λ a h. h.lives)

        pub sender_there : (ram : List ℕ) → length ram ≡ length s.ram → IfSome o (λ a. lies_in (length ram) a.buffer a.count ≡ true)
        sender_there ram size = of_sender (λ a. lies_in (length ram) a.buffer a.count ≡ true) (λ a h. subst (λ n. lies_in n a.buffer a.count ≡ true) (sym size) h.there)

        pub sender_short : IfSome o (λ a. (q : QueueState) → object_of qs.queues id ≡ Some q → a.count ≤ q.max_len)
        sender_short = of_sender (λ a. (q : QueueState) → object_of qs.queues id ≡ Some q → a.count ≤ q.max_len) (λ a h q here. subst (λ (u : QueueState). a.count ≤ u.max_len) (is_less q here) h.short)

        pub sender_room : IfSome o (λ a. (q : QueueState) → object_of qs.queues id ≡ Some q → is_full q ≡ false)
        sender_room = of_sender (λ a. (q : QueueState) → object_of qs.queues id ≡ Some q → is_full q ≡ false) (λ a h q here. subst (λ (u : QueueState). is_full u ≡ false) (is_less q here) not_full)

        pub got_taken : (k : KernState) (qs2 : QueuesState) (ram : List ℕ)
            → ((q : QueueState) (m : List ℕ) (rest : List (List ℕ)) → object_of s.queues.queues id ≡ Some q → q.held ≡ m ∷ rest → ram ≡ with_bytes s.ram x.buffer (take x.room m))
            → ((q : QueueState) → object_of qs.queues id ≡ Some q → scene k qs2 ram ≡ refilled (scene s.kern qs ram) id q o)
            → scene k qs2 ram ≡ receive s id x
        got_taken k qs2 ram copies refills =
            refills less less_there
            ∙ ap (refilled (scene s.kern qs ram) id less) sender_is
            ∙ ap₂ (λ r m. refilled (scene s.kern r m) id less (first_asking s (senders id))) dropped (copies front.queue front.message front.rest is.0 is.1)
            ∙ sym (ap (after_receive s id x) front.deed)

    pub size_stays : (ram : List ℕ) → ((q : QueueState) (m : List ℕ) (rest : List (List ℕ)) → object_of s.queues.queues id ≡ Some q → q.held ≡ m ∷ rest → ram ≡ with_bytes s.ram x.buffer (take x.room m)) → length ram ≡ length s.ram
    size_stays ram copies =
        let m = front.message in
        let good = good_of s id front.queue kept is.0 in
        let short : length m ≤ front.queue.max_len = All-head (λ v. length v ≤ front.queue.max_len) m front.rest (subst (All (λ v. length v ≤ front.queue.max_len)) is.1 good.short) in
        ap length (copies front.queue m front.rest is.0 is.1) ∙ length-with_bytes s.ram x.buffer (min x.room front.queue.max_len) (take x.room m) is.2 (omega (arith, length-take x.room m, short))

    pub answer_taken : (n : ℕ) → ((q : QueueState) (m : List ℕ) (rest : List (List ℕ)) → object_of s.queues.queues id ≡ Some q → q.held ≡ m ∷ rest → n ≡ min (length m) x.room)
        → Ok (got.Count n) ≡ receive_answer x (receive_deed s id x)
    answer_taken n count = ap (λ v. Ok (got.Count v)) (count front.queue front.message front.rest is.0 is.1) ∙ sym (ap (receive_answer x) front.deed)
