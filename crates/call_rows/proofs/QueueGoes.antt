-- By how much the rows of message queues raise the kernel's counters, and that RAM keeps its size.
use Rattle.std.proofs.Common.{◌≡◌, ℕ, ◌+◌, ◌-◌, ◌<◌, ◌≤◌, Bool, true, false, not, ◌&&◌, cond, eqb, leb, ltb, min, List, [], ◌∷◌, length, take, drop, Option, None, Some, is_none, refl, subst, arith, length-append, length-drop, ⊎_elim}
use Rattle.std.specs.List.{All}
use Rattle.std.proofs.lemmas.Bool.{eqb-true, eqb-false, leb-true, ltb-false, or_cases}
use Rattle.std.proofs.lemmas.List.{length-take}
use Rattle.std.proofs.lemmas.List.Elements.{All-head}
use Rattle.wind_base.specs.declared.errno.Errno.{Errno}
use Rattle.wind_base.specs.declared.errno.Errno.TheVariants as errors
use Rattle.id_table.proofs.Lookups.{found_has}
use Rattle.board_mem.specs.Memory.{with_bytes}
use Rattle.wind_core.specs.State.{KernState, IsKern}
use Rattle.wind_core.specs.Moves.{end_wait, pend, wake_all}
use Rattle.wind_core.specs.Move.{Pend, EndWait, WakeAll}
use Rattle.msg_queue.specs.declared.asks.Ask.{Ask}
use Rattle.msg_queue.specs.declared.words.Sending.{Sending}
use Rattle.msg_queue.specs.declared.words.Receiving.{Receiving}
use Rattle.msg_queue.specs.State.{QueueState, Scene, queue_of, lies_in, size_of, is_full, receivers, senders, first_asking}
use Rattle.msg_queue.specs.Sends.{queued, blocked, send_refusal, queued_or_blocked, sends_unless, sends_at, sent_bytes, handed, after_send, send}
use Rattle.msg_queue.specs.Receives.{taken, is_empty, receive_refusal, takes_from, receives_unless, receives_at, taken_out, refilled, after_receive, receive}
use Rattle.msg_queue.specs.Comings.{is_size, ids_refusal, create_refusal, new_queue, created, awakened, deleted, delete}
use Rattle.msg_queue.specs.Kept.{IsQueue, IsKept}
use Rattle.msg_queue.proofs.Traffic.{is_first, stuck}
use Rattle.kernel_world.specs.Kept.{CountsWithin, call_sinces}
use Rattle.kernel_world.specs.declared.reply.Reply.TheVariants.{Answer, Refusal}
use Rattle.call_rows.specs.Unless.{unless}
use Rattle.call_rows.specs.QueueRows.{row_of, create_row, receive_row}
use Rattle.kernel_world.specs.declared.actor.Actor.{Actor}
use Rattle.kernel_world.specs.declared.actor.Actor.TheVariants.{Task, Interrupt}
use Rattle.kernel_world.proofs.Goes.{drawn, goes-draw, Goes, goes_nowhere, goes_on, goes_further, goes-move}

-- ---- chains of refusals
-- a test of a chain that refuses nothing was not met
passed : (b : Bool) (e : Errno) (r : Option Errno) → cond b (Some e) r ≡ None → (b ≡ false) × (r ≡ None)
passed true e r q = absurd (cc)
passed false e r q = (refl, q)

not_false : (b : Bool) → not b ≡ false → b ≡ true
not_false true e = refl
not_false false e = absurd (cc)

some_ticks : (n : ℕ) → eqb n 0 ≡ false → 0 < n
some_ticks n e = let some = eqb-false n 0 e in omega arith

-- what holds if nothing refuses a send: its message is short enough, and the caller may wait if it must
send_fits : (size : ℕ) (x : Sending) (halted : Bool) (q : QueueState) → send_refusal size x halted q ≡ None → (x.count ≤ q.max_len) × ((halted && eqb x.timeout 0) ≡ false)
send_fits size x halted q e =
    let last : Option Errno = cond (halted && eqb x.timeout 0) (Some errors.ObjUnavailable) None in
    let third : Option Errno = cond (not (lies_in size x.buffer x.count)) (Some errors.BadAddress) last in
    let second : Option Errno = cond (is_none x.caller && not (eqb x.timeout 0)) (Some errors.NonZeroTimeout) third in
    let first = passed (ltb q.max_len x.count) errors.InvalidMsgLength second e in
    let more = passed (is_none x.caller && not (eqb x.timeout 0)) errors.NonZeroTimeout third first.1 in
    let most = passed (not (lies_in size x.buffer x.count)) errors.BadAddress last more.1 in
    (ltb-false q.max_len x.count first.0, (passed (halted && eqb x.timeout 0) errors.ObjUnavailable None most.1).0)

-- and for a receive: its room is in RAM, and the caller may wait if there is no message
receive_fits : (size : ℕ) (x : Receiving) (q : QueueState) → receive_refusal size x q ≡ None → (lies_in size x.buffer (min x.room q.max_len) ≡ true) × ((is_empty q.held && eqb x.timeout 0) ≡ false)
receive_fits size x q e =
    let last : Option Errno = cond (is_empty q.held && eqb x.timeout 0) (Some errors.ObjUnavailable) None in
    let first = passed (not (lies_in size x.buffer (min x.room q.max_len))) errors.BadAddress last e in
    (not_false (lies_in size x.buffer (min x.room q.max_len)) first.0, (passed (is_empty q.held && eqb x.timeout 0) errors.ObjUnavailable None first.1).0)

-- if making a queue isn't refused, an id is left
queue_id_left : (live next max_msgs max_len options : ℕ) → create_refusal live next max_msgs max_len options ≡ None → next ≤ 1048576
queue_id_left live next max_msgs max_len options e =
    let three : Option Errno = cond (leb 256 live) (Some errors.TooMany) (ids_refusal next) in
    let first = passed (ltb 1 options) errors.InvalidOption (cond (not (is_size max_msgs max_len)) (Some errors.BadSize) three) e in
    let second = passed (not (is_size max_msgs max_len)) errors.BadSize three first.1 in
    let third = passed (leb 256 live) errors.TooMany (ids_refusal next) second.1 in
    ltb-false 1048576 next (passed (ltb 1048576 next) errors.IdsSpent None third.1).0

-- writing bytes where there is room for them
size_put : (ram : List ℕ) (at n : ℕ) (bytes : List ℕ) → lies_in (length ram) at n ≡ true → length bytes ≤ n → length (with_bytes ram at bytes) ≡ length ram
size_put ram at n bytes there short =
    let prefix = length-take at ram in
    let back = length-drop (at + length bytes) ram in
    let whole : length (with_bytes ram at bytes) ≡ min at (length ram) + (length bytes + (length ram - (at + length bytes))) = simp (length-append, prefix, back) (omega arith) in
    ⊎_elim (λ none. let zero_n = eqb-true n 0 none in omega arith) (λ some. let fits = leb-true (at + n) (length ram) some in omega arith) (or_cases (eqb n 0) (leb (at + n) (length ram)) there)

-- ---- the rows
module _ (s : Scene) (n : ℕ) (is : IsKern s.kern) (within : CountsWithin n s.kern) where
  -- what one call leads to from s
  abbrev pub IsNear : Scene → Type 0
  IsNear t = Goes s.kern t.kern (n + 1) call_sinces × (length t.ram ≡ length s.ram)

  far : (j : KernState) (d : ℕ) → d ≤ 1024 → Goes s.kern j n d → Goes s.kern j (n + 1) call_sinces
  far j d few g = goes_further s.kern j n (n + 1) d call_sinces (omega arith) few g

  itself : Goes s.kern s.kern (n + 1) call_sinces
  itself = far s.kern 0 (omega arith) (goes_nowhere s.kern n is within)

  pub near_itself : IsNear s
  near_itself = (itself, refl)

  -- ---- msgQCreate
  pub create_near : (max_msgs max_len options : ℕ) → IsNear (create_row s max_msgs max_len options).scene
  create_near max_msgs max_len options = go (create_refusal (length s.queues.queues) s.kern.next_id max_msgs max_len options) refl where
    go : (r : Option Errno) → create_refusal (length s.queues.queues) s.kern.next_id max_msgs max_len options ≡ r → IsNear (unless r (λ e. row_of s (Refusal e)) (row_of (created s (new_queue max_msgs max_len options)) (Answer s.kern.next_id))).scene
    go (Some e) same = near_itself
    go None same = (far (drawn s.kern) 0 (omega arith) (goes-draw s.kern n is within (queue_id_left (length s.queues.queues) s.kern.next_id max_msgs max_len options same)), refl)

  -- ---- msgQSend
  queued_near : (id : ℕ) (x : Sending) (q : QueueState) (c : Option ℕ) → (is_full q && eqb x.timeout 0) ≡ false → IsNear (after_send s id x (queued_or_blocked q c))
  queued_near id x q None few = near_itself
  queued_near id x q (Some who) few =
      elim (is_full q) as (λ b. (b && eqb x.timeout 0) ≡ false → IsNear (after_send s id x (cond b (blocked who q) (queued q)))) [
        | true ↦ λ h.
            (far (pend s.kern who (senders id) (not q.by_priority) x.timeout) 1 (omega arith) (goes-move s.kern n is within (Pend who (senders id) (not q.by_priority) x.timeout) (some_ticks x.timeout h)), refl)
        | false ↦ λ h. (itself, refl)
      ] few

  passed_near : (kept : IsKept s) (id : ℕ) (x : Sending) (q : QueueState) (a : Ask) → queue_of s id ≡ Some q → first_asking s (receivers id) ≡ Some a → x.count ≤ q.max_len → IsNear (handed s (sent_bytes s x) a)
  passed_near kept id x q a here first short =
      let m : List ℕ = sent_bytes s x in
      let there = ((stuck s (receivers id) a q kept (is_first s (receivers id) a kept.kern first) (omega arith) here).receiver refl).1 in
      let count : length m ≤ x.count = omega (arith, length-take x.count (drop x.buffer s.ram)) in (
        far (end_wait s.kern a.who (min (length m) a.count) None) 1 (omega arith) (goes-move s.kern n is within (EndWait a.who (min (length m) a.count) None) tt),
        size_put s.ram a.buffer (min a.count q.max_len) (take a.count m) there (omega (arith, length-take a.count m, count, short)),
      )

  pub send_near : IsKept s → (id : ℕ) (x : Sending) → IsNear (send s id x)
  send_near kept id x =
      elim (queue_of s id) as (λ o. queue_of s id ≡ o → IsNear (after_send s id x (sends_at (size_of s) x (first_asking s (receivers id)) o))) [
        | None ↦ λ here. near_itself
        | Some q ↦ λ here.
            elim (first_asking s (receivers id)) as (λ f. first_asking s (receivers id) ≡ f → IsNear (after_send s id x (sends_unless q x f (send_refusal (size_of s) x (is_none f && is_full q) q)))) [
              | None ↦ λ first.
                  elim (send_refusal (size_of s) x (is_full q) q) as (λ r. send_refusal (size_of s) x (is_full q) q ≡ r → IsNear (after_send s id x (sends_unless q x None r))) [
                    | None ↦ λ none. queued_near id x q x.caller (send_fits (size_of s) x (is_full q) q none).1
                    | Some e ↦ λ none. near_itself
                  ] refl
              | Some a ↦ λ first.
                  elim (send_refusal (size_of s) x false q) as (λ r. send_refusal (size_of s) x false q ≡ r → IsNear (after_send s id x (sends_unless q x (Some a) r))) [
                    | None ↦ λ none. passed_near kept id x q a here first (send_fits (size_of s) x false q none).0
                    | Some e ↦ λ none. near_itself
                  ] refl
            ] refl
      ] refl

  -- ---- msgQReceive
  taken_near : IsKept s → (id : ℕ) (x : Receiving) (q : QueueState) (m : List ℕ) (rest : List (List ℕ)) → queue_of s id ≡ Some q → q.held ≡ m ∷ rest → lies_in (size_of s) x.buffer (min x.room q.max_len) ≡ true
      → IsNear (after_receive s id x (taken q m rest))
  taken_near kept id x q m rest here held there =
      let good : IsQueue q = found_has IsQueue s.queues.queues id q kept.sound here in
      let short : length m ≤ q.max_len = All-head (λ v. length v ≤ q.max_len) m rest (subst (All (λ v. length v ≤ q.max_len)) held good.short) in
      let size : length (with_bytes s.ram x.buffer (take x.room m)) ≡ length s.ram = size_put s.ram x.buffer (min x.room q.max_len) (take x.room m) there (omega (arith, length-take x.room m, short)) in
      elim (first_asking s (senders id)) as (λ f. IsNear (refilled (taken_out s id x q m rest) id (record q { held = rest }) f)) [
        | None ↦ (itself, size)
        | Some a ↦ (far (end_wait s.kern a.who 0 None) 1 (omega arith) (goes-move s.kern n is within (EndWait a.who 0 None) tt), size)
      ]

  pub receive_near : IsKept s → (id : ℕ) (x : Receiving) → IsNear (receive s id x)
  receive_near kept id x =
      elim (queue_of s id) as (λ o. queue_of s id ≡ o → IsNear (after_receive s id x (receives_at (size_of s) x o))) [
        | None ↦ λ here. near_itself
        | Some q ↦ λ here.
            elim (receive_refusal (size_of s) x q) as (λ r. receive_refusal (size_of s) x q ≡ r → IsNear (after_receive s id x (receives_unless q r))) [
              | None ↦ λ none.
                  let fits = receive_fits (size_of s) x q none in
                  elim q.held as (λ ms. q.held ≡ ms → (is_empty ms && eqb x.timeout 0) ≡ false → IsNear (after_receive s id x (takes_from q ms))) [
                    | [] ↦ λ held h.
                        (far (pend s.kern x.caller (receivers id) (not q.by_priority) x.timeout) 1 (omega arith) (goes-move s.kern n is within (Pend x.caller (receivers id) (not q.by_priority) x.timeout) (some_ticks x.timeout h)), refl)
                    | m ∷ rest ↦ λ held h. taken_near kept id x q m rest here held fits.0
                  ] refl fits.1
              | Some e ↦ λ none. near_itself
            ] refl
      ] refl

  pub receive_row_near : IsKept s → (a : Actor) (id buffer count timeout : ℕ) → IsNear (receive_row s a id buffer count timeout).scene
  receive_row_near kept (Task who) id buffer count timeout = receive_near kept id (record { caller = who; buffer = buffer; room = count; timeout = timeout })
  receive_row_near kept Interrupt id buffer count timeout = near_itself

  -- ---- msgQDelete
  pub delete_near : (id : ℕ) → IsNear (delete s id)
  delete_near id =
      elim (queue_of s id) as (λ o. IsNear (deleted s id o)) [
        | None ↦ near_itself
        | Some q ↦
            let deletion : Option Errno = Some errors.ObjDeleted in
            let half : KernState = wake_all s.kern (receivers id) 4294967295 deletion in
            let one = goes-move s.kern n is within (WakeAll (receivers id) 4294967295 deletion) tt in
            let two = goes-move half n one.kern one.counts (WakeAll (senders id) 4294967295 deletion) tt in
            (far (awakened s.kern id) 512 (omega arith) (goes_on s.kern half (awakened s.kern id) n n 256 256 one two), refl)
      ]
