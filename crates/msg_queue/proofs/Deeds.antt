-- What is known of a call on a queue, by what it will do.
use Rattle.std.proofs.Common.{◌≡◌, ℕ, ◌≤◌, Bool, true, false, not, ◌&&◌, cond, eqb, ltb, min, List, [], ◌∷◌, Option, None, Some, is_none, refl, ap, eq-eqb}
use Rattle.std.proofs.lemmas.Bool.{ltb-false, eqb-true}
use Rattle.wind_base.specs.declared.errno.Errno.{Errno}
use Rattle.wind_base.specs.declared.errno.Errno.TheVariants as errors
use Rattle.msg_queue.specs.declared.words.Sending.{Sending}
use Rattle.msg_queue.specs.declared.words.Receiving.{Receiving}
use Rattle.msg_queue.specs.State.{QueueState, Scene, queue_of, lies_in, size_of, is_full, receivers, first_asking}
use Rattle.msg_queue.specs.Sends.{SendDeed, declined, passed_on, queued, blocked, send_refusal, queued_or_blocked, sends_unless, sends_at, send_deed}
use Rattle.msg_queue.specs.Receives.{ReceiveDeed, denied, taken, starved, is_empty, receive_refusal, takes_from, receives_unless, receives_at, receive_deed}

-- if a chain of tests refuses nothing, its first test isn't met
pub passed : (b : Bool) (e : Errno) (r : Option Errno) → cond b (Some e) r ≡ None → (b ≡ false) × (r ≡ None)
passed true e r q = absurd (cc)
passed false e r q = (refl, q)

pub not_false : (b : Bool) → not b ≡ false → b ≡ true
not_false true e = refl
not_false false e = absurd (cc)

-- what is known if nothing refuses a send
pub record SendsWell (size : ℕ) (x : Sending) (stuck : Bool) (q : QueueState) : Type 0 where
  pub short : x.count ≤ q.max_len
  pub there : lies_in size x.buffer x.count ≡ true
  pub timeless : is_none x.caller ≡ true → x.timeout ≡ 0
  pub moves : x.timeout ≡ 0 → stuck ≡ false

both_false : (a b : Bool) → (a && b) ≡ false → a ≡ true → b ≡ false
both_false true b e h = e
both_false false b e h = absurd (cc)

sends_well : (size : ℕ) (x : Sending) (stuck : Bool) (q : QueueState) → send_refusal size x stuck q ≡ None → SendsWell size x stuck q
sends_well size x stuck q e =
    let first = passed (ltb q.max_len x.count) errors.InvalidMsgLength (cond (is_none x.caller && not (eqb x.timeout 0)) (Some errors.NonZeroTimeout) (cond (not (lies_in size x.buffer x.count)) (Some errors.BadAddress) (cond (stuck && eqb x.timeout 0) (Some errors.ObjUnavailable) None))) e in
    let second = passed (is_none x.caller && not (eqb x.timeout 0)) errors.NonZeroTimeout (cond (not (lies_in size x.buffer x.count)) (Some errors.BadAddress) (cond (stuck && eqb x.timeout 0) (Some errors.ObjUnavailable) None)) first.1 in
    let third = passed (not (lies_in size x.buffer x.count)) errors.BadAddress (cond (stuck && eqb x.timeout 0) (Some errors.ObjUnavailable) None) second.1 in
    let fourth = passed (stuck && eqb x.timeout 0) errors.ObjUnavailable None third.1 in
    record {
      short = ltb-false q.max_len x.count first.0;
      there = not_false (lies_in size x.buffer x.count) third.0;
      timeless = λ h. eqb-true x.timeout 0 (not_false (eqb x.timeout 0) (both_false (is_none x.caller) (not (eqb x.timeout 0)) second.0 h));
      moves = λ h. unstuck stuck (eqb x.timeout 0) fourth.0 (eq-eqb x.timeout 0 h);
    }
  where
    unstuck : (a b : Bool) → (a && b) ≡ false → b ≡ true → a ≡ false
    unstuck false b e h = refl
    unstuck true b e h = absurd (cc)

-- what is known of a send
abbrev pub SendIs : Scene → ℕ → Sending → SendDeed → Type 0
SendIs s id x (declined e) = Unit {0}
SendIs s id x (passed_on a) = (q : QueueState) × (queue_of s id ≡ Some q) × (first_asking s (receivers id) ≡ Some a) × (x.count ≤ q.max_len) × (lies_in (size_of s) x.buffer x.count ≡ true)
SendIs s id x (queued q) = (queue_of s id ≡ Some q) × (first_asking s (receivers id) ≡ None) × (is_full q ≡ false) × (x.count ≤ q.max_len) × (lies_in (size_of s) x.buffer x.count ≡ true)
SendIs s id x (blocked who q) = (queue_of s id ≡ Some q) × (x.caller ≡ Some who) × (is_full q ≡ true) × (x.count ≤ q.max_len) × (lies_in (size_of s) x.buffer x.count ≡ true) × (x.timeout ≡ 0 → ⊥)

queued_is : (s : Scene) (id : ℕ) (x : Sending) (q : QueueState) → queue_of s id ≡ Some q → first_asking s (receivers id) ≡ None → SendsWell (size_of s) x (is_full q) q → SendIs s id x (queued_or_blocked q x.caller)
queued_is s id x q here first well =
    elim x.caller as (λ c. x.caller ≡ c → SendIs s id x (queued_or_blocked q c)) [
      | None ↦ λ e. (here, first, well.moves (well.timeless (ap is_none e)), well.short, well.there)
      | Some who ↦ λ e.
          elim (is_full q) as (λ b. is_full q ≡ b → SendIs s id x (cond b (blocked who q) (queued q))) [
            | true ↦ λ full. (here, e, full, well.short, well.there, λ z. let not_full = well.moves z in absurd (cc))
            | false ↦ λ full. (here, first, full, well.short, well.there)
          ] refl
    ] refl

pub send_is : (s : Scene) (id : ℕ) (x : Sending) → SendIs s id x (send_deed s id x)
send_is s id x =
    elim (queue_of s id) as (λ o. queue_of s id ≡ o → SendIs s id x (sends_at (size_of s) x (first_asking s (receivers id)) o)) [
      | None ↦ λ here. tt
      | Some q ↦ λ here.
          elim (first_asking s (receivers id)) as (λ f. first_asking s (receivers id) ≡ f → SendIs s id x (sends_unless q x f (send_refusal (size_of s) x (is_none f && is_full q) q))) [
            | None ↦ λ first.
                elim (send_refusal (size_of s) x (is_full q) q) as (λ r. send_refusal (size_of s) x (is_full q) q ≡ r → SendIs s id x (sends_unless q x None r)) [
                  | None ↦ λ none. queued_is s id x q here first (sends_well (size_of s) x (is_full q) q none)
                  | Some e ↦ λ none. tt
                ] refl
            | Some w ↦ λ first.
                elim (send_refusal (size_of s) x false q) as (λ r. send_refusal (size_of s) x false q ≡ r → SendIs s id x (sends_unless q x (Some w) r)) [
                  | None ↦ λ none. let well = sends_well (size_of s) x false q none in (q, here, first, well.short, well.there)
                  | Some e ↦ λ none. tt
                ] refl
          ] refl
    ] refl

-- what is known of a receive
abbrev pub ReceiveIs : Scene → ℕ → Receiving → ReceiveDeed → Type 0
ReceiveIs s id x (denied e) = Unit {0}
ReceiveIs s id x (taken q m rest) = (queue_of s id ≡ Some q) × (q.held ≡ m ∷ rest) × (lies_in (size_of s) x.buffer (min x.room q.max_len) ≡ true)
ReceiveIs s id x (starved q) = (queue_of s id ≡ Some q) × (q.held ≡ []) × (lies_in (size_of s) x.buffer (min x.room q.max_len) ≡ true) × (x.timeout ≡ 0 → ⊥)

timed : (ms : List (List ℕ)) (n : ℕ) → (is_empty ms && eqb n 0) ≡ false → ms ≡ [] → n ≡ 0 → ⊥
timed [] n e h z = let same = eq-eqb n 0 z in absurd (cc)
timed (m ∷ ms) n e h z = absurd (cc)

pub receive_is : (s : Scene) (id : ℕ) (x : Receiving) → ReceiveIs s id x (receive_deed s id x)
receive_is s id x =
    elim (queue_of s id) as (λ o. queue_of s id ≡ o → ReceiveIs s id x (receives_at (size_of s) x o)) [
      | None ↦ λ here. tt
      | Some q ↦ λ here.
          elim (receive_refusal (size_of s) x q) as (λ r. receive_refusal (size_of s) x q ≡ r → ReceiveIs s id x (receives_unless q r)) [
            | None ↦ λ none.
                let first = passed (not (lies_in (size_of s) x.buffer (min x.room q.max_len))) errors.BadAddress (cond (is_empty q.held && eqb x.timeout 0) (Some errors.ObjUnavailable) None) none in
                let second = passed (is_empty q.held && eqb x.timeout 0) errors.ObjUnavailable None first.1 in
                let there = not_false (lies_in (size_of s) x.buffer (min x.room q.max_len)) first.0 in
                elim q.held as (λ h. q.held ≡ h → ReceiveIs s id x (takes_from q h)) [
                  | [] ↦ λ h. (here, h, there, timed q.held x.timeout second.0 h)
                  | m ∷ rest ↦ λ h. (here, h, there)
                ] refl
            | Some e ↦ λ none. tt
          ] refl
    ] refl
