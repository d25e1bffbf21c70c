-- Events that are sent one after the other.
use Rattle.std.proofs.Common.{◌≡◌, ◌≢◌, ℕ, true, suc, zero, ◌+◌, ◌-◌, ◌<◌, List, [], Option, None, Some, Result, Ok, Err, IfErr, OnOk, refl, sym, ◌∙◌, subst, inl, inr, arith}
use Rattle.std.proofs.lemmas.Grind.{common_steps}
use Rattle.std.proofs.lemmas.List.{append-nil}
use Rattle.tick_file.specs.declared.event.Event.{Event}
use Rattle.tick_file.specs.declared.event.Event.TheVariants.{Tick, Rx, Irq}
use Rattle.tick_file.specs.Writing.{IsInRange}
use Rattle.wind_machine.specs.State.{State}
use Rattle.wind_machine.specs.Extending.{bytes_asked}
use Rattle.live_session.specs.Moments.{IsCause, IsCauseAt, IsGiven, IsSent, event_time}
use Rattle.live_session.specs.Seen.{LiveState, StaysLive}
use Rattle.live_session.specs.Spacing.{AreSent, may_come, time_due}
use Rattle.live_session.specs.declared.record.Refusal.{Refusal}
use Rattle.live_session.specs.declared.saving.Unsaved.{Unsaved}

-- ---- an event that is due at the beginning
due_now : (l : LiveState) → time_due (0 + 0) l ≡ event_time l
due_now l = omega arith

pub given_now : {A E : Type 0} (result : Result A E) (event : Event) (bytes : List ℕ) (l m : LiveState) (P : Type 0)
    → OnOk result (IsGiven (time_due (0 + 0) l) event bytes l m × P) → OnOk result (IsSent event bytes l m × P)
given_now (Ok x) event bytes l m P h = (subst (λ t. IsGiven t event bytes l m) (due_now l) h.0, h.1)
given_now (Err e) event bytes l m P h = tt

pub cause_now : {A : Type 0} (result : Result A Refusal) (event : Event) (bytes : List ℕ) (l : LiveState)
    → IfErr result (λ cause. IsCauseAt (time_due (0 + 0) l) cause event bytes l) → IfErr result (λ cause. IsCause cause event bytes l)
cause_now (Ok x) event bytes l h = tt
cause_now (Err cause) event bytes l h = subst (λ t. IsCauseAt t cause event bytes l) (due_now l) h

-- ---- sessions to which one event after the other was sent
pub stays_on : (l m n : LiveState) → StaysLive l m → StaysLive m n → StaysLive l n
stays_on l m n first second = record {
  sound = second.sound;
  live = λ shelf setup old now live. second.live shelf setup old now (first.live shelf setup old now live);
}

-- if the rest of a series is sent as from the first event on, so is the whole series
pub record Spaced (n period : ℕ) (event : Event) (start : ℕ) (l : LiveState) (count from : ℕ) (here : LiveState) : Type 0 where
  pub stays : StaysLive l here
  pub console : here.console.bytes ≡ l.console.bytes
  pub goes_on : (refusal : Option Refusal) (unsaved : Option Unsaved) (rest : ℕ) (later : LiveState) → AreSent (n - count) period event from refusal unsaved rest here later
      → AreSent n period event start refusal unsaved (count + rest) l later

-- no more are sent after a file of the record was not written
none_more : (n period : ℕ) (event : Event) (from : ℕ) (unsaved : Option Unsaved) (here : LiveState) → unsaved ≢ None → AreSent n period event from None unsaved 0 here here
none_more zero period event from unsaved here failed = (refl, refl, refl)
none_more (suc n) period event from unsaved here failed = inl (failed, refl, refl, refl)

module _ (n period : ℕ) (event : Event) (start : ℕ) (l : LiveState) where
  abbrev Sends : ℕ → ℕ → Option Refusal → Option Unsaved → ℕ → LiveState → LiveState → Type 0
  Sends k from refusal unsaved sent here later = AreSent k period event from refusal unsaved sent here later

  pub spaced_begin : StaysLive l l → Spaced n period event start l 0 start l
  spaced_begin stays =
      let all : n - 0 ≡ n = omega arith in
      record {
        stays = stays;
        console = refl;
        goes_on = λ refusal unsaved rest later sends.
            let same : rest ≡ 0 + rest = omega arith in
            subst (λ k. Sends n start refusal unsaved k l later) same (subst (λ k. Sends k start refusal unsaved rest l later) all sends);
      }

  module _ (count from : ℕ) (here : LiveState) (t : Spaced n period event start l count from here) where
    -- all were sent
    pub spaced_end : count ≡ n → Sends n start None None n l here
    spaced_end all =
        let none : 0 ≡ n - count = omega (arith, all) in
        let same : count + 0 ≡ n = omega (arith, all) in
        subst (λ k. Sends n start None None k l here) same (t.goes_on None None 0 here (subst (λ k. Sends k from None None 0 here here) none (refl, refl, refl)))

    -- a file of the record was not written
    pub spaced_failed : (failure : Unsaved) → Sends n start None (Some failure) count l here
    spaced_failed failure =
        let none : count + 0 ≡ count = omega arith in
        subst (λ k. Sends n start None (Some failure) k l here) none
        (t.goes_on None (Some failure) 0 here (none_more (n - count) period event from (Some failure) here (λ e. cc)))

    module _ (more : count < n) where
      next_one : suc (n - (count + 1)) ≡ n - count
      next_one = omega arith

      -- the next one was refused
      pub spaced_refused : (cause : Refusal) (later : LiveState) → later ≡ here → IsCauseAt (time_due (from + period) here) cause event [] here
          → Sends n start (Some cause) None count l later
      spaced_refused cause later same because =
          let none : count + 0 ≡ count = omega arith in
          subst (λ k. Sends n start (Some cause) None k l later) none
          (t.goes_on (Some cause) None 0 later (subst (λ k. Sends k from (Some cause) None 0 here later) next_one (inr (inl (cause, refl, refl, same, because)))))

      -- the next one was sent
      pub spaced_more : (next : LiveState) (time : ℕ) → next.last ≡ time → IsGiven (time_due (from + period) here) event [] here next → StaysLive here next
          → Spaced n period event start l (count + 1) time next
      spaced_more next time last given stays =
          let at : time_due (from + period) here ≡ time = sym given.last ∙ last in
          record {
            stays = stays_on l here next t.stays stays;
            console = given.console ∙ append-nil here.console.bytes ∙ t.console;
            goes_on = λ refusal unsaved rest later sends.
                let counted : count + (rest + 1) ≡ count + 1 + rest = omega arith in
                let there : Sends (n - (count + 1)) (time_due (from + period) here) refusal unsaved rest next later =
                subst (λ f. Sends (n - (count + 1)) f refusal unsaved rest next later) (sym at) sends in
                subst (λ k. Sends n start refusal unsaved k l later) counted
                (t.goes_on refusal unsaved (rest + 1) later
                (subst (λ k. Sends k from refusal unsaved (rest + 1) here later) next_one (inr (inr (next, rest, refl, given, there)))));
          }

-- ---- which events come
pub may_range : (event : Event) (board : State) → may_come event board ≡ true → IsInRange event
may_range Tick board may = tt
may_range (Irq slot) board may = grind (arith, common_steps)
may_range (Rx bytes) board may = absurd (cc)

pub may_bring : (event : Event) (board : State) → may_come event board ≡ true → bytes_asked event ≡ 0
may_bring Tick board may = refl
may_bring (Irq slot) board may = refl
may_bring (Rx bytes) board may = absurd (cc)
