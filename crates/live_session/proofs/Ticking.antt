-- Ticks that come one after the other.
use Rattle.std.proofs.Common.{◌≡◌, ◌≢◌, ℕ, true, false, suc, ◌+◌, ◌-◌, ◌<◌, ◌≤◌, List, [], ◌++◌, Option, None, Some, refl, subst, inl, inr, arith}
use Rattle.std.specs.Prelude.{is_some, ◌⊎◌}
use Rattle.std.proofs.lemmas.List.{append-nil}
use Rattle.tick_file.specs.declared.event.Event.TheVariants.{Tick}
use Rattle.wind_machine.specs.Extending.{Setup}
use Rattle.wind_session.specs.Keeping.{Around, Messages}
use Rattle.wind_session.specs.Modules.{Shelf}
use Rattle.wind_session.specs.Outside.{Outside}
use Rattle.wind_session.specs.declared.run.RunEnd.{RunEnd}
use Rattle.wind_session.specs.declared.run.RunEnd.TheVariants as ends
use Rattle.live_session.specs.LiveAround.{Store}
use Rattle.live_session.specs.Moments.{IsRefused, IsSentAndRuns, Moment, RunsFor, Sends, moment}
use Rattle.live_session.specs.Obeying.{TicksCome}
use Rattle.live_session.specs.Seen.{LiveState}
use Rattle.live_session.specs.Session.{sent_unless}
use Rattle.live_session.specs.declared.record.Refusal.{Refusal}
use Rattle.live_session.specs.declared.saving.Unsaved.{Unsaved}

-- the board ran, and this many of n ticks have come; whatever follows, the ticks come as from the first
pub record Ticking (n most : ℕ) (shelf : Shelf) (setup : Setup) (old : Outside) (l : LiveState) (around : Around) (files : Store) (count : ℕ) (here : Moment) : Type 0 where
  pub first : Moment
  pub opening : RunsFor most shelf setup old l around files first
  pub goes_on : (later : Moment) → TicksCome (n - count) most shelf setup old here later → TicksCome n most shelf setup old first later

-- ---- a tick that was sent, or refused
-- it brings no byte
pub sent_nothing : (refusal : Option Refusal) (bytes : List ℕ) → bytes ++ sent_unless refusal [] ≡ bytes
sent_nothing None bytes = append-nil bytes
sent_nothing (Some cause) bytes = append-nil bytes

pub sent_tick : (refusal : Option Refusal) (most : ℕ) (shelf : Shelf) (setup : Setup) (old : Outside) (now later : Moment) → is_some refusal ≡ false
    → Sends Tick [] most refusal shelf setup old now later → IsSentAndRuns Tick [] most shelf setup old now later
sent_tick None most shelf setup old now later none sends = sends
sent_tick (Some cause) most shelf setup old now later none sends = absurd (cc)

pub refused_tick : (refusal : Option Refusal) (most : ℕ) (shelf : Shelf) (setup : Setup) (old : Outside) (now later : Moment) → is_some refusal ≡ true
    → Sends Tick [] most refusal shelf setup old now later → (cause : Refusal) × IsRefused cause Tick [] now later
refused_tick None most shelf setup old now later some sends = absurd (cc)
refused_tick (Some cause) most shelf setup old now later some sends = (cause, sends)

-- nothing else is left to do, and the record's files are written, or not
pub stopped_by : (end : RunEnd) (unsaved : Option Unsaved) → ((end ≡ ends.Quiet) × (unsaved ≡ None) → ⊥) → (end ≢ ends.Quiet) ⊎ (unsaved ≢ None)
stopped_by end None stuck = inl (λ quiet. stuck (quiet, refl))
stopped_by end (Some failure) stuck = inr (λ e. cc)

-- the same moment, if the record's files are written
pub ticks_as : (n most : ℕ) (shelf : Shelf) (setup : Setup) (old : Outside) (l : LiveState) (around : Around) (files : Store) (count : ℕ) (m : LiveState) (now : Around) (told : Messages) (later : Store) (end : RunEnd) (u v : Option Unsaved) → u ≡ v
    → Ticking n most shelf setup old l around files count (moment m now told later end u) → Ticking n most shelf setup old l around files count (moment m now told later end v)
ticks_as n most shelf setup old l around files count m now told later end u v same t = subst (λ (x : Option Unsaved). Ticking n most shelf setup old l around files count (moment m now told later end x)) same t

module _ (n most : ℕ) (shelf : Shelf) (setup : Setup) (old : Outside) (l : LiveState) (around : Around) (files : Store) where
  abbrev Comes : ℕ → Moment → Moment → Type 0
  Comes k now later = TicksCome k most shelf setup old now later

  pub ticks_begin : (first : Moment) → RunsFor most shelf setup old l around files first → Ticking n most shelf setup old l around files 0 first
  ticks_begin first opening =
      let all : n - 0 ≡ n = omega arith in
      record { first = first; opening = opening; goes_on = λ later comes. subst (λ k. Comes k first later) all comes }

  module _ (count : ℕ) (here : Moment) (t : Ticking n most shelf setup old l around files count here) where
    abbrev All : Moment → Type 0
    All later = (first : Moment) × RunsFor most shelf setup old l around files first × Comes n first later

    -- all have come
    pub ticks_end : n ≤ count → All here
    ticks_end done =
        let none : 0 ≡ n - count = omega arith in
        (t.first, t.opening, t.goes_on here (subst (λ k. Comes k here here) none refl))

    module _ (more : count < n) where
      next_one : suc (n - (count + 1)) ≡ n - count
      next_one = omega arith

      -- something is left to do, or a file of the record was not written
      pub ticks_stop : (here.end ≢ ends.Quiet) ⊎ (here.unsaved ≢ None) → All here
      ticks_stop busy = (t.first, t.opening, t.goes_on here (subst (λ k. Comes k here here) next_one (inl (busy, refl))))

      -- the next one was refused
      pub ticks_refused : (cause : Refusal) (later : Moment) → IsRefused cause Tick [] here later → All later
      ticks_refused cause later refused = (t.first, t.opening, t.goes_on later (subst (λ k. Comes k here later) next_one (inr (inl (cause, refused)))))

      -- the next one came
      pub ticks_more : (next : Moment) → here.end ≡ ends.Quiet → IsSentAndRuns Tick [] most shelf setup old here next → Ticking n most shelf setup old l around files (count + 1) next
      ticks_more next quiet comes = record {
        first = t.first;
        opening = t.opening;
        goes_on = λ later rest. t.goes_on later (subst (λ k. Comes k here later) next_one (inr (inr (next, quiet, comes, rest))));
      }
