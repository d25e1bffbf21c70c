-- The status of a session after its record was written, or not.
use Rattle.std.proofs.Common.{◌≡◌, ◌≢◌, ℕ, List, [], true, Option, Result, Ok, Err, refl, sym, ap, ◌∙◌, subst, inr}
use Rattle.std.specs.Prelude.{IfErr, OnOk, is_ok}
use Rattle.wind_session.specs.declared.run.RunEnd.{RunEnd}
use Rattle.wind_outside.specs.Files.{Files}
use Rattle.live_session.specs.Command.{CommandState}
use Rattle.live_session.specs.Ending.{IsGoing}
use Rattle.live_session.specs.Continuing.{Kept}
use Rattle.live_session.specs.Saving.{IsOpened}
use Rattle.live_session.specs.Session.{IsRefusal, IsStatusOf, IsStop, IsTyped, Parts, status_unless}
use Rattle.live_session.specs.declared.saving.Unsaved.{Unsaved}
use Rattle.live_session.specs.declared.saving.Unsaved.TheVariants as unsaved
use Rattle.live_session.specs.declared.status.Status.{Status}
use Rattle.live_session.specs.declared.status.Status.TheVariants as status

-- ---- a record that was written
pub ok_holds : {A : Type 0} (written : Result A Unsaved) (holds : Type 0) → is_ok written ≡ true → OnOk written holds → holds
ok_holds (Ok a) holds ok h = h
ok_holds (Err failure) holds ok h = absurd (cc)

-- ---- or not
unless_status : (failure : Unsaved) (end : RunEnd) (s : Status) → IsStatusOf end s → IsStatusOf end (status_unless failure s)
unless_status unsaved.Failed end status.Ended h = h
unless_status unsaved.NoMemory end status.Ended h = inr h
unless_status failure end s h = h

unless_stop : (failure : Unsaved) (s : Status) (left : Option (List ℕ)) (parts : Parts) → IsStop s left parts → IsStop (status_unless failure s) left parts
unless_stop unsaved.Failed status.Ended left parts h = tt
unless_stop unsaved.NoMemory status.Ended left parts h = tt
unless_stop failure s left parts h = h

-- any other status stays
unless_same : (failure : Unsaved) (s t : Status) → status_unless failure s ≡ t → t ≢ status.Unrecorded → t ≢ status.NoMemory → s ≡ t
unless_same unsaved.Failed status.Ended t e written memory = absurd (written (sym e))
unless_same unsaved.NoMemory status.Ended t e written memory = absurd (memory (sym e))
unless_same failure s t e written memory = e

unless_ended : (failure : Unsaved) (s : Status) → status_unless failure s ≡ status.Ended → ⊥
unless_ended unsaved.Failed status.Ended e = cc
unless_ended unsaved.NoMemory status.Ended e = cc
unless_ended failure s e = cc

unless_failed : (failure : Unsaved) (s : Status) → s ≢ status.Unrecorded → status_unless failure s ≡ status.Unrecorded → failure ≡ unsaved.Failed
unless_failed unsaved.Failed s known e = refl
unless_failed unsaved.NoMemory status.Ended known e = absurd (cc)
unless_failed unsaved.NoMemory s known e = absurd (known e)

-- ---- a status after the writing
pub record IsAfter {A : Type 0} (written : Result A Unsaved) (s after : Status) : Type 0 where
  pub ok : OnOk written (after ≡ s)
  pub err : IfErr written (λ failure. after ≡ status_unless failure s)

pub after_status : {A : Type 0} (written : Result A Unsaved) (s after : Status) (end : RunEnd) → IsAfter written s after → IsStatusOf end s → IsStatusOf end after
after_status (Ok a) s after end is h = subst (λ (t : Status). IsStatusOf end t) (sym is.ok) h
after_status (Err failure) s after end is h = subst (λ (t : Status). IsStatusOf end t) (sym is.err) (unless_status failure end s h)

pub after_typed : {A : Type 0} (written : Result A Unsaved) (s after : Status) (old new : Option (List ℕ)) (kept console : List ℕ) (holds : Parts → Type 0) → IsAfter written s after → IsTyped s old new kept console holds → IsTyped after old new kept console holds
after_typed (Ok a) s after old new kept console holds is h = subst (λ (t : Status). IsTyped t old new kept console holds) (sym is.ok) h
after_typed (Err failure) s after old new kept console holds is h =
    subst (λ (t : Status). IsTyped t old new kept console holds) (sym is.err)
    (record { parts = h.parts; taken = h.taken; parts_are = h.parts_are; sent = h.sent; stop = unless_stop failure s new h.parts h.stop; quit_last = h.quit_last; held = h.held })

pub after_recorded : {A : Type 0} (written : Result A Unsaved) (s after : Status) (recorded : Type 0) → IsAfter written s after → OnOk written recorded → after ≡ status.Ended → recorded
after_recorded (Ok a) s after recorded is h e = h
after_recorded (Err failure) s after recorded is h e = absurd (unless_ended failure s (sym is.err ∙ e))

pub after_failed : {A : Type 0} (written : Result A Unsaved) (s after : Status) → IsAfter written s after → s ≢ status.Unrecorded → after ≡ status.Unrecorded → written ≡ Err unsaved.Failed
after_failed (Ok a) s after is known e = absurd (known (sym is.ok ∙ e))
after_failed (Err failure) s after is known e = ap (λ f. Err f) (unless_failed failure s known (sym is.err ∙ e))

pub after_same : {A : Type 0} (written : Result A Unsaved) (s after t : Status) → IsAfter written s after → after ≡ t → t ≢ status.Unrecorded → t ≢ status.NoMemory → s ≡ t
after_same (Ok a) s after t is e written memory = sym is.ok ∙ e
after_same (Err failure) s after t is e written memory = unless_same failure s t (sym is.err ∙ e) written memory

-- an end or a fault was there before the record was written
module _ {A : Type 0} (written : Result A Unsaved) (s after : Status) (is : IsAfter written s after) where
  pub ended_same : after ≡ status.Ended → s ≡ status.Ended
  ended_same e = after_same written s after status.Ended is e (λ x. cc) (λ x. cc)

  pub read_same : after ≡ status.ReadFault → s ≡ status.ReadFault
  read_same e = after_same written s after status.ReadFault is e (λ x. cc) (λ x. cc)

  pub put_same : after ≡ status.WriteFault → s ≡ status.WriteFault
  put_same e = after_same written s after status.WriteFault is e (λ x. cc) (λ x. cc)

-- ---- no session that was played has the status of invalid arguments
pub never_usage : (end : RunEnd) (s : Status) → IsStatusOf end s → s ≢ status.Usage
never_usage end s h e = subst (λ (t : Status). IsStatusOf end t) e h

-- a session that ended has a board that can go on
pub ended_going : (end : RunEnd) (s : Status) → IsStatusOf end s → s ≡ status.Ended → IsGoing end
ended_going end s h e = subst (λ (t : Status). IsStatusOf end t) e h

-- ---- a record that was not opened
pub unopened_refusal : (failure : Unsaved) (c : CommandState) (files : Option Files) (rose : Type 0) → c.record_folder ≢ [] → (failure ≡ unsaved.Failed → rose) → IsRefusal (status_unless failure status.Ended) c files rose
unopened_refusal unsaved.Failed c files rose named failed = (named, inr (inr (failed refl)))
unopened_refusal unsaved.NoMemory c files rose named failed = tt

pub unopened_status : (failure : Unsaved) → (status_unless failure status.Ended ≢ status.Usage) × (status_unless failure status.Ended ≢ status.ReadFault) × (status_unless failure status.Ended ≢ status.WriteFault)
unopened_status unsaved.Failed = (λ e. cc, λ e. cc, λ e. cc)
unopened_status unsaved.NoMemory = (λ e. cc, λ e. cc, λ e. cc)

-- ---- or was: it holds what was taken over
pub opened_record : (c : CommandState) (kept : Kept) (console ticks : List ℕ) (limit : ℕ) (old new : Option Files) → console ≡ kept.console → ticks ≡ kept.ticks → kept.limit ≡ limit
    → IsOpened c console ticks limit old new → IsOpened c kept.console kept.ticks kept.limit old new
opened_record c kept console ticks limit old new console_is ticks_is limit_is opened =
    subst (λ n. IsOpened c kept.console kept.ticks n old new) (sym limit_is)
    (subst (λ text. IsOpened c kept.console text limit old new) ticks_is
    (subst (λ text. IsOpened c text ticks limit old new) console_is opened))
