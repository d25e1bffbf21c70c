-- A record with one more event.
use Rattle.std.proofs.Common.{◌≡◌, ℕ, ◌+◌, ◌<◌, ◌≤◌, Bool, List, [], ◌∷◌, ◌++◌, length, refl, sym, ap, ◌∙◌, subst, arith}
use Rattle.std.proofs.lemmas.List.{length-append}
use Rattle.std.proofs.lemmas.List.Elements.{All-append, All-cons, All-nil}
use Rattle.wind_base.specs.Limits.{greatest_word}
use Rattle.wind_base.specs.OutBuf.{Output, appended}
use Rattle.tick_file.specs.declared.event.Event.{Event}
use Rattle.tick_file.specs.Schedule.{Timed}
use Rattle.tick_file.specs.Writing.{event_line, recorded, IsInRange, AreRecordable, MoreLaw}
use Rattle.wind_machine.specs.State.{State}
use Rattle.wind_machine.specs.Extending.{IsRoom, Setup, bytes_asked, extended, more_of}
use Rattle.wind_session.specs.Live.{IsLive, TypedLaw}
use Rattle.wind_session.specs.Modules.{Shelf}
use Rattle.wind_session.specs.Outside.{Outside}
use Rattle.live_session.specs.Record.{IsRecord, IsWithinFile, last_time}

-- a later event can be recorded too
pub recordable : (least : ℕ) (xs : List (ℕ × Event)) (time : ℕ) (event : Event) → AreRecordable least xs → last_time least xs ≤ time → time ≤ greatest_word → IsInRange event → AreRecordable least (xs ++ (time, event) ∷ [])
recordable least [] time event h late fits range = (late, fits, range, tt)
recordable least (x ∷ xs) time event h late fits range = (h.0, h.1, h.2, recordable x.0 xs time event h.3 late fits range)

pub last_added : (least : ℕ) (xs : List (ℕ × Event)) (time : ℕ) (event : Event) → last_time least (xs ++ (time, event) ∷ []) ≡ time
last_added least [] time event = refl
last_added least (x ∷ xs) time event = last_added x.0 xs time event

-- its line in the tick file
pub text_added : MoreLaw → (xs : List (ℕ × Event)) (time : ℕ) (event : Event) → recorded (xs ++ (time, event) ∷ []) ≡ recorded xs ++ (event_line time event ++ 10 ∷ [])
text_added more xs time event = (more 1 xs ((time, event) ∷ [])).1

-- the record with it
pub added : MoreLaw → (ticks : Output) (lines last time : ℕ) (event : Event) (line : List ℕ) → IsRecord ticks lines last → last ≤ time → time ≤ greatest_word → IsInRange event
    → line ≡ event_line time event ++ 10 ∷ [] → length line ≤ ticks.room → IsRecord (appended ticks line) (lines + 1) time
added more ticks lines last time event line r late fits range is room =
    let some : 1 ≤ length line = omega (arith, ap length is, length-append (event_line time event) (10 ∷ [])) in
    let longer : length (ticks.bytes ++ line) ≡ length ticks.bytes + length line = length-append ticks.bytes line in
    record {
      events = r.events ++ (time, event) ∷ [];
      text = ap (λ b. b ++ line) r.text ∙ ap (λ l. recorded r.events ++ l) is ∙ sym (text_added more r.events time event);
      count = omega (arith, r.count, length-append r.events ((time, event) ∷ []));
      few = omega (arith, r.few, some, longer);
      fits = recordable 0 r.events time event r.fits (omega (arith, r.last_is, late)) fits range;
      last_is = sym (last_added 0 r.events time event);
      within = omega (arith, r.within, longer, room);
    }

-- a text with more bytes, if they fit
pub within_file : (text : Output) (bytes : List ℕ) → length bytes ≤ text.room → IsWithinFile text → IsWithinFile (appended text bytes)
within_file text bytes room within = omega (arith, length-append text.bytes bytes, within, room)

-- the board that takes it is that of the record with it
pub sent_live : TypedLaw → MoreLaw → (shelf : Shelf) (setup : Setup) (console : List ℕ) (ticks : Output) (lines last time : ℕ) (event : Event) (bytes line : List ℕ) (board : State) (old now : Outside)
    → IsRecord ticks lines last → last ≤ time → time ≤ greatest_word → IsInRange event → bytes_asked event ≡ length bytes → board.time < time
    → line ≡ event_line time event ++ 10 ∷ [] → IsLive shelf setup console ticks.bytes board old now
    → IsLive shelf setup (console ++ bytes) (ticks.bytes ++ line) (extended (more_of bytes (lines + 1) time event board.schedule.on_demand) board) old now
sent_live law more shelf setup console ticks lines last time event bytes line board old now r late fits range asked later is live =
    let xs = r.events in
    let grown = law shelf setup console xs time event bytes board old now (recordable 0 xs time event r.fits (omega (arith, r.last_is, late)) fits range) asked later (subst (λ text. IsLive shelf setup console text board old now) r.text live) in
    let text : recorded (xs ++ (time, event) ∷ []) ≡ ticks.bytes ++ line =
    text_added more xs time event ∙ ap (λ b. b ++ (event_line time event ++ 10 ∷ [])) (sym r.text) ∙ ap (λ l. ticks.bytes ++ l) (sym is) in
    let number : 1 + length xs ≡ lines + 1 = omega (arith, r.count) in
    let d = board.schedule.on_demand in
    subst (λ n. IsLive shelf setup (console ++ bytes) (ticks.bytes ++ line) (extended (more_of bytes n time event d) board) old now) number
    (subst (λ t. IsLive shelf setup (console ++ bytes) t (extended (more_of bytes (1 + length xs) time event d) board) old now) text grown)

-- a further event may follow it on the board
pub room_after : (last line time : ℕ) (event : Event) (bytes : List ℕ) (d : Bool) (board : State) → last ≤ time → IsRoom last line board → IsRoom time (line + 1) (extended (more_of bytes line time event d) board)
room_after last line time event bytes d board late room =
    let e : Timed = record { time = time; line = line; number = 1; event = event } in
    let P : Timed → Type 0 = λ x. (x.time ≤ time) × (x.line < line + 1) in
    All-append P board.schedule.events (e ∷ []) (λ k x h. (omega (arith, (room k x h).0, late), omega (arith, (room k x h).1))) (All-cons P e [] (omega arith, omega arith) (All-nil P))
