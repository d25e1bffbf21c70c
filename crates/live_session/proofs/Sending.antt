-- A session to which an event was sent.
use Rattle.std.proofs.Common.{◌≡◌, ℕ, ◌+◌, ◌<◌, ◌≤◌, List, [], ◌∷◌, ◌++◌, length, sym, subst, ap, ◌∙◌}
use Rattle.wind_base.specs.Limits.{greatest_word, most_steps}
use Rattle.wind_base.specs.OutBuf.{Output, appended}
use Rattle.tick_file.specs.declared.event.Event.{Event}
use Rattle.tick_file.specs.Writing.{event_line, IsInRange, MoreLaw}
use Rattle.wind_machine.specs.State.{State}
use Rattle.wind_machine.specs.Extending.{IsRoom, Setup, bytes_asked, extended, more_of}
use Rattle.wind_session.specs.Live.{IsLive, TypedLaw}
use Rattle.wind_session.specs.Modules.{Shelf}
use Rattle.wind_session.specs.Outside.{Outside}
use Rattle.live_session.specs.Moments.{IsGiven}
use Rattle.live_session.specs.Record.{IsRecord, IsWithinFile}
use Rattle.live_session.specs.Seen.{LiveState, IsLiveAt, IsSound, StaysLive}
use Rattle.live_session.proofs.Recording.{added, room_after, sent_live, within_file}

-- an event at this time was sent and recorded, with its bytes and its line
pub record IsSentAt (l m : LiveState) (time : ℕ) (event : Event) (bytes line : List ℕ) : Type 0 where
  pub console : m.console ≡ appended l.console bytes
  pub ticks : m.ticks ≡ appended l.ticks line
  pub lines : m.lines ≡ l.lines + 1
  pub last : m.last ≡ time
  pub board : m.board ≡ extended (more_of bytes (l.lines + 1) time event l.board.schedule.on_demand) l.board
  pub late : l.last ≤ time
  pub later : l.board.time < time
  pub fits : time ≤ greatest_word
  pub range : IsInRange event
  pub asked : bytes_asked event ≡ length bytes
  pub line_is : line ≡ event_line time event ++ 10 ∷ []
  pub console_room : length bytes ≤ l.console.room
  pub ticks_room : length line ≤ l.ticks.room

module _ (more : MoreLaw) (l m : LiveState) (time : ℕ) (event : Event) (bytes line : List ℕ) (sound : IsSound l) (s : IsSentAt l m time event bytes line) where
  sent_sound : IsSound m
  sent_sound = record {
    kept =
        subst (λ (ticks : Output). IsRecord ticks m.lines m.last) (sym s.ticks)
        (subst (λ n. IsRecord (appended l.ticks line) n m.last) (sym s.lines)
        (subst (λ n. IsRecord (appended l.ticks line) (l.lines + 1) n) (sym s.last)
        (added more l.ticks l.lines l.last time event line sound.kept s.late s.fits s.range s.line_is s.ticks_room)));
    console = subst (λ (text : Output). IsWithinFile text) (sym s.console) (within_file l.console bytes s.console_room sound.console);
    room =
        subst (λ n. IsRoom n (m.lines + 1) m.board) (sym s.last)
        (subst (λ n. IsRoom time (n + 1) m.board) (sym s.lines)
        (subst (λ (b : State). IsRoom time (l.lines + 1 + 1) b) (sym s.board)
        (room_after l.last (l.lines + 1) time event bytes l.board.schedule.on_demand l.board s.late sound.room)));
    few = subst (λ (b : State). b.steps ≤ most_steps) (sym s.board) sound.few;
  }

  -- the board that took it is that of the longer record
  sent_at : TypedLaw → (shelf : Shelf) (setup : Setup) (old now : Outside) → IsLiveAt shelf setup l old now → IsLiveAt shelf setup m old now
  sent_at law shelf setup old now live =
      let grown = extended (more_of bytes (l.lines + 1) time event l.board.schedule.on_demand) l.board in
      subst (λ (b : State). IsLive shelf setup m.console.bytes m.ticks.bytes b old now) (sym s.board)
      (subst (λ (text : Output). IsLive shelf setup m.console.bytes text.bytes grown old now) (sym s.ticks)
      (subst (λ (text : Output). IsLive shelf setup text.bytes (l.ticks.bytes ++ line) grown old now) (sym s.console)
      (sent_live law more shelf setup l.console.bytes l.ticks l.lines l.last time event bytes line l.board old now sound.kept s.late s.fits s.range s.asked s.later s.line_is live)))

  -- its time is this one
  sent_is : (at : ℕ) → time ≡ at → IsGiven at event bytes l m
  sent_is at e = record {
    console = ap (λ (o : Output). o.bytes) s.console;
    ticks =
        ap (λ (o : Output). o.bytes) s.ticks ∙ ap (λ text. l.ticks.bytes ++ text) s.line_is
        ∙ ap (λ t. l.ticks.bytes ++ (event_line t event ++ 10 ∷ [])) e;
    last = s.last ∙ e;
    board = s.board ∙ ap (λ t. extended (more_of bytes (l.lines + 1) t event l.board.schedule.on_demand) l.board) e;
  }

  pub sent_stays : (at : ℕ) → time ≡ at → TypedLaw → IsGiven at event bytes l m × StaysLive l m
  sent_stays at e law = (sent_is at e, record { sound = sent_sound; live = sent_at law })
