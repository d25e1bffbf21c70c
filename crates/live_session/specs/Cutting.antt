-- What is left of a record's texts after a crash.
use Rattle.std.specs.Prelude.{◌≡◌, ℕ, ◌+◌, ◌-◌, ◌≤◌, ◌==◌, nat_le, if◌then◌else◌, List, [], ◌∷◌, length, take}
use Rattle.std.specs.List.{list_any, sum_by}
use Rattle.tick_file.specs.declared.event.Event.{Event}
use Rattle.tick_file.specs.Writing.{AreRecordable, recorded}
use Rattle.wind_machine.specs.Extending.{bytes_asked}
use Rattle.live_session.specs.Record.{last_time}

-- a text up to its last 0x0A
abbrev pub whole_lines : List ℕ → List ℕ
whole_lines [] = []
whole_lines (b ∷ bs) = if list_any (λ x. x == 10) (b ∷ bs) then b ∷ whole_lines bs else []

-- how many bytes these events bring
abbrev pub bytes_of : List (ℕ × Event) → ℕ
bytes_of events = sum_by (λ x. bytes_asked x.1) events

-- the first of these events, as far as this many bytes last
abbrev pub served : ℕ → List (ℕ × Event) → List (ℕ × Event)
served left [] = []
served left (x ∷ xs) = if nat_le (bytes_asked x.1) left then x ∷ served (left - bytes_asked x.1) xs else []

-- a console file and a tick file as a crash leaves them, and what is kept of them: the lines whose bytes are there, and
-- these bytes. The whole lines are those of some events later than 0, and at most the last of them lacks its bytes
pub record IsCut (console ticks kept_console kept_ticks : List ℕ) : Type 0 where
  pub events : List (ℕ × Event)
  pub lines : whole_lines ticks ≡ recorded events
  pub fits : AreRecordable 1 events
  pub kept_ticks_is : kept_ticks ≡ recorded (served (length console) events)
  pub kept_console_is : kept_console ≡ take (bytes_of (served (length console) events)) console
  pub last : length events ≤ length (served (length console) events) + 1

-- the first of these events, as far as this many bytes last: their text, their bytes, their number and the last time
pub record IsServed (len : ℕ) (events : List (ℕ × Event)) (ticks : List ℕ) (bytes lines last : ℕ) : Type 0 where
  pub text : ticks ≡ recorded (served len events)
  pub sum : bytes ≡ bytes_of (served len events)
  pub within : bytes ≤ len
  pub count : lines ≡ length (served len events)
  pub last_is : last ≡ last_time 0 (served len events)

-- these texts are those of some events
pub record IsTextOf (console ticks : List ℕ) (lines last : ℕ) : Type 0 where
  pub events : List (ℕ × Event)
  pub text : ticks ≡ recorded events
  pub fits : AreRecordable 1 events
  pub count : lines ≡ length events
  pub last_is : last ≡ last_time 0 events
  pub bytes : length console ≡ bytes_of events
