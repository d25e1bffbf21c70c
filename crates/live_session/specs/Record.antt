-- The record of a session.
use Rattle.std.specs.Prelude.{◌≡◌, ℕ, ◌+◌, ◌≤◌, List, [], ◌∷◌, length, Option, None, Some}
use Rattle.std.specs.Fmt.{decimal}
use Rattle.wind_base.specs.Limits.{longest_text_file}
use Rattle.wind_base.specs.OutBuf.{Output}
use Rattle.tick_file.specs.declared.event.Event.{Event}
use Rattle.tick_file.specs.Writing.{recorded, AreRecordable}

-- the time of the last event, or this one if there is none
abbrev pub last_time : ℕ → List (ℕ × Event) → ℕ
last_time time [] = time
last_time time (x ∷ xs) = last_time x.0 xs

-- a text has room for more, up to the longest text file, and for no more
abbrev pub IsWithinFile : Output → Type 0
IsWithinFile text = length text.bytes + text.room ≡ longest_text_file

-- a tick file has one line for each of some events, which a tick file can hold; these are the number of its lines and the
-- last time
pub record IsRecord (ticks : Output) (lines last : ℕ) : Type 0 where
  pub events : List (ℕ × Event)
  pub text : ticks.bytes ≡ recorded events
  pub count : lines ≡ length events
  pub few : lines ≤ length ticks.bytes
  pub fits : AreRecordable 0 events
  pub last_is : last ≡ last_time 0 events
  pub within : IsWithinFile ticks

-- a number after a blank, if there is one
abbrev pub number_text : Option ℕ → List ℕ
number_text None = []
number_text (Some n) = 32 ∷ decimal n
