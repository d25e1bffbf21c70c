-- The console, as plain data.
use Rattle.std.specs.Prelude.{ℕ, List, [], Bool, false}

-- the edited line, the mark that the last byte was 0x0D, and the finished lines, each with its 0x0A, oldest first
pub record ConsoleState : Type 0 where
  pub edited : List ℕ
  pub after_return : Bool
  pub finished : List ℕ

abbrev pub console_of : List ℕ → Bool → List ℕ → ConsoleState
console_of edited mark finished = record { edited = edited; after_return = mark; finished = finished }

-- the console before its first byte
abbrev pub opening_console : ConsoleState
opening_console = console_of [] false []
