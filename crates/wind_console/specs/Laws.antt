-- What follows from the machine's definitions for the bytes of its console.
use Rattle.std.specs.Prelude.{◌≡◌, ◌⊎◌, ℕ, suc, List, [], ◌∷◌, ◌++◌, Option}
use Rattle.wind_base.specs.declared.board_kind.BoardKind.{BoardKind}
use Rattle.wind_base.specs.declared.profile.Profile.{Profile}
use Rattle.wind_outside.specs.Devices.{DeviceState}
use Rattle.con_line.specs.State.{ConsoleState}
use Rattle.con_line.specs.Laws.{joined}
use Rattle.con_line.specs.Fates.{Entry, from_file, from_supply, in_lines, Continues}
use Rattle.tick_file.specs.Schedule.{timetable_of}
use Rattle.wind_machine.specs.State.{State}
use Rattle.wind_machine.specs.Machine.{opening}
use Rattle.wind_machine.specs.Run.{Answers, after}
use Rattle.wind_console.specs.Journal.{journal, lines_read}

-- how the journal of a console file agrees with the lines that the shell read, the bytes left, and the console
pub record IsConserved (file : List ℕ) (lines : List (List ℕ)) (es : List Entry) (left : List ℕ) (c : ConsoleState) : Type 0 where
  -- the bytes of the file that arrived, followed by those that are left, are the file
  pub arrived : from_file es ++ left ≡ file
  -- at most one newline was supplied, and then no byte is left
  pub supplied : (from_supply es ≡ []) ⊎ ((from_supply es ≡ 10 ∷ []) × (left ≡ []))
  -- the bytes that weren't dropped are, in the order in which they arrived, the lines that the shell read, the finished
  -- lines, and the edited line
  pub placed : in_lines es ≡ joined lines ++ (c.finished ++ c.edited)

-- after k steps from a state they agree, and the next step keeps the fate of each byte that was dropped
pub record IsConservedAfter (said : Answers) (file : List ℕ) (s : State) (k : ℕ) : Type 0 where
  pub here : IsConserved file (lines_read said s k) (journal said s k) (after said s k).left (after said s k).console
  pub later : Continues (journal said s k) (journal said s (suc k))

-- this holds in every run, under each rule of inheritance and on each board, whatever the console file, the tick file,
-- the module files and the devices are
abbrev pub ConsoleLaw : Type 0
ConsoleLaw = (said : Answers) (console ticks : List ℕ) (slots : List (Option DeviceState))
    → (profile : Profile) (board : BoardKind) (k : ℕ)
    → IsConservedAfter said console (opening console (timetable_of ticks) slots profile board) k
