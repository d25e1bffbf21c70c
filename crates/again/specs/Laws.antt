-- What follows from the definitions of such a run alone.
use Rattle.std.specs.Prelude.{◌≡◌, ℕ, ◌<◌, List, Some}
use Rattle.board_player.specs.WindMachineState.{State}
use Rattle.board_player.specs.WindMachineMachine.{file_asked}
use Rattle.board_player.specs.WindMachineRun.{Answers, after, text}
use Rattle.again.specs.Libraries.{Library, answers_in, at, text_in}

-- the first k steps of a run from s got the library's answers
abbrev pub AreOf : Library → Answers → State → ℕ → Type 0
AreOf library said s k = (j : ℕ) → j < k → (name : List ℕ) → file_asked (after said s j) ≡ Some name → said j ≡ library name

-- two runs are at the same state after k steps, and wrote the same
abbrev pub IsOne : Library → Answers → State → ℕ → Type 0
IsOne library said s k = (after said s k ≡ at library s k) × (text said s k ≡ text_in library s k)

-- it is one run: a run of the machine with the library's answers is at the same state after as many steps
abbrev pub OneRunLaw : Type 0
OneRunLaw = (library : Library) (said : Answers) (s : State) (k : ℕ) → AreOf library said s k → IsOne library said s k

-- and its answers are those of such a run
abbrev pub AnswersLaw : Type 0
AnswersLaw = (library : Library) (s : State) (k : ℕ) → IsOne library (answers_in library s) s k
