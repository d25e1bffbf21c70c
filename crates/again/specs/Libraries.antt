-- The run of a session in which each module file has one answer.
use Rattle.std.specs.Prelude.{ℕ, zero, suc, ◌<◌, ◌≡◌, List, [], ◌++◌, Option, Some, None, IsSome, unwrap_or}
use Rattle.board_player.specs.LiveLoadingSaid.{FileSaid, Missing}
use Rattle.board_player.specs.WindMachineState.{State}
use Rattle.board_player.specs.WindMachineMachine.{file_asked, machine_step}
use Rattle.board_player.specs.WindMachineRun.{Answers}

-- the answer about each module, by its name
abbrev pub Library : Type 0
Library = List ℕ → FileSaid

-- the answer that a step gets which asks for this file; one that asks for none doesn't use it
abbrev pub said_for : Library → Option (List ℕ) → FileSaid
said_for library None = Missing
said_for library (Some name) = library name

abbrev pub said_in : Library → State → FileSaid
said_in library s = said_for library (file_asked s)

-- the state after one step more; the same state if there is none
abbrev pub step_in : Library → State → State
step_in library s = unwrap_or (machine_step (said_in library s) s) s

-- the state after k steps, or the last state if there are fewer
abbrev pub at : Library → State → ℕ → State
at library start zero = start
at library start (suc k) = step_in library (at library start k)

-- what the first k steps write
abbrev pub text_in : Library → State → ℕ → List ℕ
text_in library start zero = []
text_in library start (suc k) = text_in library start k ++ (at library start (suc k)).world.output

-- the answers of that run, step by step
abbrev pub answers_in : Library → State → Answers
answers_in library start k = said_in library (at library start k)

-- k steps lead from the start to this state; each of them was made, and this is what they wrote
pub record Reaches (library : Library) (start : State) (k : ℕ) (s : State) (written : List ℕ) : Type 0 where
  pub state : s ≡ at library start k
  pub made : (j : ℕ) → j < k → IsSome (machine_step (said_in library (at library start j)) (at library start j))
  pub text : written ≡ text_in library start k
