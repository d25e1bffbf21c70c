-- Runs of the wind machine.
use Rattle.std.specs.Prelude.{ℕ, zero, suc, List, [], ◌++◌, IsSome, ◌<◌, ◌≤◌, unwrap_or}
use Rattle.live_loading.specs.Said.{FileSaid}
use Rattle.wind_machine.specs.State.{State}
use Rattle.wind_machine.specs.Machine.{machine_step}

-- what is said at each step of the file that it needs; a step that needs none doesn't use it
abbrev pub Answers : Type 0
Answers = ℕ → FileSaid

-- the state after k steps, or the last state if there are fewer
abbrev pub after : Answers → State → ℕ → State
after said s zero = s
after said s (suc k) = unwrap_or (machine_step (said k) (after said s k)) (after said s k)

-- what the first k steps write
abbrev pub text : Answers → State → ℕ → List ℕ
text said s zero = []
text said s (suc k) = text said s k ++ (after said s (suc k)).world.output

-- a run of at most n steps makes the first k: there is a step at each state before
pub record IsPart (said : Answers) (s : State) (n k : ℕ) : Type 0 where
  pub within : k ≤ n
  pub steps : (j : ℕ) → j < k → IsSome (machine_step (said j) (after said s j))
