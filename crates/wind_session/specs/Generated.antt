-- What is reported of the run of a generated session.
use Rattle.std.specs.Prelude.{ℕ, List, length}
use Rattle.generated_session.specs.Session.{summary_texts}
use Rattle.board_player.specs.WindMachineState.{State}
use Rattle.board_player.specs.WindMachineRun.{Answers, after, text}

-- the texts of the line for the first k steps from s, which ended with this status number
unfoldable pub summary : ℕ → Answers → State → ℕ → ℕ → List (List ℕ)
summary n said s k status = summary_texts n (length (text said s k)) k (after said s k).world.kern.tick status
