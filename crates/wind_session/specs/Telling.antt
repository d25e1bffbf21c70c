-- What a run tells, step by step.
use Rattle.std.specs.Prelude.{◌≡◌, ℕ, ◌+◌, ◌<◌, ◌≤◌, List, Option, length}
use Rattle.board_player.specs.KernelWorldReply.{Reply}
use Rattle.wind_outside.specs.Requests.{GrowsBy, Request}
use Rattle.generated_session.specs.Puts.{SinkLog}
use Rattle.board_player.specs.WindMachineState.{State}
use Rattle.board_player.specs.WindMachineReplies.{step_reply}
use Rattle.board_player.specs.WindMachineRun.{Answers, after, text, IsPart}
use Rattle.wind_session.specs.Modules.{Shelf, AreSaid}
use Rattle.wind_session.specs.Fetches.{requests_of}
use Rattle.wind_session.specs.Outside.{Outside, sink_of}
use Rattle.wind_session.specs.Runs.{Made, TellsOr}
use Rattle.wind_session.specs.declared.run.RunEnd.{RunEnd}

-- after i steps from s, the step from u to t was made, with this reply; of the files, the same was said at the steps
-- before
pub record GoesOn (said next : Answers) (s u t : State) (reply : Option Reply) (i : ℕ) : Type 0 where
  pub same : (j : ℕ) → j < i → said j ≡ next j
  pub from : u ≡ after said s i
  pub to : t ≡ after next s (i + 1)
  pub replied : reply ≡ step_reply (next i) u

-- a step led to this state; both of these hold of the state before it
abbrev pub StepFrom : (State → Type 0) → (State → Type 0) → State → Type 0
StepFrom Reads Holds t = (u : State) × Reads u × (t.steps ≡ u.steps + 1) × Holds u

-- ---- a run
-- after i steps of a run of at most n, this is the board; the files that the steps needed were as the folder of modules
-- says, and each was fetched once
pub record After (shelf : Shelf) (said : Answers) (s : State) (n i : ℕ) (board : State) (old now : Option (List Request)) : Type 0 where
  pub counted : board.steps ≡ i
  pub answers : AreSaid shelf said s i
  pub part : IsPart said s n i
  pub state : board ≡ after said s i
  pub requests : GrowsBy old now (requests_of shelf.name said s i)

-- a run of at most n steps from this start has made i, which led to this board, and they were told
pub record Underway (Tells : SinkLog → SinkLog → Answers → State → ℕ → Type 0) (shelf : Shelf) (said : Answers) (start : State) (n i : ℕ) (board : State) (first now : Outside) : Type 0 where
  pub run : After shelf said start n i board first.requests now.requests
  pub told : Tells (sink_of first) (sink_of now) said start i

-- a run of at most n steps from s ended after k steps, and left this board; what was told fits the files' answers, k and
-- how the run ended
pub record Told (Tells : Answers → ℕ → RunEnd → Type 0) (shelf : Shelf) (s : State) (n : ℕ) (board : State) (old new : Option (List Request)) : Type 0 where
  pub said : Answers
  pub k : ℕ
  pub end : RunEnd
  pub made : Made end shelf said s n k board old new
  pub tells : Tells said k end

-- the steps of a run that ended with this result were told, or the last put failed
abbrev pub IsTold : (Answers → State → ℕ → Type 0) → (Answers → State → ℕ → Type 0) → RunEnd → State → Answers → ℕ → RunEnd → Type 0
IsTold Tells Lost result s said k end = (result ≡ end) × TellsOr Tells Lost end said s k

-- the run was given up, and this is told of the first j of its k steps
abbrev pub IsToldInPart : (Answers → State → ℕ → Type 0) → State → Answers → ℕ → RunEnd → Type 0
IsToldInPart Part s said k end = (j : ℕ) × (j ≤ k) × Part said s j

-- ---- a count
-- nothing was put, and k steps wrote this many bytes in total
abbrev pub CountsBytes : ℕ → SinkLog → SinkLog → Answers → State → ℕ → Type 0
CountsBytes bytes first now said s k = (now ≡ first) × (bytes ≡ length (text said s k))
