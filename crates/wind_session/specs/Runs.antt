-- What a run of the wind machine leaves.
use Rattle.std.specs.Prelude.{◌≡◌, ◌≢◌, ℕ, suc, ◌<◌, List, [], ◌++◌, Option, IsSome, Bool, true, false, take, length}
use Rattle.wind_outside.specs.Appending.{Appended}
use Rattle.wind_outside.specs.Requests.{GrowsBy, Request}
use Rattle.wind_outside.specs.declared.sink.Put.TheVariants as puts
use Rattle.generated_session.specs.Puts.{SinkLog}
use Rattle.board_player.specs.WindMachineState.{State}
use Rattle.board_player.specs.WindMachineMachine.{file_asked, IsOver, may_exhaust_memory}
use Rattle.board_player.specs.WindMachineRun.{Answers, after, text, IsPart}
use Rattle.wind_session.specs.Modules.{Shelf, AreSaid}
use Rattle.wind_session.specs.Fetches.{Requests}
use Rattle.wind_session.specs.Outside.{Outside, sink_of}
use Rattle.wind_session.specs.Pieces.{output_piece, pieces_of}
use Rattle.wind_session.specs.declared.run.RunEnd.{RunEnd}
use Rattle.wind_session.specs.declared.run.RunEnd.TheVariants as ends

-- why no step is made from a state: none is left, its file can't be read, or memory runs out and the step permits it
abbrev pub IsHalt : RunEnd → State → Type 0
IsHalt ends.Quiet s = IsOver s
IsHalt ends.ReadFault s = IsSome (file_asked s)
IsHalt ends.NoMemory s = may_exhaust_memory s ≡ true
IsHalt end s = ⊥

-- how a run of at most n steps from s ends after k steps: with n steps made, by a put that failed, or because no further step is made
abbrev pub IsEnd : RunEnd → Answers → State → ℕ → ℕ → Type 0
IsEnd ends.Limit said s n k = k ≡ n
IsEnd ends.WriteFault said s n k = Unit {0}
IsEnd end said s n k = (k < n) × IsHalt end (after said s k)

-- the last of k steps wrote something; the sink gained a part of it, after all that the steps before wrote, and the
-- put of its piece failed
pub record IsCutOff (old new : SinkLog) (said : Answers) (s : State) (k : ℕ) : Type 0 where
  pub before : ℕ
  pub last : k ≡ suc before
  pub wrote : (after said s k).world.output ≢ []
  pub part : ℕ
  pub gained : Appended old.bytes new.bytes (text said s before ++ take part (after said s k).world.output)
  pub pieces : GrowsBy old.pieces new.pieces (pieces_of said s before ++ output_piece (after said s k).world.output puts.Failed)

-- all that k steps wrote was put, one piece for each step that wrote anything
pub record IsPut (old new : SinkLog) (said : Answers) (s : State) (k : ℕ) : Type 0 where
  pub gained : Appended old.bytes new.bytes (text said s k)
  pub pieces : GrowsBy old.pieces new.pieces (pieces_of said s k)

-- of the steps of a run that ended like this, the first holds, or the second if a put failed
abbrev pub TellsOr : (Answers → State → ℕ → Type 0) → (Answers → State → ℕ → Type 0) → RunEnd → Answers → State → ℕ → Type 0
TellsOr Tells Lost ends.WriteFault said s k = Lost said s k
TellsOr Tells Lost ends.Quiet said s k = Tells said s k
TellsOr Tells Lost ends.Limit said s k = Tells said s k
TellsOr Tells Lost ends.ReadFault said s k = Tells said s k
TellsOr Tells Lost ends.NoMemory said s k = Tells said s k

-- what the sink has gained after k steps: all that they wrote, unless a put failed
abbrev pub IsWritten : RunEnd → Answers → State → ℕ → Outside → Outside → Type 0
IsWritten end said s k old new = TellsOr (IsPut (sink_of old) (sink_of new)) (IsCutOff (sink_of old) (sink_of new)) end said s k

-- the run was given up: a file could not be read, or memory ran out
abbrev pub is_given_up : RunEnd → Bool
is_given_up ends.ReadFault = true
is_given_up ends.NoMemory = true
is_given_up end = false

-- a run of at most n steps from s ended like this after k steps, and left this board;
-- the files that it needed were as the folder of modules says, and each was fetched once
pub record Made (end : RunEnd) (shelf : Shelf) (said : Answers) (s : State) (n k : ℕ) (board : State) (old new : Option (List Request)) : Type 0 where
  pub counted : board.steps ≡ k
  pub answers : AreSaid shelf said s k
  pub part : IsPart said s n k
  pub state : board ≡ after said s k
  pub ended : IsEnd end said s n k
  pub fetches : Requests end shelf.name said s k old new

-- the run left these bytes too
pub record Ran (end : RunEnd) (shelf : Shelf) (s : State) (n : ℕ) (board : State) (old new : Outside) : Type 0 where
  -- what was said of the files, and how many steps were made
  pub said : Answers
  pub k : ℕ
  pub made : Made end shelf said s n k board old.requests new.requests
  pub written : IsWritten end said s k old new

-- or the run put nothing, and its steps wrote this many bytes in total
pub record Counted (end : RunEnd) (shelf : Shelf) (s : State) (n bytes : ℕ) (board : State) (old new : Option (List Request)) : Type 0 where
  pub said : Answers
  pub k : ℕ
  pub made : Made end shelf said s n k board old new
  pub bytes_are : bytes ≡ length (text said s k)
  pub all_put : end ≢ ends.WriteFault
