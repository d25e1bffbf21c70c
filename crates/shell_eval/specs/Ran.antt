-- What came of running code.
use Rattle.std.specs.Prelude.{◌≡◌, ℕ, ◌+◌, ◌<◌, ◌≤◌, Bool, true, false, List, length}
use Rattle.shell_eval.specs.declared.code.Op.{Op}
use Rattle.shell_eval.specs.declared.code.Entry.{Entry}
use Rattle.shell_eval.specs.declared.step.Stepped.{Stepped}
use Rattle.shell_eval.specs.declared.step.Stepped.TheVariants as steps
use Rattle.shell_eval.specs.declared.run.Advanced.{Advanced}
use Rattle.shell_eval.specs.declared.run.Advanced.TheVariants as code
use Rattle.wind_base.specs.OutBuf.{KeepsSpace}
use Rattle.shell_eval.specs.State.{State}
use Rattle.shell_eval.specs.Room.{Entries}
use Rattle.shell_eval.specs.declared.env.Env.{Env}
use Rattle.shell_eval.specs.declared.went.Went.{Went}
use Rattle.shell_eval.specs.declared.went.Went.TheVariants as went
use Rattle.shell_eval.specs.Frames.{Stands, Awaits}
use Rattle.shell_eval.specs.Machine.{Moved, Ends, Goes, Makes, Stops}
use Rattle.shell_eval.specs.Seen.{Ready, SameEnv, SameSize}

-- an operation's outcome
abbrev pub of_step : Stepped → Advanced
of_step steps.Goes = code.Goes
of_step (steps.Calls callee words) = code.Calls callee words
of_step (steps.Faults f) = code.Faults f

-- the outcome, with the state, the code and the entries that it left
abbrev pub advanced : Advanced → State → List Op → List Entry → Moved
advanced (code.Ends n) s c st = Ends s n
advanced code.Goes s c st = Goes s c st
advanced (code.Calls callee words) s c st = Makes s callee words c st
advanced (code.Faults f) s c st = Stops s f

-- the room for a value, if the code has stopped before its end
abbrev pub left_room : Advanced → ℕ
left_room (code.Ends n) = 0
left_room code.Goes = 0
left_room (code.Calls callee words) = 1
left_room (code.Faults f) = 1

-- if the code has ended, nothing has changed
abbrev pub IsEnd : Advanced → List Op → List Op → Entries → Entries → Type 0
IsEnd (code.Ends n) c d st ts = (d ≡ c) × (ts ≡ st)
IsEnd code.Goes c d st ts = Unit {0}
IsEnd (code.Calls callee words) c d st ts = Unit {0}
IsEnd (code.Faults f) c d st ts = Unit {0}

-- the code never grows, and shrinks if it goes on; with this room for entries after it, what is left
-- of the code has its room, and the environment has what that code can need
pub record Proceeds {I : Type 0} {X : I → Type 0} (next : Advanced) (before after : List Op) (room : ℕ) (old new : Env I X) : Type 0 where
  pub less : next ≡ code.Goes → length after < length before
  pub code : length after ≤ length before
  pub entries : length after + left_room next ≤ room
  pub ready : Ready (length after) new
  pub space : KeepsSpace old.out.now new.out.now
  pub same : SameEnv old new
  pub size : SameSize old new

-- the code and the entries after a run
abbrev pub IsAfter : Went → List Op → List Entry → Type 0
IsAfter (went.Value n) c st = Stands c st
IsAfter (went.Call callee words) c st = Awaits c st
IsAfter (went.Fault f) c st = Unit {0}

-- the room for a call's answer, or for the value after a fault
abbrev pub room_after : Went → ℕ
room_after (went.Value n) = 0
room_after (went.Call callee words) = 1
room_after (went.Fault f) = 1

-- whether the run came to a call
abbrev pub is_call : Went → Bool
is_call (went.Value n) = false
is_call (went.Call callee words) = true
is_call (went.Fault f) = false
