-- The invariant of an evaluation.
use Rattle.std.specs.Prelude.{◌≡◌, ℕ, ◌+◌, ◌≤◌, Bool, true, false, List, length}
use Rattle.shell_eval.specs.declared.code.Op.{Op}
use Rattle.shell_eval.specs.declared.code.Entry.{Entry}
use Rattle.shell_eval.specs.Room.{Entries}
use Rattle.shell_eval.specs.State.{State}
use Rattle.shell_eval.specs.Pending.{Pending}
use Rattle.shell_eval.specs.Evaluate.{evaluate}
use Rattle.shell_eval.specs.Moved.{came}
use Rattle.shell_eval.specs.Follows.{tree_of, tree_with_hole}
use Rattle.shell_eval.specs.Frames.{Stands, Awaits}
use Rattle.shell_eval.specs.Laws.{holes}
use Rattle.shell_eval.specs.Ran.{is_call}
use Rattle.shell_eval.specs.declared.went.Went.{Went}

-- code and entries await a call's answer, or are at a place in a tree
abbrev pub IsAt : Bool → List Op → List Entry → Type 0
IsAt true c st = Awaits c st
IsAt false c st = Stands c st

-- the tree that code and entries show
abbrev pub tree_at : Bool → List Op → List Entry → Pending
tree_at true c st = tree_with_hole c st
tree_at false c st = tree_of c st

-- the room, in entries, for a call's answer
abbrev pub room_of : Bool → ℕ
room_of true = 1
room_of false = 0

-- the most operations
abbrev pub most_operations : ℕ
most_operations = 65536

-- the entries have room for all that the code can push
pub record IsEval (waits : Bool) (code : List Op) (stack : Entries) : Type 0 where
  pub at : IsAt waits code stack.list
  pub room : length code + room_of waits ≤ stack.room
  pub few : length code ≤ most_operations

-- the answers that are awaited after this: one after a call, else none
abbrev pub AwaitsAfter : Went → Pending → Type 0
AwaitsAfter went p = holes p ≡ room_of (is_call went)

-- evaluating this tree in this state came to this, and left that state and that tree
abbrev pub ComesTo : State → Pending → Went → State → Pending → Type 0
ComesTo s p went t q = came went t q ≡ evaluate s p
