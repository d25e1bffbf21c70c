-- What a task does at a moment.
use Rattle.std.specs.Prelude.{ℕ, Bool, true, false, not, ◌==◌, ◌&&◌, Option, None, Some, is_some, if◌then◌else◌}
use denote.Enum.Declared.{tag_of}
use Rattle.board_changes.specs.declared.view.TaskView.{TaskView}
use Rattle.board_changes.specs.contracts.look.Standing.{the_type}
use Rattle.board_changes.specs.declared.look.Look.{Look}
use Rattle.board_changes.specs.declared.look.Standing.{Standing}
use Rattle.board_changes.specs.declared.look.Standing.TheVariants.{Running, Ready, Waiting, Sleeping, Suspended}

-- what a task does: it is suspended; else it waits, or sleeps; else it runs, or is ready
abbrev pub standing_of : Bool → TaskView → Standing
standing_of runs t =
    if t.suspended then Suspended
    else if is_some t.wait then Waiting
    else if is_some t.wake then Sleeping
    else if runs then Running
    else Ready

-- the task is the one that runs
abbrev pub is_runner : Option ℕ → ℕ → Bool
is_runner None id = false
is_runner (Some who) id = who == id

-- the look of a task, given which task runs
abbrev pub look_of : Option ℕ → TaskView → Look
look_of runner t = record { standing = standing_of (is_runner runner t.id) t; object = t.wait; inherits = not (t.pri == t.normal) }

-- two flags are the same
abbrev pub same_flag : Bool → Bool → Bool
same_flag true b = b
same_flag false b = not b

-- two standings are the same
abbrev pub same_standing : Standing → Standing → Bool
same_standing s t = tag_of the_type s == tag_of the_type t

-- two looks of a task are the same
abbrev pub is_same : Look → Look → Bool
is_same a b = same_standing a.standing b.standing && same_flag a.inherits b.inherits
