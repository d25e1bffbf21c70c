-- The kernel's moves as one type, and the state after each.
use Rattle.std.specs.Prelude.{◌≡◌, ℕ, ◌+◌, ◌<◌, ◌≤◌, Bool, List, [], ◌∷◌, Option, None}
use Rattle.std.specs.List.{fold}
use Rattle.wind_base.specs.Limits.{greatest_id}
use Rattle.wind_base.specs.declared.errno.Errno.{Errno}
use Rattle.wind_base.specs.declared.regs.Regs.{Regs}
use Rattle.id_table.specs.declared.ident.Place.{Place}
use Rattle.task_block.specs.declared.task.NewTask.{NewTask}
use Rattle.wind_core.specs.State.{KernState}
use Rattle.wind_core.specs.declared.settings.Setting.{Setting}
use Rattle.wind_core.specs.Moves.{spawn, spawn_refusal, remove, pend, delay, release, end_wait, wake_all, suspend, resume, change_pri, reset, change_task, with_setting, set_regs}
use Rattle.wind_core.specs.Releases.{release_all}
use Rattle.wind_core.specs.Tick.{tick}

-- a move of the kernel, with its arguments
pub data Move : Type 0 where
  -- a task is made
  Spawn : (n : NewTask) → Move
  -- a task is removed
  Remove : (who : ℕ) → Move
  -- a task begins to wait at a place, for at most n ticks
  Pend : (who : ℕ) → (place : Place) → (fifo : Bool) → (n : ℕ) → Move
  -- a task is delayed for n ticks
  Delay : (who : ℕ) → (n : ℕ) → Move
  -- a task's wait or delay ends without a result
  Release : (who : ℕ) → Move
  -- all waits at a place end without a result
  ReleaseAll : (place : Place) → Move
  -- a task's wait or delay ends with a result
  EndWait : (who : ℕ) → (value : ℕ) → (errno : Option Errno) → Move
  -- all waits at a place end with a result
  WakeAll : (place : Place) → (value : ℕ) → (errno : Option Errno) → Move
  -- a tick of the clock
  Tick : Move
  -- a task is suspended
  Suspend : (who : ℕ) → Move
  -- a task is resumed
  Resume : (who : ℕ) → Move
  -- a task's priority changes
  ChangePri : (who : ℕ) → (pri : ℕ) → Move
  -- a task's suspension, scheduler locks, interrupt lock and mark of a repeated call are cleared
  Reset : (who : ℕ) → Move
  -- a task is changed, and stays where it is in every queue
  Set : (who : ℕ) → (setting : Setting) → Move
  -- a task's registers change
  SetRegs : (who : ℕ) → (regs : Regs) → Move
  -- the task that ran last is recorded
  SetLast : (last : Option ℕ) → Move
  -- a time slice lasts n ticks
  SetSlice : (n : ℕ) → Move
  -- other objects take ids, and this id is next
  DrawIds : (next : ℕ) → Move
  -- the ids are lent to other objects, or put back
  Lend : (on : Bool) → Move

-- the state after a move
abbrev pub apply : KernState → Move → KernState
apply k (Spawn n) = spawn k n
apply k (Remove who) = remove k who
apply k (Pend who place fifo n) = pend k who place fifo n
apply k (Delay who n) = delay k who n
apply k (Release who) = release k who
apply k (ReleaseAll place) = release_all k place
apply k (EndWait who value errno) = end_wait k who value errno
apply k (WakeAll place value errno) = wake_all k place value errno
apply k Tick = tick k
apply k (Suspend who) = suspend k who
apply k (Resume who) = resume k who
apply k (ChangePri who pri) = change_pri k who pri
apply k (Reset who) = reset k who
apply k (Set who setting) = change_task k who (with_setting setting)
apply k (SetRegs who regs) = set_regs k who regs
apply k (SetLast last) = record k { last = last }
apply k (SetSlice n) = record k { slice = n }
apply k (DrawIds next) = record k { next_id = next }
apply k (Lend on) = record k { lent = on }

-- what a move requires: a spawn isn't refused, a wait has a timeout above 0, and the next id rises within its range
abbrev pub IsAllowed : KernState → Move → Type 0
IsAllowed k (Spawn n) = spawn_refusal k ≡ None
IsAllowed k (Pend who place fifo n) = 0 < n
IsAllowed k (DrawIds next) = (k.next_id ≤ next) × (next ≤ greatest_id + 1)
IsAllowed k m = Unit {0}

-- the next id doesn't fall
abbrev pub IsRising : KernState → Move → Type 0
IsRising k (DrawIds next) = k.next_id ≤ next
IsRising k m = Unit {0}

-- ---- several moves
-- the state after these moves, in their order
abbrev pub after : KernState → List Move → KernState
after k ms = fold apply k ms

-- each of these moves has a property in the state in which it is made
abbrev pub EachMove : (KernState → Move → Type 0) → KernState → List Move → Type 0
EachMove P k [] = Unit {0}
EachMove P k (m ∷ ms) = P k m × EachMove P (apply k m) ms
