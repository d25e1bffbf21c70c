-- What follows from the definitions alone.
use Rattle.std.specs.Prelude.{◌≡◌, ℕ, ◌<◌, ◌⊎◌}
use Rattle.id_table.specs.Sides.{deletion_side}
use Rattle.wind_core.specs.State.{KernState, IsKern, Lives, task_of}
use Rattle.wind_core.specs.Move.{Move, Remove, Pend, Reset, Set, apply}
use Rattle.wind_core.specs.declared.settings.Setting.TheVariants as settings
use Rattle.task_safety.specs.Safety.{safe_of, make_safe, lessen}
use Rattle.task_safety.specs.Deletion.{delete}
use Rattle.task_safety.specs.Kept.{IsSafe, KeepsDeleters, WaitsForNothing}

-- ---- which tasks are removed
-- a task that is live before a call and not after it was in no safe section, or made the call itself
abbrev pub GoesUnsafe : KernState → ℕ → KernState → Type 0
GoesUnsafe s caller n = (id : ℕ) → Lives s id → (Lives n id → ⊥) → (safe_of (task_of s.tasks id) ≡ 0) ⊎ (id ≡ caller)

-- that holds for a deletion, and no task is removed when a safe section begins or ends
pub record GoneBy (s : KernState) : Type 0 where
  pub deleting : (caller target : ℕ) → GoesUnsafe s caller (delete s caller target)
  pub guarding : (who id : ℕ) → Lives s id → Lives (make_safe s who) id
  pub easing : (who n id : ℕ) → Lives s id → Lives (lessen s who n) id

-- that holds in every state
abbrev pub GoneLaw : Type 0
GoneLaw = (s : KernState) → GoneBy s

-- ---- the invariant of waits for a deletion
-- a move leaves those waits alone: it removes no task in a safe section, ends no task's last safe section,
-- begins no such wait, and keeps the mark of each task that waits so
abbrev pub SparesDeleters : KernState → Move → Type 0
SparesDeleters k (Remove who) = safe_of (task_of k.tasks who) ≡ 0
SparesDeleters k (Pend who place fifo n) = place.side ≡ deletion_side → ⊥
SparesDeleters k (Reset who) = WaitsForNothing k who
SparesDeleters k (Set who (settings.Safe n)) = IsSafe k who → 0 < n
SparesDeleters k (Set who (settings.Again on)) = WaitsForNothing k who
SparesDeleters k m = Unit {0}

-- such a move keeps the invariant, whichever task it names
abbrev pub KeptLaw : Type 0
KeptLaw = (k : KernState) (m : Move) → IsKern k → KeepsDeleters k → SparesDeleters k m → KeepsDeleters (apply k m)

-- so do the calls on safe sections, and deletions
pub record KeptByCalls (s : KernState) : Type 0 where
  pub guarding : (who : ℕ) → KeepsDeleters (make_safe s who)
  pub easing : (who n : ℕ) → KeepsDeleters (lessen s who n)
  pub deleting : (caller target : ℕ) → WaitsForNothing s caller → KeepsDeleters (delete s caller target)

-- these calls keep the invariant
abbrev pub CallsLaw : Type 0
CallsLaw = (s : KernState) → IsKern s → KeepsDeleters s → KeptByCalls s
