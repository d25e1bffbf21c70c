-- What follows from the order of waiters alone.
use Rattle.std.specs.Prelude.{◌≡◌, ℕ, true, false, ◌==◌, if◌then◌else◌, List, None, Some}
use Rattle.std.specs.List.{All, Contains}
use Rattle.linked_lists.specs.IdTablePlace.{Place}
use Rattle.wait_order.specs.declared.waits.Waiter.{Waiter}
use Rattle.wait_order.specs.Line.{Line, waiter_of, with_waiter, without_waiter, stands_before, stands_at, first_at}

-- the first at a place waits there, and no waiter there is before it
pub record IsFirst (ws : List Waiter) (place : Place) (who : ℕ) : Type 0 where
  pub waiter : Waiter
  pub own : waiter.who ≡ who
  pub waits : Contains ws waiter
  pub here : stands_at place waiter ≡ true
  pub least : (w : Waiter) → Contains ws w → stands_at place w ≡ true → stands_before w waiter ≡ false

-- the first waiter of a place is such a waiter
abbrev pub FirstLaw : Type 0
FirstLaw = (ws : List Waiter) (place : Place) (who : ℕ) → first_at ws place ≡ Some who → IsFirst ws place who

-- if a place has no first waiter, no task waits there
abbrev pub NobodyLaw : Type 0
NobodyLaw = (ws : List Waiter) (place : Place) → first_at ws place ≡ None → All (λ w. stands_at place w ≡ false) ws

-- an added waiter is there with its key, and the others stay as they were
abbrev pub PutLaw : Type 0
PutLaw = (l : Line) (w : Waiter) (id : ℕ) → waiter_of l.waiters w.who ≡ None
    → waiter_of (with_waiter l w).waiters id ≡ (if w.who == id then Some w else waiter_of l.waiters id)

-- a removed waiter isn't there, and the others stay as they were
abbrev pub TakeLaw : Type 0
TakeLaw = (l : Line) (who id : ℕ) → waiter_of (without_waiter l who).waiters id ≡ (if id == who then None else waiter_of l.waiters id)
