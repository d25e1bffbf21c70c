-- What a contract sees of waiters: which task waits where and by which key, and which is first at a place.
use Rattle.std.specs.Prelude.{ℕ, ◌≤◌, Bool, ◌&&◌, ◌==◌, List, [], ◌∷◌, length, Option}
use Rattle.std.specs.Cmp.Lexicographic.{slice_cmp}
use Rattle.std.specs.Ordering.{is_lt, nat_cmp}
use Rattle.std.specs.Option.{option_map}
use Rattle.linked_lists.specs.IdTablePlace.{Place}
use Rattle.linked_lists.specs.IdTableRecords.{of_id, with_record, without, Rising}
use Rattle.linked_lists.specs.IdTableSorting.{first, in_line}
use Rattle.wait_order.specs.declared.waits.Waiter.{Waiter}

-- the waiters by rising id, and the greatest number of them
pub record Line : Type 0 where
  pub waiters : List Waiter
  pub room : ℕ

-- the id of a waiter
abbrev pub waiter_id : Waiter → ℕ
waiter_id w = w.who

-- the waiter with this id
abbrev pub waiter_of : List Waiter → ℕ → Option Waiter
waiter_of ws id = of_id waiter_id ws id

-- one more waiter
abbrev pub with_waiter : Line → Waiter → Line
with_waiter l w = record l { waiters = with_record waiter_id l.waiters w }

-- the waiters without the one with this id
abbrev pub without_waiter : Line → ℕ → Line
without_waiter l id = record l { waiters = without waiter_id l.waiters id }

-- a waiter's key: its priority, then its order number, then its id
abbrev pub key : Waiter → List ℕ
key w = w.pri ∷ w.since ∷ w.who ∷ []

-- the waiter with the lesser key is before: the first differing number decides
abbrev pub stands_before : Waiter → Waiter → Bool
stands_before v w = is_lt (slice_cmp nat_cmp (key v) (key w))

-- the waiter waits at this place
abbrev pub stands_at : Place → Waiter → Bool
stands_at place w = w.place.side == place.side && w.place.id == place.id

-- the waiters at a place, in order
abbrev pub line_at : List Waiter → Place → List Waiter
line_at ws place = in_line stands_before (stands_at place) ws

-- the id of the first waiter at a place
abbrev pub first_at : List Waiter → Place → Option ℕ
first_at ws place = option_map waiter_id (first (line_at ws place))

-- the invariant of a line: there are at most as many waiters as room, and their ids rise
pub record IsLine (l : Line) : Type 0 where
  pub few : length l.waiters ≤ l.room
  pub rising : Rising waiter_id l.waiters
