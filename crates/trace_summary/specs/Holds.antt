-- How long tasks held a mutex, by what comes and goes. Lists of holds are the newest first.
use Rattle.std.specs.Prelude.{ℕ, ◌-◌, if◌then◌else◌, List, [], ◌∷◌, Option, None, Some}
use Rattle.trace_summary.specs.Longest.{longer_by, longest_by}
use Rattle.trace_summary.specs.declared.hold.Hold.{Hold}
use Rattle.trace_summary.specs.declared.hold.Holding.{Holding}
use Rattle.trace_summary.specs.declared.usage.Move.{Move}

-- who holds the mutex and since when, if anybody does; and the holds that have ended
pub record HoldState : Type 0 where
  pub holding : Option Holding
  pub holds : List Hold

-- nobody has held it
abbrev pub unheld : HoldState
unheld = record { holding = None; holds = [] }

-- an owner comes, if there is one
abbrev pub begun : Option ℕ → ℕ → Option Holding
begun None time = None
begun (Some owner) time = Some (record { owner = owner; since = time })

-- a hold ends at this time, if there is one
abbrev pub ended : Option Holding → ℕ → Option Hold
ended None time = None
ended (Some h) time = Some (record { owner = h.owner; from = h.since; to = time })

abbrev pub with_hold : Option Hold → List Hold → List Hold
with_hold None holds = holds
with_hold (Some h) holds = h ∷ holds

-- who holds it after a move, given who did
abbrev pub holder_after : Move → Option Holding
holder_after m = if m.enters then begun m.owner m.time else None

-- after a move the hold that went on has ended
abbrev pub held_after : Move → HoldState → HoldState
held_after m h = record { holding = holder_after m; holds = with_hold (ended h.holding m.time) h.holds }

-- ---- the longest
abbrev pub hold_length : Hold → ℕ
hold_length h = h.to - h.from

-- the longest hold; of several, the earliest
abbrev pub longest_hold : List Hold → Option Hold
longest_hold holds = longest_by hold_length holds

-- the same with one more, if there is one
abbrev pub longer_of : Option Hold → Option Hold → Option Hold
longer_of None best = best
longer_of (Some h) best = longer_by hold_length h best
