-- What the longest of stretches is.
use Rattle.std.specs.Prelude.{◌≡◌, ◌⊎◌, ℕ, ◌≤◌, List, [], None, Some}
use Rattle.std.specs.List.{All, Contains}
use Rattle.trace_summary.specs.Holds.{hold_length, longest_hold}
use Rattle.trace_summary.specs.Stretches.{greatest, length_of, longest}
use Rattle.trace_summary.specs.declared.hold.Hold.{Hold}
use Rattle.trace_summary.specs.declared.stretch.Stretch.{Stretch}

-- the longest stretch is one of the stretches, and none is longer; it is none only if there is no stretch; the same for holds of a
-- mutex. The greatest number is one of the numbers, or 0, and none is greater
pub record LongestLaw : Type 0 where
  pub one : (ss : List Stretch) (best : Stretch) → longest ss ≡ Some best → Contains ss best
  pub most : (ss : List Stretch) (best : Stretch) → longest ss ≡ Some best → All (λ s. length_of s ≤ length_of best) ss
  pub none : (ss : List Stretch) → longest ss ≡ None → ss ≡ []
  pub one_hold : (hs : List Hold) (best : Hold) → longest_hold hs ≡ Some best → Contains hs best
  pub most_hold : (hs : List Hold) (best : Hold) → longest_hold hs ≡ Some best → All (λ h. hold_length h ≤ hold_length best) hs
  pub none_hold : (hs : List Hold) → longest_hold hs ≡ None → hs ≡ []
  pub number : (ns : List ℕ) → (greatest ns ≡ 0) ⊎ Contains ns (greatest ns)
  pub above : (ns : List ℕ) → All (λ n. n ≤ greatest ns) ns
