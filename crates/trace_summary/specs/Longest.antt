-- The longest items of a list whose newest item is the first.
use Rattle.std.specs.Prelude.{ℕ, nat_le, if◌then◌else◌, List, [], ◌∷◌, Option, None, Some}

-- an item, or the longest of those before it, if the item isn't longer
abbrev pub longer_by : {X : Type 0} → (X → ℕ) → X → Option X → Option X
longer_by size x None = Some x
longer_by size x (Some best) = if nat_le (size x) (size best) then Some best else Some x

-- the longest item; of several, the earliest
abbrev pub longest_by : {X : Type 0} → (X → ℕ) → List X → Option X
longest_by size [] = None
longest_by size (newest ∷ older) = longer_by size newest (longest_by size older)
