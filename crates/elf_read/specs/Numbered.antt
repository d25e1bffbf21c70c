-- Lists, sums and searches over numbers in order.
use Rattle.std.specs.Prelude.{ℕ, zero, suc, ◌+◌, Bool, List, [], ◌++◌, if◌then◌else◌}

-- the lists for n numbers from i on, one after another
abbrev pub gathered : {X : Type 0} → ℕ → ℕ → (ℕ → List X) → List X
gathered i zero f = []
gathered i (suc n) f = f i ++ gathered (i + 1) n f

-- the sum over the numbers below n
abbrev pub total : ℕ → (ℕ → ℕ) → ℕ
total zero f = 0
total (suc n) f = total n f + f n

-- the first of n numbers from i on that passes, otherwise the number after them
abbrev pub first_from : ℕ → ℕ → (ℕ → Bool) → ℕ
first_from i zero p = i
first_from i (suc n) p = if p i then i else first_from (i + 1) n p
