-- A map of bits, one for each priority, in words of 32 bits.
use Rattle.std.specs.Prelude.{◌≡◌, ℕ, ◌+◌, ◌<◌, ◌/◌, ◌%◌, List, MatchOption, Option, slice_index}
use Rattle.std.specs.Int.{bit_at}
use Rattle.wind_base.specs.Limits.{least_urgent}

-- the number of priorities
abbrev pub priorities : ℕ
priorities = least_urgent + 1

-- the bit of a priority, 0 or 1
abbrev pub marked : List ℕ → ℕ → ℕ
marked words pri = bit_at (slice_index words (pri / 32)) (pri % 32)

-- one priority has this bit now, and the bits of the others stay
pub record IsMarked (old new : List ℕ) (pri bit : ℕ) : Type 0 where
  pub same : marked new pri ≡ bit
  pub others : (other : ℕ) → other < priorities → (other ≡ pri → ⊥) → marked new other ≡ marked old other

-- the lowest set bit of a word, or none if the word is 0
abbrev pub IsLowest : ℕ → Option ℕ → Type 0
IsLowest word found = MatchOption found (word ≡ 0) (λ bit. (bit < 32) × (bit_at word bit ≡ 1) × ((less : ℕ) → less < bit → bit_at word less ≡ 0))

-- the least priority whose bit is set, or none if no bit is set
abbrev pub IsFirstMarked : List ℕ → Option ℕ → Type 0
IsFirstMarked words found =
    MatchOption found
    ((pri : ℕ) → pri < priorities → marked words pri ≡ 0)
    (λ pri. (pri < priorities) × (marked words pri ≡ 1) × ((less : ℕ) → less < pri → marked words less ≡ 0))
