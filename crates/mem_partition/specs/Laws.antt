-- What follows from the definitions of places and of the calls alone.
use Rattle.std.specs.Prelude.{◌≡◌, ℕ, ◌+◌, ◌<◌, ◌≤◌, ◌%◌, ◌⊎◌, max, List, Option, Some, Ok}
use Rattle.std.specs.List.{All, AllPairs, Any}
use Rattle.wind_base.specs.declared.board_kind.Side.{Side}
use Rattle.mem_partition.specs.declared.block.Block.{Block}
use Rattle.mem_partition.specs.declared.block.Class.{Class}
use Rattle.mem_partition.specs.Place.{grain, aligned, rounded, place, IsNearer, IsPlace, Lies}
use Rattle.mem_partition.specs.State.{PartState, IsPart, Laid, alloc_on, after_alloc_on, after_free}

-- the address is one of size addresses from a start on
abbrev pub IsIn : ℕ → ℕ → ℕ → Type 0
IsIn a at size = (at ≤ a) × (a < at + size)

-- size bytes from an address on overlap the block
abbrev pub Meets : ℕ → ℕ → Block → Type 0
Meets size at b = (a : ℕ) × IsIn a at size × IsIn a b.addr b.size

-- the least multiple of align that is n or more
pub record IsNextMultiple (n align m : ℕ) : Type 0 where
  pub multiple : m % align ≡ 0
  pub above : n ≤ m
  pub least : (c : ℕ) → n ≤ c → c % align ≡ 0 → m ≤ c

-- the address that is answered is the least that fits, or on side High the greatest
pub record PlaceLaw : Type 0 where
  -- it fits and is the nearest to its side that does; there is none only if no address fits
  pub nearest : (start end : ℕ) (blocks : List Block) (n align : ℕ) (side : Side)
      → IsPlace start end blocks (rounded n) (max align grain) side (place start end blocks n align side)
  -- there is only one such answer
  pub only : (start end : ℕ) (blocks : List Block) (size align : ℕ) (side : Side) (o p : Option ℕ)
      → IsPlace start end blocks size align side o → IsPlace start end blocks size align side p → o ≡ p
  -- each multiple of the alignment in the pool that is nearer to the side exceeds the pool or overlaps a block
  pub nearer : (start end : ℕ) (blocks : List Block) (n align at c : ℕ) (side : Side)
      → Laid start end blocks → place start end blocks n align side ≡ Some at
      → start ≤ c → IsNearer side c at → (c ≡ at → ⊥) → c % max align grain ≡ 0
      → (end < c + rounded n) ⊎ Any (Meets (rounded n) c) blocks
  -- sizes and places are rounded up no further than needed
  pub next : (n align : ℕ) → 1 ≤ align → IsNextMultiple n align (aligned n align)

-- what an accepted allocation gives, on either side
pub record AllocLaw : Type 0 where
  -- the block is inside the pool and overlaps none of the blocks before
  pub lies : (side : Side) (s : PartState) (n align at : ℕ) → alloc_on side s n align ≡ Ok at
      → Lies s.start s.end s.blocks (rounded n) at
  pub apart : (side : Side) (s : PartState) (n align at : ℕ) → alloc_on side s n align ≡ Ok at
      → All (λ b. Meets (rounded n) at b → ⊥) s.blocks
  -- it begins at a multiple of the alignment
  pub multiple : (side : Side) (s : PartState) (n align at : ℕ) → alloc_on side s n align ≡ Ok at
      → at % max align grain ≡ 0
  -- it has at least the requested bytes
  pub holds : (n : ℕ) → n ≤ rounded n
  -- if it is freed at once, the partition is as before
  pub back : (side : Side) (s : PartState) (n align at : ℕ) (class : Class)
      → IsPart s → alloc_on side s n align ≡ Ok at → after_free (after_alloc_on side s n align class) at class ≡ s

-- what always holds for the blocks
pub record BlocksLaw : Type 0 where
  -- no two of them overlap, and each is inside the pool
  pub apart : (s : PartState) → IsPart s → AllPairs (λ b c. Meets b.size b.addr c → ⊥) s.blocks
  pub inside : (s : PartState) → IsPart s → All (λ b. (s.start ≤ b.addr) × (b.addr + b.size ≤ s.end)) s.blocks
  -- each call keeps the partition's invariant
  pub allocating : (side : Side) (s : PartState) (n align : ℕ) (class : Class)
      → IsPart s → IsPart (after_alloc_on side s n align class)
  pub freeing : (s : PartState) (at : ℕ) (class : Class) → IsPart s → IsPart (after_free s at class)
