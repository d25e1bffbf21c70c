-- Where a block is allocated: at the least or the greatest address that fits.
use Rattle.std.specs.Prelude.{◌≡◌, ℕ, ◌+◌, ◌-◌, ◌*◌, ◌/◌, ◌%◌, ◌≤◌, max, Bool, true, ◌&&◌, ◌||◌, nat_le, ◌==◌, List, reverse, Option, Some, None}
use Rattle.std.specs.List.{list_all, find, range_with_len}
use Rattle.wind_base.specs.declared.board_kind.Side.{Side}
use Rattle.wind_base.specs.declared.board_kind.Side.TheVariants.{Low, High}
use Rattle.mem_partition.specs.declared.block.Block.{Block}

-- the address and the size of every block are multiples of this many bytes
abbrev pub grain : ℕ
grain = 16

-- the greatest alignment, in bytes
abbrev pub greatest_align : ℕ
greatest_align = 65536

-- the least multiple of align that is at least n
unfoldable pub aligned : ℕ → ℕ → ℕ
aligned n align = (n + align - 1) / align * align

-- the size of a block for n bytes: at least 1, rounded up
unfoldable pub rounded : ℕ → ℕ
rounded n = aligned (max n 1) grain

-- size bytes from an address on end before the block, or begin after it
abbrev pub is_apart : ℕ → ℕ → Block → Bool
is_apart size at b = nat_le (at + size) b.addr || nat_le (b.addr + b.size) at

-- size bytes from an address on overlap no block
abbrev pub meets_none : List Block → ℕ → ℕ → Bool
meets_none blocks size at = list_all (is_apart size at) blocks

-- the address is a multiple of align, and size bytes from there end inside the pool and overlap no block
abbrev pub fits : ℕ → List Block → ℕ → ℕ → ℕ → Bool
fits end blocks size align at = (at % align == 0) && (nat_le (at + size) end && meets_none blocks size at)

-- the first address of the pool from start to end that fits
unfoldable pub first_fit : ℕ → ℕ → List Block → ℕ → ℕ → Option ℕ
first_fit start end blocks size align = find (fits end blocks size align) (range_with_len start (end - start))

-- the last address of the pool that fits
unfoldable pub last_fit : ℕ → ℕ → List Block → ℕ → ℕ → Option ℕ
last_fit start end blocks size align = find (fits end blocks size align) (reverse (range_with_len start (end - start)))

-- the address that fits and is nearest to a side of the pool
abbrev pub fit_on : Side → ℕ → ℕ → List Block → ℕ → ℕ → Option ℕ
fit_on Low = first_fit
fit_on High = last_fit

-- the place of a block for n bytes with this alignment, on a side of the pool
unfoldable pub place : ℕ → ℕ → List Block → ℕ → ℕ → Side → Option ℕ
place start end blocks n align side = fit_on side start end blocks (rounded n) (max align grain)

-- an address of the pool that fits
abbrev pub Fits : ℕ → ℕ → List Block → ℕ → ℕ → ℕ → Type 0
Fits start end blocks size align at = (start ≤ at) × (fits end blocks size align at ≡ true)

-- an address is at least as near to a side as another
abbrev pub IsNearer : Side → ℕ → ℕ → Type 0
IsNearer Low a b = a ≤ b
IsNearer High a b = b ≤ a

-- the least address that fits on side Low, the greatest on side High, or none if no address fits
abbrev pub IsPlace : ℕ → ℕ → List Block → ℕ → ℕ → Side → Option ℕ → Type 0
IsPlace start end blocks size align side None = (at : ℕ) → Fits start end blocks size align at → ⊥
IsPlace start end blocks size align side (Some a) =
    Fits start end blocks size align a × ((at : ℕ) → Fits start end blocks size align at → IsNearer side a at)

-- size bytes from an address on are inside the pool and overlap no block
pub record Lies (start end : ℕ) (blocks : List Block) (size at : ℕ) : Type 0 where
  pub low : start ≤ at
  pub high : at + size ≤ end
  pub apart : meets_none blocks size at ≡ true
