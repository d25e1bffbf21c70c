-- What a contract sees of the partition, and what its calls answer and leave.
use Rattle.std.specs.Prelude.{ℕ, ◌+◌, ◌-◌, ◌^◌, ◌≤◌, ◌<◌, Bool, true, false, ◌&&◌, not, nat_le, nat_lt, ◌==◌, if◌then◌else◌, List, [], ◌∷◌, length, sum_by, count_by, Option, Some, None, Result, Ok, Err}
use Rattle.std.specs.Int.{is_power_of_two}
use Rattle.std.specs.List.{filter, find, list_any, range_with_len}
use Rattle.wind_base.specs.declared.board_kind.Side.{Side}
use Rattle.wind_base.specs.declared.board_kind.Side.TheVariants.{Low}
use Rattle.mem_partition.specs.declared.block.Block.{Block}
use Rattle.mem_partition.specs.declared.block.Class.{Class}
use Rattle.mem_partition.specs.declared.block.Class.TheVariants.{User, Kernel}
use Rattle.mem_partition.specs.declared.block.PartErr.{PartErr}
use Rattle.mem_partition.specs.declared.block.PartErr.TheVariants as errors
use Rattle.mem_partition.specs.Place.{greatest_align, rounded, place}

-- the pool from start to end, the most blocks that it may have, and the blocks in order of address
pub record PartState : Type 0 where
  pub start : ℕ
  pub end : ℕ
  pub room : ℕ
  pub blocks : List Block

-- the blocks are in order from lo to hi, none is empty, and no two overlap
abbrev pub Laid : ℕ → ℕ → List Block → Type 0
Laid lo hi [] = Unit {0}
Laid lo hi (b ∷ bs) = (lo ≤ b.addr) × (0 < b.size) × (b.addr + b.size ≤ hi) × Laid (b.addr + b.size) hi bs

-- the greatest number of blocks that a partition may be made for
abbrev pub most_room : ℕ
most_room = 2 ^ 16

-- the partition of this pool with no blocks, and with room for this many
abbrev pub empty_part : ℕ → ℕ → ℕ → PartState
empty_part start end room = record { start = start; end = end; room = room; blocks = [] }

-- the invariant of every partition
pub record IsPart (s : PartState) : Type 0 where
  pub laid : Laid s.start s.end s.blocks
  pub few : length s.blocks ≤ s.room
  pub bound : s.end < 2 ^ 32

-- a valid alignment: a power of two from 1 to 65,536
abbrev pub is_align : ℕ → Bool
is_align n = is_power_of_two n && nat_le n greatest_align

-- the place, or this refusal if there is none
abbrev pub found_or : PartErr → Option ℕ → Result ℕ PartErr
found_or e None = Err e
found_or e (Some at) = Ok at

-- what an allocation on a side answers: the place, or the first refusal
unfoldable pub alloc_on : Side → PartState → ℕ → ℕ → Result ℕ PartErr
alloc_on side s n align =
    if not (is_align align) then Err errors.BadAlign else
    (if nat_le s.room (length s.blocks) then Err errors.BlocksFull else
    found_or errors.NoRoom (place s.start s.end s.blocks n align side))

-- what `alloc` answers: blocks are placed low
abbrev pub alloc_of : PartState → ℕ → ℕ → Result ℕ PartErr
alloc_of s n align = alloc_on Low s n align

-- the blocks with one more, at its place in the order of addresses
abbrev pub with_block : Block → List Block → List Block
with_block b [] = b ∷ []
with_block b (c ∷ cs) = if nat_lt b.addr c.addr then b ∷ c ∷ cs else c ∷ with_block b cs

-- the blocks without the one that begins at an address
abbrev pub without_block : ℕ → List Block → List Block
without_block at bs = filter (λ b. not (b.addr == at)) bs

-- the partition after an answer of an allocation
abbrev pub taken_at : PartState → ℕ → Class → Result ℕ PartErr → PartState
taken_at s n class (Err e) = s
taken_at s n class (Ok at) =
    record s { blocks = with_block (record { addr = at; size = rounded n; class = class }) s.blocks }

-- the partition after an allocation on a side
unfoldable pub after_alloc_on : Side → PartState → ℕ → ℕ → Class → PartState
after_alloc_on side s n align class = taken_at s n class (alloc_on side s n align)

-- the partition after `alloc`
abbrev pub after_alloc : PartState → ℕ → ℕ → Class → PartState
after_alloc s n align class = after_alloc_on Low s n align class

-- the two classes are the same
abbrev pub same_class : Class → Class → Bool
same_class User User = true
same_class Kernel Kernel = true
same_class _ _ = false

-- the block that begins at an address
abbrev pub block_at : List Block → ℕ → Option Block
block_at bs at = find (λ b. b.addr == at) bs

-- the block of this class that begins at an address
abbrev pub own_block : List Block → ℕ → Class → Option Block
own_block bs at class = find (λ b. b.addr == at && same_class b.class class) bs

-- the size of the block, or the refusal if there is none
abbrev pub size_or : Option Block → Result ℕ PartErr
size_or None = Err errors.NotABlock
size_or (Some b) = Ok b.size

-- what `free` answers
abbrev pub free_of : PartState → ℕ → Class → Result ℕ PartErr
free_of s at class = size_or (own_block s.blocks at class)

-- the partition after an answer of `free`
abbrev pub freed : PartState → ℕ → Result ℕ PartErr → PartState
freed s at (Err e) = s
freed s at (Ok n) = record s { blocks = without_block at s.blocks }

-- the partition after `free`
unfoldable pub after_free : PartState → ℕ → Class → PartState
after_free s at class = freed s at (free_of s at class)

-- how many bytes are in blocks
abbrev pub used : List Block → ℕ
used bs = sum_by (λ b. b.size) bs

-- the address is in no block
abbrev pub is_free : List Block → ℕ → Bool
is_free bs at = not (list_any (λ b. nat_le b.addr at && nat_lt at (b.addr + b.size)) bs)

-- how many addresses of the pool are in no block
unfoldable pub free_bytes : PartState → ℕ
free_bytes s = count_by (is_free s.blocks) (range_with_len s.start (s.end - s.start))
