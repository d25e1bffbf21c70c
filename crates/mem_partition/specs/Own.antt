-- Blocks by rising address, and the block that a call names by its address and class.
use Rattle.std.specs.Prelude.{◌≡◌, ℕ, ◌<◌, List, length, slice_index_or, Some}
use Rattle.mem_partition.specs.declared.block.Block.{Block}
use Rattle.mem_partition.specs.declared.block.Class.{Class}
use Rattle.mem_partition.specs.State.{own_block}

-- each block begins after all those before it begin
abbrev pub Rising : List Block → Type 0
Rising bs = (i j : ℕ) (d : Block) → i < j → j < length bs → (slice_index_or bs i d).addr < (slice_index_or bs j d).addr

-- the position in the list of the block of this class that begins at an address
pub record IsOwn (blocks : List Block) (at : ℕ) (class : Class) (position : ℕ) : Type 0 where
  pub within : position < length blocks
  pub same : (d : Block) → (slice_index_or blocks position d).addr ≡ at
  pub block : (d : Block) → own_block blocks at class ≡ Some (slice_index_or blocks position d)
