-- The memory partition and RAM as JSON.
use Rattle.std.specs.Prelude.{ℕ, zero, suc, ◌*◌, ◌/◌, Bool, if◌then◌else◌, List, [], ◌∷◌, ◌++◌, length, replicate, Option, None, Some, codes}
use Rattle.std.specs.Str.{bytes_eq}
use Rattle.hex.specs.Hex.{encode_lower}
use Rattle.sha2.specs.Sha256.{sha256}
use Rattle.serde_json.specs.Data.{Data, string, array}
use Rattle.serde_json.specs.View.{items_of}
use Rattle.board_mem.specs.Memory.{bytes_at}
use Rattle.mem_partition.specs.declared.block.Block.{Block}
use Rattle.mem_partition.specs.declared.block.Class.{Class}
use Rattle.mem_partition.specs.declared.block.Class.TheVariants.{User, Kernel}
use Rattle.trace_state.specs.Json.{number_of, object_of}

-- ---- the partition
-- the word for who may free a block
abbrev pub class_word : Class → List ℕ
class_word User = codes "user"
class_word Kernel = codes "kernel"

-- a block
abbrev pub block_data : Block → Data
block_data b = object_of (
    (codes "address", number_of b.addr)
    ∷ (codes "size", number_of b.size)
    ∷ (codes "class", string (class_word b.class))
    ∷ [])

-- ---- RAM, in units of this many bytes
abbrev pub unit_bytes : ℕ
unit_bytes = 256

-- a range: its first address and its bytes
pub record Range : Type 0 where
  pub start : ℕ
  pub bytes : List ℕ

-- a range with its size and the SHA-256 digest of its bytes
abbrev pub range_data : Range → Data
range_data r = object_of (
    (codes "address", number_of r.start)
    ∷ (codes "size", number_of (length r.bytes))
    ∷ (codes "sha256", string (encode_lower (sha256 r.bytes)))
    ∷ [])

-- the ranges up to an address: those that have ended, and the one that ends there, if any
pub record Ranges : Type 0 where
  pub ended : List Data
  pub last : Option Range

-- all bytes of a unit are zero
abbrev pub is_zero : List ℕ → Bool
is_zero unit = bytes_eq unit (replicate unit_bytes 0)

-- a range that has ended
abbrev pub listed : Option Range → List Data
listed None = []
listed (Some r) = range_data r ∷ []

-- the last range ends
abbrev pub closed : Ranges → Ranges
closed r = record { ended = r.ended ++ listed r.last; last = None }

-- the range that goes on at an address; an empty one begins there if none does
abbrev pub begun : Option Range → ℕ → Range
begun None start = record { start = start; bytes = [] }
begun (Some r) start = r

-- a unit at this address is added to it
abbrev pub grown : Option Range → ℕ → List ℕ → Range
grown last start unit = record (begun last start) { bytes = (begun last start).bytes ++ unit }

-- a unit that isn't all zero belongs to a range; another one ends it
abbrev pub with_unit : Ranges → ℕ → List ℕ → Ranges
with_unit r start unit = if is_zero unit then closed r else record r { last = Some (grown r.last start unit) }

-- the ranges of the first n units
abbrev pub ranges_of : List ℕ → ℕ → Ranges
ranges_of ram zero = record { ended = []; last = None }
ranges_of ram (suc n) = with_unit (ranges_of ram n) (n * unit_bytes) (bytes_at ram (n * unit_bytes) unit_bytes)

-- the ranges of RAM, by rising address: consecutive units that aren't all zero
abbrev pub ram_data : List ℕ → Data
ram_data ram = array (items_of (closed (ranges_of ram (length ram / unit_bytes))).ended)
