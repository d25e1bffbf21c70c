-- The rows of the calls on the memory partition.
use Rattle.std.specs.Prelude.{ℕ, Result, Ok, Err, ◌==◌, if◌then◌else◌}
use Rattle.wind_base.specs.Limits.{ok_word}
use Rattle.wind_base.specs.declared.errno.Errno.{Errno}
use Rattle.wind_base.specs.declared.errno.Errno.TheVariants as errors
use Rattle.mem_partition.specs.State.{PartState, alloc_of, after_alloc, free_of, after_free}
use Rattle.mem_partition.specs.Place.{grain}
use Rattle.mem_partition.specs.declared.block.Class.TheVariants.{User}
use Rattle.mem_partition.specs.declared.block.PartErr.{PartErr}
use Rattle.mem_partition.specs.declared.block.PartErr.TheVariants as refusals
use Rattle.kernel_world.specs.declared.reply.Reply.{Reply}
use Rattle.kernel_world.specs.declared.reply.Reply.TheVariants.{Answer, Refusal}

-- the partition after the effect of a call, and how its caller is answered
pub record PartRow : Type 0 where
  pub part : PartState
  pub reply : Reply

-- the error number of an allocation that the partition refuses
abbrev pub block_error : PartErr → Errno
block_error refusals.BadAlign = errors.BadAlign
block_error e = errors.NotEnoughMemory

abbrev pub address_reply : Result ℕ PartErr → Reply
address_reply (Ok at) = Answer at
address_reply (Err e) = Refusal (block_error e)

-- memalign
abbrev pub align_row : PartState → ℕ → ℕ → PartRow
align_row p align n = record { part = after_alloc p n align User; reply = address_reply (alloc_of p n align) }

-- malloc: a block at a multiple of 16, as every block is
abbrev pub malloc_row : PartState → ℕ → PartRow
malloc_row p n = align_row p grain n

abbrev pub free_reply : Result ℕ PartErr → Reply
free_reply (Ok size) = Answer ok_word
free_reply (Err e) = Refusal errors.NotABlock

-- free: address 0 may be freed at any time, which does nothing
abbrev pub free_row : PartState → ℕ → PartRow
free_row p at =
    if at == 0 then record { part = p; reply = Answer ok_word }
    else record { part = after_free p at User; reply = free_reply (free_of p at User) }
