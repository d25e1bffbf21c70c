-- The Kernel blocks that evaluation takes.
use Rattle.std.proofs.Common.{◌≡◌, ℕ, ◌+◌, ◌<◌, ◌≤◌, Option, Some, None, Result, Ok, Err, refl, arith}
use Rattle.std.specs.Result.{result_ok}
use Rattle.mem_partition.specs.Place.{rounded}
use Rattle.mem_partition.specs.State.{PartState, alloc_of, after_alloc_on, taken_at}
use Rattle.mem_partition.specs.declared.block.PartErr.{PartErr}
use Rattle.mem_partition.specs.declared.block.Class.TheVariants.{Kernel}
use Rattle.mem_partition.proofs.Allocs.{alloc_lies, rounded_holds}
use Rattle.shell_eval.specs.Words.{block_of, with_block_of}

-- an answer that is a block's address
pub ok_was : (r : Result ℕ PartErr) (at : ℕ) → result_ok r ≡ Some at → r ≡ Ok at
ok_was (Ok n) at e = cc
ok_was (Err f) at e = absurd (cc)

-- an allocated block is inside the pool
pub block_lies : (s : PartState) (n at : ℕ) → block_of s n ≡ Some at → at + rounded n ≤ s.end
block_lies s n at e = (alloc_lies s n 1 at (ok_was (alloc_of s n 1) at e)).high

pub block_holds : (s : PartState) (n at : ℕ) → block_of s n ≡ Some at → at + n ≤ s.end
block_holds s n at e = let high = block_lies s n at e in let holds = rounded_holds n in omega arith

-- the pool stays
end_of : (s : PartState) (n : ℕ) (r : Result ℕ PartErr) → (taken_at s n Kernel r).end ≡ s.end
end_of s n (Ok at) = refl
end_of s n (Err e) = refl

pub block_end : (s : PartState) (n : ℕ) → (with_block_of s n).end ≡ s.end
unfolding after_alloc_on
block_end s n = end_of s n (alloc_of s n 1)

-- a refusal changes nothing
same_of : (s : PartState) (n : ℕ) (r : Result ℕ PartErr) → result_ok r ≡ None → taken_at s n Kernel r ≡ s
same_of s n (Ok at) e = absurd (cc)
same_of s n (Err f) e = refl

pub block_stays : (s : PartState) (n : ℕ) → block_of s n ≡ None → with_block_of s n ≡ s
unfolding after_alloc_on
block_stays s n e = same_of s n (alloc_of s n 1) e

-- no block is longer than the addresses before the pool's end
none_of : (s : PartState) (n : ℕ) (r : Option ℕ) → block_of s n ≡ r → s.end < n → block_of s n ≡ None
none_of s n None e long = e
none_of s n (Some at) e long = let high = block_holds s n at e in absurd (omega arith)

pub none_beyond : (s : PartState) (n : ℕ) → s.end < n → block_of s n ≡ None
none_beyond s n long = none_of s n (block_of s n) refl long
