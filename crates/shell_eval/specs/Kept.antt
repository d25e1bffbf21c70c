-- What evaluation keeps of the state, whatever is evaluated.
use Rattle.std.specs.Prelude.{◌≡◌, ℕ, ◌+◌, ◌≤◌, ◌⊎◌, List, ◌++◌, length}
use Rattle.std.specs.List.{Contains}
use Rattle.wind_base.specs.Limits.{most_symbols}
use Rattle.mem_partition.specs.State.{IsPart}
use Rattle.mem_partition.specs.declared.block.Block.{Block}
use Rattle.mem_partition.specs.declared.block.Class.TheVariants.{Kernel}
use Rattle.shell_eval.specs.State.{State}
use Rattle.shell_eval.specs.Words.{announcement}
use Rattle.shell_eval.specs.Pending.{Pending, Args, counted, counted_all}
use Rattle.shell_eval.specs.Evaluate.{evaluate}

-- the second list continues the first
abbrev pub GoesOn : {X : Type 0} → List X → List X → Type 0
GoesOn {X} xs ys = (more : List X) × (ys ≡ xs ++ more)

-- the pool is inside RAM
abbrev pub IsPoolInRam : State → Type 0
IsPoolInRam s = s.pool.end ≤ length s.memory.ram

-- RAM has the same size; the pool stays, and so does each block, and only Kernel blocks are added;
-- symbols and written bytes are added after the others
pub record Keeps (old new : State) : Type 0 where
  pub ram : length new.memory.ram ≡ length old.memory.ram
  pub start : new.pool.start ≡ old.pool.start
  pub end : new.pool.end ≡ old.pool.end
  pub room : new.pool.room ≡ old.pool.room
  pub stays : (b : Block) → Contains old.pool.blocks b → Contains new.pool.blocks b
  pub added : (b : Block) → Contains new.pool.blocks b → Contains old.pool.blocks b ⊎ (b.class ≡ Kernel)
  pub sound : IsPart old.pool → IsPart new.pool
  pub symbols : GoesOn old.symbols new.symbols
  pub few : length old.symbols ≤ most_symbols → length new.symbols ≤ most_symbols
  pub output : GoesOn old.output new.output

-- the total length in bytes of the announcements of the assignments in a tree, and in arguments
abbrev pub announced : Pending → ℕ
announced = counted 0 (λ x n. n + length (announcement x))

abbrev pub announced_all : Args → ℕ
announced_all = counted_all 0 (λ x n. n + length (announcement x))

-- evaluation keeps this if the pool is inside RAM
abbrev pub KeepsLaw : Type 0
KeepsLaw = (s : State) (p : Pending) → IsPoolInRam s → Keeps s (evaluate s p).state

-- and writes no more than the announcements
abbrev pub OutputLaw : Type 0
OutputLaw = (s : State) (p : Pending) → IsPoolInRam s → length (evaluate s p).state.output ≤ length s.output + announced p
