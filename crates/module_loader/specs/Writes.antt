-- Where an accepted load writes.
use Rattle.std.specs.Prelude.{◌≡◌, ◌⊎◌, ℕ, List, length, slice_index, Ok}
use Rattle.std.specs.List.{All, Contains}
use Rattle.mem_partition.specs.declared.block.Block.{Block}
use Rattle.mem_partition.specs.declared.block.Class.TheVariants.{Kernel}
use Rattle.mem_partition.specs.Laws.{IsIn, Meets}
use Rattle.mem_partition.specs.State.{PartState}
use Rattle.elf_read.specs.declared.module.Module.{Module}
use Rattle.elf_read.specs.Modules.{IsModule}
use Rattle.module_image.specs.declared.segments.Places.{Places}
use Rattle.module_image.specs.Image.{image}
use Rattle.module_loader.specs.Loading.{LoaderState, Piece, pieces_of, verdict, loaded}
use Rattle.module_loader.specs.Live.{IsPiece, IsLoader}

-- a Kernel block of the partition begins where the piece does, and has the same size
abbrev pub HasBlock : PartState → Piece → Type 0
HasBlock s p = (b : Block) × Contains s.blocks b × (b.class ≡ Kernel) × (b.addr ≡ p.0) × (b.size ≡ length p.1)

-- what an accepted load of a module writes, and what it leaves
pub record WriteLaw : Type 0 where
  -- each segment that has bytes fills a block of its own
  pub own : (s : LoaderState) (name : List ℕ) (m : Module) (mode : ℕ) (at : Places) (p : Piece)
      → IsLoader s → IsModule m → verdict s m mode ≡ Ok at → IsPiece p (pieces_of at (image m s.symbols at))
      → (length p.1 ≡ 0) ⊎ HasBlock (loaded s name m mode at).part p
  -- it overlaps no block that was there before
  pub fresh : (s : LoaderState) (m : Module) (mode : ℕ) (at : Places) (p : Piece)
      → IsLoader s → IsModule m → verdict s m mode ≡ Ok at → IsPiece p (pieces_of at (image m s.symbols at))
      → All (λ b. Meets (length p.1) p.0 b → ⊥) s.part.blocks
  -- a byte of RAM outside all segments stays, and so does the size of RAM
  pub outside : (s : LoaderState) (name : List ℕ) (m : Module) (mode : ℕ) (at : Places) (a : ℕ)
      → IsLoader s → IsModule m → verdict s m mode ≡ Ok at
      → ((p : Piece) → IsPiece p (pieces_of at (image m s.symbols at)) → IsIn a p.0 (length p.1) → ⊥)
      → slice_index (loaded s name m mode at).ram a ≡ slice_index s.ram a
  pub size : (s : LoaderState) (name : List ℕ) (m : Module) (mode : ℕ) (at : Places)
      → IsLoader s → IsModule m → verdict s m mode ≡ Ok at → length (loaded s name m mode at).ram ≡ length s.ram
