-- The segments of the live modules that have a block are distinct Kernel blocks of the partition, each of its size.
use Rattle.std.specs.Prelude.{◌≡◌, ℕ, ◌+◌, ◌≤◌, ◌<◌, Bool, false, ◌==◌, if◌then◌else◌, is_some, List, [], ◌∷◌, ◌++◌, length, Some, Ok}
use Rattle.std.specs.List.{All}
use Rattle.symbol_table.specs.State.{without_group}
use Rattle.id_table.specs.Rows.{object_of, without, IdsBelow}
use Rattle.mem_partition.specs.declared.block.Block.{Block}
use Rattle.mem_partition.specs.declared.block.Class.TheVariants.{Kernel}
use Rattle.mem_partition.specs.State.{PartState, IsPart, own_block}
use Rattle.elf_read.specs.declared.module.Module.{Module}
use Rattle.elf_read.specs.Modules.{IsModule}
use Rattle.module_image.specs.declared.segments.Places.{Places}
use Rattle.module_loader.specs.declared.module.LoadedModule.{LoadedModule}
use Rattle.module_loader.specs.declared.module.Segment.{Segment}
use Rattle.module_loader.specs.Loading.{LoaderState, block_size, verdict, loaded}
use Rattle.module_loader.specs.Modules.{without_all}

-- the address of a segment's block, if it has one
abbrev pub addr_of : Segment → List ℕ
addr_of g = if g.size == 0 then [] else g.addr ∷ []

abbrev pub addrs_of : List Segment → List ℕ
addrs_of [] = []
addrs_of (g ∷ gs) = addr_of g ++ addrs_of gs

-- the addresses of all modules' blocks
abbrev pub held_by : List (ℕ × LoadedModule) → List ℕ
held_by [] = []
held_by (r ∷ rs) = addrs_of r.1.segments ++ held_by rs

-- how often an address occurs in a list
abbrev pub occurs : ℕ → List ℕ → ℕ
occurs a [] = 0
occurs a (b ∷ bs) = (if b == a then 1 else 0) + occurs a bs

-- a Kernel block begins there
abbrev pub is_kernel_block : PartState → ℕ → Bool
is_kernel_block s at = is_some (own_block s.blocks at Kernel)

-- the Kernel block of a segment: it has the segment's bytes, rounded up
abbrev pub segment_block : Segment → Block
segment_block g = record { addr = g.addr; size = block_size g.size; class = Kernel }

-- a segment with bytes has its block in the partition
abbrev pub HasItsBlock : PartState → Segment → Type 0
HasItsBlock s g = 0 < g.size → own_block s.blocks g.addr Kernel ≡ Some (segment_block g)

-- each segment of the modules has its block, and no two have the same address
pub record AreHeld (modules : List (ℕ × LoadedModule)) (s : PartState) : Type 0 where
  pub blocks : All (λ r. All (HasItsBlock s) r.1.segments) modules
  pub distinct : (a : ℕ) → occurs a (held_by modules) ≤ 1

-- the invariant of loads: no ids are lent, each module's id is below the next one, the pool is inside RAM, and the
-- segments have their blocks
pub record KeepsModules (s : LoaderState) : Type 0 where
  pub ids : s.kern.lent ≡ false
  pub below : IdsBelow s.kern.next_id s.modules.rows
  pub pool : s.part.end ≤ length s.ram
  pub held : AreHeld s.modules.rows s.part

-- what an unload of the module with this id leaves
abbrev pub unloaded : LoaderState → ℕ → LoadedModule → LoaderState
unloaded s id m = record s {
  symbols = without_group id s.symbols;
  modules = record s.modules { rows = without s.modules.rows id };
  part = without_all s.part m.segments;
}

-- what holds for the modules and their blocks under loads and unloads
pub record HoldLaw : Type 0 where
  -- it holds for every partition before the first load
  pub none : (s : PartState) → AreHeld [] s
  -- loads and unloads keep it
  pub load : (s : LoaderState) (name : List ℕ) (m : Module) (mode : ℕ) (at : Places)
      → IsPart s.part → IsModule m → KeepsModules s → verdict s m mode ≡ Ok at → KeepsModules (loaded s name m mode at)
  pub unload : (s : LoaderState) (id : ℕ) (m : LoadedModule)
      → KeepsModules s → object_of s.modules.rows id ≡ Some m → KeepsModules (unloaded s id m)
  -- the blocks of an unloaded module are gone, and every other Kernel block stays
  pub gone : (s : PartState) (m : LoadedModule) (a : ℕ)
      → 0 < occurs a (addrs_of m.segments) → is_kernel_block (without_all s m.segments) a ≡ false
  pub stays : (s : PartState) (m : LoadedModule) (a : ℕ)
      → occurs a (addrs_of m.segments) ≡ 0 → own_block (without_all s m.segments).blocks a Kernel ≡ own_block s.blocks a Kernel
