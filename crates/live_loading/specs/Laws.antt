-- What follows from the definitions of a load alone.
use Rattle.std.specs.Prelude.{◌≡◌, ℕ, ◌+◌, ◌≤◌, List, slice_index}
use Rattle.mem_partition.specs.Laws.{IsIn}
use Rattle.mem_partition.specs.declared.block.Block.{Block}
use Rattle.std.specs.List.{Contains}
use Rattle.kernel_calls.specs.KernelWorldState.{WorldState}
use Rattle.id_table.specs.Idents.{shell_id}
use Rattle.kernel_calls.specs.KernelWorldActors.{MayCall}
use Rattle.kernel_calls.specs.KernelWorldKept.{IsWorld, Within, call_sinces}
use Rattle.kernel_calls.specs.Laws.{Passes, ElseStays}
use Rattle.live_loading.specs.Said.{FileSaid}
use Rattle.live_loading.specs.Loading.{shell, load_call}

-- a load keeps the invariant of the world, whatever the folder answers about its file
abbrev pub LoadLaw : Type 0
LoadLaw = (w : WorldState) (name : List ℕ) (said : FileSaid) (n : ℕ) → IsWorld w → MayCall w.kern shell → Within n w
    → Passes w (load_call w name said) shell (n + 1) call_sinces 1

-- the address is in a block that the partition has after the load and not before it
abbrev pub IsFresh : WorldState → WorldState → ℕ → Type 0
IsFresh w v a = (b : Block) × Contains v.part.blocks b × (Contains w.part.blocks b → ⊥) × IsIn a b.addr b.size

-- what a load leaves as it was: the objects, the devices and their interrupts, the watchdogs, the other tasks, the
-- counters, and each byte of RAM outside the blocks that it takes
pub record OnlyLoads (w v : WorldState) : Type 0 where
  pub stays : ElseStays w v shell_id
  pub open stays use *
  pub slots : v.slots ≡ w.slots
  pub irqs : v.irqs ≡ w.irqs
  pub ids : w.kern.next_id ≤ v.kern.next_id
  pub ram : (a : ℕ) → (IsFresh w v a → ⊥) → slice_index v.ram a ≡ slice_index w.ram a

abbrev pub AloneLaw : Type 0
AloneLaw = (w : WorldState) (name : List ℕ) (said : FileSaid) → IsWorld w → MayCall w.kern shell → OnlyLoads w (load_call w name said)
