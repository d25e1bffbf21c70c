-- The live modules, and what an unload removes.
use Rattle.std.specs.Prelude.{ℕ, ◌<◌, ◌≤◌, Bool, ◌==◌, if◌then◌else◌, List, [], ◌∷◌, reverse, Option, Some, None}
use Rattle.std.specs.List.{find}
use Rattle.std.specs.Option.{option_map}
use Rattle.std.specs.Str.{bytes_eq}
use Rattle.wind_base.specs.Limits.{greatest_id}
use Rattle.wind_base.specs.declared.board_kind.BoardKind.{BoardKind}
use Rattle.mem_partition.specs.declared.block.Class.TheVariants.{Kernel}
use Rattle.mem_partition.specs.State.{PartState, after_free}
use Rattle.module_loader.specs.declared.module.LoadedModule.{LoadedModule}
use Rattle.module_loader.specs.declared.module.Segment.{Segment}

-- the kind of the board for which modules are loaded, and the live modules, by rising id
pub record LoadedModules : Type 0 where
  pub board : BoardKind
  pub rows : List (ℕ × LoadedModule)

-- these live modules on a board
abbrev pub modules_on : BoardKind → List (ℕ × LoadedModule) → LoadedModules
modules_on board rows = record { board = board; rows = rows }

-- a row has a valid id
abbrev pub HasIdent : ℕ × LoadedModule → Type 0
HasIdent r = (0 < r.0) × (r.0 ≤ greatest_id)

-- the module has this name
abbrev pub is_named : List ℕ → ℕ × LoadedModule → Bool
is_named name r = bytes_eq r.1.name name

-- the id of the newest live module with a name; modules are by rising id
abbrev pub newest_named : List (ℕ × LoadedModule) → List ℕ → Option ℕ
newest_named rows name = option_map (λ r. r.0) (find (is_named name) (reverse rows))

-- ---- unloading
-- the partition without a segment's block; a segment of size 0 has none
abbrev pub without_segment : PartState → Segment → PartState
without_segment s g = if g.size == 0 then s else after_free s g.addr Kernel

-- and without those of several segments
abbrev pub without_all : PartState → List Segment → PartState
without_all s [] = s
without_all s (g ∷ gs) = without_all (without_segment s g) gs

-- the partition without the blocks of a module, if there is one
abbrev pub without_segments : PartState → Option LoadedModule → PartState
without_segments s None = s
without_segments s (Some m) = without_all s m.segments
