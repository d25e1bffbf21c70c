-- The step that adds a module.
use Rattle.std.specs.Prelude.{◌≡◌, ℕ, List, [], ◌∷◌, ◌++◌, Option, Some}
use Rattle.wind_outside.specs.Files.{Files}
use Rattle.mem_partition.specs.declared.block.Block.{Block}
use Rattle.elf_read.specs.declared.module.Module.{Module}
use Rattle.elf_read.specs.Contents.{ModuleOf}
use Rattle.elf_read.specs.Rules.{Refused}
use Rattle.module_image.specs.declared.segments.Places.{Places}
use Rattle.module_image.specs.Linkable.{IsLinkable}
use Rattle.module_image.specs.Needs.{needs_of}
use Rattle.wind_link.specs.declared.files.Modules.{Modules}
use Rattle.wind_link.specs.declared.linking.Placed.{Placed}
use Rattle.wind_link.specs.declared.status.LinkStatus.{LinkStatus}
use Rattle.wind_link.specs.declared.status.LinkStatus.TheVariants as status
use Rattle.wind_link.specs.Command.{IsRowLoad}
use Rattle.wind_link.specs.Linking.{load_of}
use Rattle.wind_link.specs.Lists.{Row}
use Rattle.wind_link.specs.Placing.{with_module, wrong_segment}

-- the module of a row is added, with its blocks
pub record Adds (files : Option Files) (dir : List ℕ) (row : Row) (old new : Modules) : Type 0 where
  pub one : Placed
  pub linkable : IsLinkable one.module
  pub is : IsRowLoad files dir old.taken.items row (load_of one)
  pub placed : new.placed.items ≡ old.placed.items ++ one ∷ []
  pub taken : new.taken.items ≡ with_module old.taken.items (needs_of one.module) (load_of one).at

-- line n's file has these bytes, which a rule refuses, or memory ran out
abbrev pub TellsObject : ℕ → List ℕ → LinkStatus → Type 0
TellsObject n bytes (status.BadObject line error) = (line ≡ n) × Refused bytes error
TellsObject n bytes status.NoMemory = Unit {0}
TellsObject n bytes _ = ⊥

-- line n's file has these bytes, and a rule or a place after these blocks refuses them, or memory ran out
abbrev pub RefusesBytes : List ℕ → List Block → ℕ → Places → LinkStatus → Type 0
RefusesBytes bytes taken n at (status.BadObject line error) = (line ≡ n) × Refused bytes error
RefusesBytes bytes taken n at (status.BadPlace line kind) =
    (line ≡ n) × ((m : Module) × ModuleOf bytes m × (wrong_segment taken (needs_of m) at ≡ Some kind))
RefusesBytes bytes taken n at status.NoMemory = Unit {0}
RefusesBytes bytes taken n at _ = ⊥
