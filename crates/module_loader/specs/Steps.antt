-- The steps of a load.
use Rattle.std.specs.Prelude.{◌≡◌, ℕ, List, [], ◌∷◌, Some, Result, Err}
use Rattle.elf_read.specs.declared.error.ElfErr.{ElfErr}
use Rattle.wind_core.specs.State.{KernState}
use Rattle.symbol_table.specs.declared.symbol.Symbol.{Symbol}
use Rattle.mem_partition.specs.State.{PartState}
use Rattle.module_image.specs.declared.segments.Places.{Places}
use Rattle.module_loader.specs.declared.module.LoadErr.{LoadErr}
use Rattle.module_loader.specs.declared.module.LoadErr.TheVariants as refusal
use Rattle.module_loader.specs.Modules.{LoadedModules}
use Rattle.module_loader.specs.Loading.{LoaderState, Piece, count_by}

-- the state with these parts
abbrev pub state_of : KernState → List Symbol → LoadedModules → PartState → List ℕ → LoaderState
state_of kern symbols modules part ram =
    record { kern = kern; symbols = symbols; modules = modules; part = part; ram = ram }

-- memory ran out, or the refusal by counts
abbrev pub IsRefusedBy : ℕ → ℕ → ℕ → LoadErr → Type 0
IsRefusedBy modules next symbols refusal.NoMemory = Unit {0}
IsRefusedBy modules next symbols e = count_by modules next symbols ≡ Some e

-- bytes at the three places
abbrev pub three_pieces : Places → List ℕ → List ℕ → List ℕ → List Piece
three_pieces at text vars bss = (at.text, text) ∷ (at.«data», vars) ∷ (at.bss, bss) ∷ []

-- memory ran out, or the refusal of a file
abbrev pub IsFileRefusal : Result Unit ElfErr → LoadErr → Type 0
IsFileRefusal r refusal.NoMemory = Unit {0}
IsFileRefusal r (refusal.Elf e) = r ≡ Err e
IsFileRefusal r refusal.ModulesFull = ⊥
IsFileRefusal r refusal.IdsSpent = ⊥
IsFileRefusal r refusal.TableFull = ⊥
IsFileRefusal r (refusal.Part e) = ⊥
IsFileRefusal r (refusal.Reloc e) = ⊥
