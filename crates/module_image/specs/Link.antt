-- The images of several loads: all at once, and one after the other.
use Rattle.std.specs.Prelude.{◌≡◌, ℕ, List, [], ◌∷◌, ◌++◌, map, Option, Some, None}
use Rattle.symbol_table.specs.declared.symbol.Symbol.{Symbol}
use Rattle.symbol_table.specs.Newest.{find_global}
use Rattle.elf_read.specs.declared.module.Module.{Module}
use Rattle.module_image.specs.declared.segments.Places.{Places}
use Rattle.module_image.specs.Binding.{bind}
use Rattle.module_image.specs.Exports.{exports}
use Rattle.module_image.specs.Image.{Images, image, image_by}

-- a module, the mode of its load and the places of its segments
pub record Load : Type 0 where
  pub body : Module
  pub mode : ℕ
  pub at : Places

-- ---- all at once
-- the last global with a name among what a load exports; the group doesn't matter
abbrev pub export_by : Load → List ℕ → Option Symbol
export_by l name = find_global (exports l.body l.mode l.at 0) name

abbrev pub value_else : Option Symbol → ℕ → ℕ
value_else (Some s) n = s.value
value_else None n = n

-- the value of a name after these loads, latest first: from the latest load that exports the name, else from
-- the table
abbrev pub meaning : List Symbol → List Load → List ℕ → ℕ
meaning tab [] name = bind tab name
meaning tab (l ∷ earlier) name = value_else (export_by l name) (meaning tab earlier name)

-- the images of loads that come after these, the latest first
abbrev pub link_after : List Symbol → List Load → List Load → List Images
link_after tab earlier [] = []
link_after tab earlier (l ∷ ls) = image_by l.body (meaning tab earlier) l.at ∷ link_after tab (l ∷ earlier) ls

-- the static link of these loads over a table: a name that a module doesn't define gets its value from the latest
-- module before
-- it that exports the name, else from the table
unfoldable pub link : List Symbol → List Load → List Images
link tab ls = link_after tab [] ls

-- ---- one after the other
-- each load, with its id, finds the symbols that those before it left
abbrev pub images_of : List Symbol → List (ℕ × Load) → List Images
images_of tab [] = []
images_of tab ((id, l) ∷ ls) = image l.body tab l.at ∷ images_of (tab ++ exports l.body l.mode l.at id) ls

-- loads made one after the other write the static link, whatever ids they get
abbrev pub LinkLaw : Type 0
LinkLaw = (tab : List Symbol) (ls : List (ℕ × Load)) → images_of tab ls ≡ link tab (map (λ l. l.1) ls)
