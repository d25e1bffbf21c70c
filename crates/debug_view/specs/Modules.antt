-- The loaded modules.
use Rattle.std.specs.Prelude.{ℕ, ◌==◌, if◌then◌else◌, Bool, false, List, [], map, slice_index, is_ok}
use Rattle.std.specs.Option.{option_map_or}
use Rattle.std.specs.Str.{bytes_eq}
use Rattle.id_table.specs.Rows.{ids, next_above}
use Rattle.elf_read.specs.Contents.{module_at}
use Rattle.elf_read.specs.Rules.{checked}
use Rattle.module_image.specs.Layout.{addresses}
use Rattle.module_image.specs.declared.segments.Places.{Places}
use Rattle.module_loader.specs.declared.module.LoadedModule.{LoadedModule}
use Rattle.debug_texts.specs.Lists.{LibraryRow}

-- the address of a segment of a module: 0 is text, 1 is data, 2 is bss
abbrev pub segment_address : LoadedModule → ℕ → ℕ
segment_address m segment = slice_index (map (λ g. g.addr) m.segments) segment

-- where its segments are
abbrev pub places_of : LoadedModule → Places
places_of m = record { text = segment_address m 0; «data» = segment_address m 1; bss = segment_address m 2 }

-- the addresses at which the load of this file put its sections; none if it isn't an object file
abbrev pub sections_of : LoadedModule → List ℕ → List ℕ
sections_of m file = if is_ok (checked file) then addresses (module_at file) (places_of m) else []

-- the row of a module that was loaded from this file
abbrev pub library_row : ℕ → LoadedModule → List ℕ → LibraryRow
library_row id m file = record { id = id; name = m.name; sections = sections_of m file }

-- the first module after an id is the one with this id
abbrev pub is_next : List (ℕ × LoadedModule) → ℕ → ℕ → Bool
is_next rows last id = option_map_or (λ next. next == id) (next_above rows last) false

-- the loaded modules are those with these ids
abbrev pub are_loaded : List (ℕ × LoadedModule) → List ℕ → Bool
are_loaded rows told = bytes_eq (ids rows) told
