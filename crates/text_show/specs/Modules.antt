-- The table of modules, as the shell's `moduleShow` shows it. Its columns are this project's own.
use Rattle.std.specs.Prelude.{ℕ, false, List, [], ◌∷◌, ◌++◌, codes, map}
use Rattle.std.specs.List.{flat_map}
use Rattle.std.specs.Fmt.{digits}
use Rattle.module_loader.specs.declared.module.LoadedModule.{LoadedModule}
use Rattle.module_loader.specs.declared.module.Segment.{Segment}
use Rattle.wind_base.specs.Texts.{hex_places}
use Rattle.text_show.specs.Columns.{left_in, right_in, row}

-- the header of the table: each word is left-justified in its column
unfoldable pub module_header : List ℕ
module_header = row (
    left_in 24 (codes "MODULE")
    ∷ left_in 8 (codes "ID")
    ∷ left_in 8 (codes "TEXT")
    ∷ left_in 8 (codes "DATA")
    ∷ left_in 8 (codes "BSS")
    ∷ [])

-- the address of a segment in 8 hexadecimal digits; it is 0 if the segment has no block
abbrev pub segment_cell : Segment → List ℕ
segment_cell g = hex_places 8 g.addr

-- the row of a module: its name, its id in hexadecimal, the addresses of its text, data and bss
unfoldable pub module_row : ℕ × LoadedModule → List ℕ
module_row r = row (left_in 24 r.1.name ∷ right_in 8 (digits 16 false r.0) ∷ map segment_cell r.1.segments)

-- the table of modules by id: the header, and a row for each
unfoldable pub module_table_of : List (ℕ × LoadedModule) → List ℕ
module_table_of modules = module_header ++ flat_map module_row modules
