-- The listing of a module: a line for each word of its executable sections.
use Rattle.std.specs.Prelude.{ℕ, ◌+◌, Bool, not, ◌&&◌, ◌==◌, if◌then◌else◌, List, [], ◌∷◌, ◌++◌, Option, Some, None, codes, bit_and}
use Rattle.std.specs.List.{flat_map}
use Rattle.std.specs.Int.{from_be_bytes, w32}
use Rattle.elf_read.specs.Standard.{sht_nobits}
use Rattle.elf_read.specs.Tables.{header, is_loaded}
use Rattle.elf_read.specs.declared.module.Body.{Body}
use Rattle.elf_read.specs.declared.module.Body.TheVariants.{Bytes, Size}
use Rattle.elf_read.specs.declared.module.Sect.{Sect}
use Rattle.elf_read.specs.declared.module.Module.{Module}
use Rattle.wind_base.specs.Texts.{hex_places}
use Rattle.ppc_word.specs.declared.row.Row.{Row}
use Rattle.ppc_word.specs.Rows.{row_of, fields_of}
use Rattle.ppc_text.specs.Mnemonics.{named_as}
use Rattle.ppc_text.specs.Shown.{text_with}

-- the instruction of a word; `.long` and the word if it is outside the table
abbrev pub item_text : Option Row → ℕ → List ℕ
item_text (Some row) w = text_with (named_as row) (fields_of row w)
item_text None w = codes ".long 0x" ++ hex_places 8 w

-- the line of a word: its offset in its section, the word, and its instruction
unfoldable pub line_text : ℕ → ℕ → List ℕ
line_text offset w = hex_places 8 offset ++ codes " " ++ hex_places 8 w ++ codes " " ++ item_text (row_of w) w ++ codes "\n"

-- the lines of bytes, which begin at an offset: one for each four; fewer than four at the end have none
abbrev pub lines_from : ℕ → List ℕ → List ℕ
lines_from offset (a ∷ b ∷ c ∷ d ∷ bs) = line_text offset (from_be_bytes w32 (a ∷ b ∷ c ∷ d ∷ [])) ++ lines_from (offset + 4) bs
lines_from offset bs = []

-- the lines of a section's body; one without bytes has none
abbrev pub body_lines : Body → List ℕ
body_lines (Bytes bs) = lines_from 0 bs
body_lines (Size n) = []

-- the lines of a section with SHF_EXECINSTR; other sections have none
unfoldable pub section_lines : Sect → List ℕ
section_lines s = if bit_and s.flags 4 == 0 then [] else body_lines s.body

-- section number i of a file is loaded and executable, and the file has its bytes
abbrev pub is_listed_at : List ℕ → ℕ → Bool
is_listed_at bytes i = is_loaded bytes i && (not ((header bytes i).kind == sht_nobits) && not (bit_and (header bytes i).flags 4 == 0))

-- the lines of all sections
unfoldable pub listing : Module → List ℕ
listing m = flat_map section_lines m.sections
