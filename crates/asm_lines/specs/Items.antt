-- The lines of a source text with their sections, and the bytes of their items. Offsets are sums of sizes.
use Rattle.std.specs.Prelude.{ℕ, ◌+◌, ◌-◌, ◌%◌, ◌==◌, if◌then◌else◌, List, [], ◌∷◌, ◌++◌, length, replicate, Option}
use Rattle.std.specs.List.{flat_map}
use Rattle.std.specs.Int.{bytes_high_first}
use Rattle.ppc_word.specs.Rows.{word_with}
use Rattle.ppc_text.specs.declared.values.Value.{Value}
use Rattle.ppc_text.specs.declared.values.Value.TheVariants as values
use Rattle.ppc_text.specs.declared.line.Item.{Item}
use Rattle.ppc_text.specs.declared.line.Item.TheVariants as items
use Rattle.ppc_text.specs.declared.line.Line.{Line}

-- ---- sections
-- a line, with the section `before` of its label and the section of its item: 0 is text, 1 is data
pub record Placed : Type 0 where
  pub label : Option (List ℕ)
  pub before : ℕ
  pub section : ℕ
  pub item : Item

-- the section after an item
abbrev pub section_after : Item → ℕ → ℕ
section_after items.Text section = 0
section_after items.Data section = 1
section_after _ section = section

-- the section that these lines end in, if they begin in this one
abbrev pub section_from : ℕ → List Placed → ℕ
section_from section [] = section
section_from section (p ∷ ps) = section_from p.section ps

-- the section that these lines end in, if they begin in text
unfoldable pub section_at : List Placed → ℕ
section_at ps = section_from 0 ps

-- a line after these, with its sections
abbrev pub next : List Placed → Line → Placed
next ps l = record { label = l.label; before = section_at ps; section = section_after l.item (section_at ps); item = l.item }

-- ---- bytes
-- the bytes of a word of data; a relocated one is 0
abbrev pub value_bytes : Value → List ℕ
value_bytes (values.Number w) = bytes_high_first 4 w
value_bytes (values.Address r) = bytes_high_first 4 0

-- the number of zeros from an offset to the next multiple of `align`
abbrev pub padding : ℕ → ℕ → ℕ
padding offset align = (align - offset % align) % align

-- the bytes of an item at an offset of its section
unfoldable pub item_bytes : ℕ → Item → List ℕ
item_bytes offset (items.Long vs) = flat_map value_bytes vs
item_bytes offset (items.Ascii bytes) = bytes
item_bytes offset (items.Space n) = replicate n 0
item_bytes offset (items.Align n) = replicate (padding offset n) 0
item_bytes offset (items.Instruction i) = bytes_high_first 4 (word_with i.row i.fields)
item_bytes offset _ = []

-- the bytes of a section from an offset on: those of its items, one after another
abbrev pub bytes_from : ℕ → ℕ → List Placed → List ℕ
bytes_from section offset [] = []
bytes_from section offset (p ∷ ps) =
    if p.section == section
    then item_bytes offset p.item ++ bytes_from section (offset + length (item_bytes offset p.item)) ps
    else bytes_from section offset ps

-- the bytes of a section
unfoldable pub section_bytes : ℕ → List Placed → List ℕ
section_bytes section ps = bytes_from section 0 ps

-- how many bytes a section has
abbrev pub size : ℕ → List Placed → ℕ
size section ps = length (section_bytes section ps)
