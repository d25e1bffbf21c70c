-- The labels of a source text, its global names, the names that it mentions, and the addresses that relocations put in.
use Rattle.std.specs.Prelude.{ℕ, ◌+◌, ◌%◌, Bool, ◌==◌, ◌&&◌, nat_le, if◌then◌else◌, List, [], ◌∷◌, ◌++◌, Option, Some, None}
use Rattle.std.specs.List.{flat_map, list_any}
use Rattle.std.specs.Str.{bytes_eq}
use Rattle.ppc_text.specs.declared.token.Reference.{Reference}
use Rattle.ppc_text.specs.declared.values.Value.{Value}
use Rattle.ppc_text.specs.declared.values.Value.TheVariants as values
use Rattle.ppc_text.specs.declared.line.Item.{Item}
use Rattle.ppc_text.specs.declared.line.Item.TheVariants as items
use Rattle.asm_lines.specs.declared.section.Fix.{Fix}
use Rattle.asm_lines.specs.declared.names.Label.{Label}
use Rattle.asm_lines.specs.Gather.{gather}
use Rattle.asm_lines.specs.Items.{Placed, size}

-- ---- names
-- the name that a word of data mentions
abbrev pub value_names : Value → List (List ℕ)
value_names (values.Number w) = []
value_names (values.Address r) = r.symbol ∷ []

-- the name that an instruction mentions
abbrev pub reference_names : Option Reference → List (List ℕ)
reference_names (Some r) = r.symbol ∷ []
reference_names None = []

-- the names that an item mentions, in order
unfoldable pub item_names : Item → List (List ℕ)
item_names (items.Global name) = name ∷ []
item_names (items.Long vs) = flat_map value_names vs
item_names (items.Instruction i) = reference_names i.reference
item_names _ = []

-- the name that a `.globl` makes global
abbrev pub global_names : Item → List (List ℕ)
global_names (items.Global name) = name ∷ []
global_names _ = []

-- the name of a line's label
abbrev pub label_names : Option (List ℕ) → List (List ℕ)
label_names (Some name) = name ∷ []
label_names None = []

-- the names of the labels, in order
unfoldable pub defined : List Placed → List (List ℕ)
defined ps = flat_map (λ p. label_names p.label) ps

-- the names of each `.globl`, in order
unfoldable pub globals : List Placed → List (List ℕ)
globals ps = flat_map (λ p. global_names p.item) ps

-- all names, in the order of their mentions; a label mentions its name
unfoldable pub mentions : List Placed → List (List ℕ)
mentions ps = flat_map (λ p. label_names p.label ++ item_names p.item) ps

-- a name is among these
unfoldable pub has_name : List (List ℕ) → List ℕ → Bool
has_name names name = list_any (λ other. bytes_eq other name) names

-- a name, if it isn't among those before it
abbrev pub new_name : List (List ℕ) → List ℕ → List (List ℕ)
new_name before name = if has_name before name then [] else name ∷ []

-- each name once, in the order of the first mentions
unfoldable pub first_names : List (List ℕ) → List (List ℕ)
first_names names = gather new_name [] names

-- ---- labels
-- the label of a line, if it has one
abbrev pub label_at : Option (List ℕ) → ℕ → ℕ → List Label
label_at (Some name) section offset = record { name = name; section = section; offset = offset } ∷ []
label_at None section offset = []

-- a line's label stands at the size of its section before the line
abbrev pub line_label : List Placed → Placed → List Label
line_label before p = label_at p.label p.before (size p.before before)

-- the labels, in the order of their lines
unfoldable pub labels : List Placed → List Label
labels ps = gather line_label [] ps

-- ---- addresses that relocations put in
-- R_PPC_ADDR32 at a multiple of 4, else R_PPC_UADDR32, of the PowerPC ABI supplement
abbrev pub address_kind : ℕ → ℕ
address_kind offset = if offset % 4 == 0 then 1 else 24

-- the offset of an instruction's relocation: R_PPC_ADDR16_LO, _HI and _HA stand at the word's lower half
abbrev pub reference_offset : ℕ → ℕ → ℕ
reference_offset offset kind = if nat_le 4 kind && nat_le kind 6 then offset + 2 else offset

-- a reference at an offset, with the type of its relocation
abbrev pub fix : ℕ → ℕ → Reference → Fix
fix offset kind r = record { offset = offset; kind = kind; symbol = r.symbol; addend = r.addend }

-- the addresses among words of data, which begin at an offset
abbrev pub value_fixes : ℕ → List Value → List Fix
value_fixes offset [] = []
value_fixes offset (values.Number w ∷ vs) = value_fixes (offset + 4) vs
value_fixes offset (values.Address r ∷ vs) = fix offset (address_kind offset) r ∷ value_fixes (offset + 4) vs

-- the address in an instruction at an offset
abbrev pub reference_fixes : ℕ → Option Reference → List Fix
reference_fixes offset (Some r) = fix (reference_offset offset r.kind) r.kind r ∷ []
reference_fixes offset None = []

-- the addresses of an item at an offset of its section
unfoldable pub item_fixes : ℕ → Item → List Fix
item_fixes offset (items.Long vs) = value_fixes offset vs
item_fixes offset (items.Instruction i) = reference_fixes offset i.reference
item_fixes offset _ = []

-- the addresses that a line puts into a section
abbrev pub line_fixes : ℕ → List Placed → Placed → List Fix
line_fixes section before p = if p.section == section then item_fixes (size section before) p.item else []

-- the addresses of a section, in the order of their offsets
unfoldable pub fixes : ℕ → List Placed → List Fix
fixes section ps = gather (line_fixes section) [] ps
