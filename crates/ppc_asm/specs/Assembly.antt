-- The module of a source text: its sections, symbols and relocations, in order. The numbers are those of the ELF gABI.
use Rattle.std.specs.Prelude.{◌≡◌, ℕ, ◌+◌, ◌<◌, ◌≤◌, ◌^◌, length, Bool, true, false, not, ◌==◌, if◌then◌else◌, List, [], ◌∷◌, ◌++◌, map, filter, codes, Option, Some, None, unwrap_or, Result, Ok, Err}
use Rattle.std.specs.Str.{bytes_eq}
use Rattle.std.specs.List.{All}
use Rattle.wind_base.specs.Limits.{longest_name}
use Rattle.elf_read.specs.declared.module.Body.TheVariants.{Bytes}
use Rattle.elf_read.specs.declared.module.SymPlace.TheVariants.{Undefined, Section}
use Rattle.elf_read.specs.declared.module.Sect.{Sect}
use Rattle.elf_read.specs.declared.module.Sym.{Sym}
use Rattle.elf_read.specs.declared.module.Rel.{Rel}
use Rattle.elf_read.specs.declared.module.Module.{Module}
use Rattle.asm_lines.specs.declared.section.Fix.{Fix}
use Rattle.asm_lines.specs.declared.names.Label.{Label}
use Rattle.asm_lines.specs.declared.error.Cause.{Cause}
use Rattle.asm_lines.specs.declared.name_map.NameMap.{NameMap}
use Rattle.asm_lines.specs.declared.draft.Draft.{Draft}
use Rattle.asm_lines.specs.Causes.{items}
use Rattle.asm_lines.specs.Drafts.{number_at}
use Rattle.asm_lines.specs.Items.{Placed, section_bytes}
use Rattle.asm_lines.specs.Names.{has_name, defined, globals, mentions, first_names, labels, fixes}

-- ---- symbols
-- a label's symbol: STT_FUNC in text, STT_OBJECT in data, and of size 0
abbrev pub label_symbol : ℕ → Label → Sym
label_symbol binding l = record { name = l.name; binding = binding; kind = if l.section == 0 then 2 else 1; value = l.offset; size = 0; place = Section l.section }

-- the symbol of a name without a label: STB_GLOBAL, STT_NOTYPE and undefined
abbrev pub undefined_symbol : List ℕ → Sym
undefined_symbol name = record { name = name; binding = 1; kind = 0; value = 0; size = 0; place = Undefined }

-- STB_LOCAL or STB_GLOBAL
abbrev pub binding_of : Bool → ℕ
binding_of true = 1
binding_of false = 0

-- a label has this binding: it is global if a `.globl` names it, else local
abbrev pub is_chosen : List (List ℕ) → Bool → Label → Bool
is_chosen globals true l = has_name globals l.name
is_chosen globals false l = not (has_name globals l.name)

-- a name isn't a label
abbrev pub is_undefined : List (List ℕ) → List ℕ → Bool
is_undefined defined name = not (has_name defined name)

-- the local labels by line, the global labels by line, then the other names by their first mention
unfoldable pub symbols : List Placed → List Sym
symbols ps =
    (map (label_symbol (binding_of false)) (filter (is_chosen (globals ps) false) (labels ps))
    ++ map (label_symbol (binding_of true)) (filter (is_chosen (globals ps) true) (labels ps)))
    ++ map undefined_symbol (filter (is_undefined (defined ps)) (first_names (mentions ps)))

-- the number of the first symbol with this name, counted from k, if there is one
abbrev pub number_from : ℕ → List Sym → List ℕ → Option ℕ
number_from k [] name = None
number_from k (s ∷ ss) name = if bytes_eq s.name name then Some k else number_from (k + 1) ss name

-- the number of the first symbol with this name, counted from 1, if there is one
unfoldable pub number_in : List Sym → List ℕ → Option ℕ
number_in ss name = number_from 1 ss name

-- ---- relocations
-- the relocation of an address; its symbol is the first one with the address's name
abbrev pub relocation : List Sym → ℕ → Fix → Rel
relocation ss section f = record { section = section; offset = f.offset; kind = f.kind; symbol = unwrap_or (number_in ss f.symbol) 0; addend = f.addend }

-- the relocations: those of text, then those of data, each by offset
unfoldable pub relocations : List Placed → List Rel
relocations ps = map (relocation (symbols ps) 0) (fixes 0 ps) ++ map (relocation (symbols ps) 1) (fixes 1 ps)

-- ---- the module
-- a section with these bytes, aligned to 16
abbrev pub section_of : List ℕ → ℕ → List ℕ → Sect
section_of name flags bytes = record { name = name; flags = flags; align = 16; body = Bytes bytes }

-- the module of these lines: `.text` with SHF_ALLOC and SHF_EXECINSTR, and `.data` with SHF_WRITE and SHF_ALLOC
unfoldable pub module_of : List Placed → Module
module_of ps = record {
  sections = section_of (codes ".text") 6 (section_bytes 0 ps) ∷ section_of (codes ".data") 3 (section_bytes 1 ps) ∷ [];
  symbols = symbols ps;
  relocs = relocations ps;
}

-- the module of the lines, or their refusal
abbrev pub module_or : Result (List Placed) (ℕ × Cause) → Result Module (ℕ × Cause)
module_or (Ok ps) = Ok (module_of ps)
module_or (Err refused) = Err refused

-- the module of a source text, or its first refused line, counted from 1, with its first cause
unfoldable pub assembly : List ℕ → Result Module (ℕ × Cause)
assembly text = module_or (items text)

-- a map has each name's number among these symbols
abbrev pub Numbers : NameMap → List Sym → Type 0
Numbers m ss = (q : List ℕ) → number_at m q ≡ number_in ss q

-- a draft's names have at most 255 bytes, and the offsets of its addresses fit 32 bits
pub record FitsModule (d : Draft) : Type 0 where
  pub labels : All (λ l. length l.name ≤ longest_name) d.labels.items
  pub names : All (λ n. length n ≤ longest_name) d.names.entries.items
  pub in_text : All (λ f. f.offset < 2 ^ 32) d.text_part.fixes.items
  pub in_data : All (λ f. f.offset < 2 ^ 32) d.data_part.fixes.items
