-- What a load adds to the symbol table.
use Rattle.std.specs.Prelude.{ℕ, Bool, true, false, ◌&&◌, ◌||◌, not, ◌==◌, nat_le, if◌then◌else◌, bit_and, List, [], ◌∷◌, ◌++◌, length, count_by, slice_get, Option, Some, None}
use Rattle.symbol_table.specs.declared.symbol.SymKind.{SymKind}
use Rattle.symbol_table.specs.declared.symbol.SymKind.TheVariants.{TextSym, DataSym, BssSym, AbsSym}
use Rattle.symbol_table.specs.declared.symbol.Symbol.{Symbol}
use Rattle.elf_read.specs.declared.module.Sect.{Sect}
use Rattle.elf_read.specs.declared.module.Sym.{Sym}
use Rattle.elf_read.specs.declared.module.SymPlace.{SymPlace}
use Rattle.elf_read.specs.declared.module.SymPlace.TheVariants.{Undefined, Absolute, Common, Section, Elsewhere}
use Rattle.elf_read.specs.declared.module.Module.{Module}
use Rattle.module_image.specs.declared.segments.SegmentKind.{SegmentKind}
use Rattle.module_image.specs.declared.segments.SegmentKind.TheVariants.{Text, Data, Bss}
use Rattle.module_image.specs.declared.segments.Places.{Places}
use Rattle.module_image.specs.Layout.{segment_of, shf_execinstr, values}

-- the modes of a load that adds local symbols too, and no symbols; in every other mode it adds global and weak ones
abbrev pub locals_too : ℕ
locals_too = 1

abbrev pub no_symbols : ℕ
no_symbols = 0xffffffff

-- a binding that other modules see: STB_GLOBAL or STB_WEAK
abbrev pub is_global : Sym → Bool
is_global y = nat_le 1 y.binding

-- the types of local symbols that are added: STT_NOTYPE, STT_OBJECT and STT_FUNC
abbrev pub is_plain : Sym → Bool
is_plain y = nat_le y.kind 2

-- the mode adds such a symbol, if the module defines it; a symbol without a name is never added
abbrev pub is_wanted : ℕ → Sym → Bool
is_wanted mode y =
    not (mode == no_symbols) && (not (length y.name == 0) && (is_global y || (mode == locals_too && is_plain y)))

-- the module defines a symbol with this place
abbrev pub is_defined : SymPlace → Bool
is_defined Undefined = false
is_defined Elsewhere = false
is_defined _ = true

-- how many symbols a load adds
abbrev pub export_count : ℕ → List Sym → ℕ
export_count mode ys = count_by (λ y. is_defined y.place && is_wanted mode y) ys

-- a symbol in a section with code has kind text; any other has the kind of its segment
abbrev pub kind_in : Bool → SegmentKind → SymKind
kind_in true segment = TextSym
kind_in false Text = DataSym
kind_in false Data = DataSym
kind_in false Bss = BssSym

abbrev pub kind_at : Option Sect → SymKind
kind_at None = DataSym
kind_at (Some s) = kind_in (bit_and s.flags shf_execinstr == shf_execinstr) (segment_of s)

-- the kind of a symbol by its place
abbrev pub kind_of : List Sect → SymPlace → SymKind
kind_of ss Absolute = AbsSym
kind_of ss Common = BssSym
kind_of ss (Section n) = kind_at (slice_get ss n)
kind_of ss Undefined = AbsSym
kind_of ss Elsewhere = AbsSym

-- the table entry for a symbol with this value
abbrev pub exported : List Sect → ℕ → Sym → ℕ → Symbol
exported ss id y value =
    record { name = y.name; value = value; kind = kind_of ss y.place; global = is_global y; group = id }

-- one symbol, if the module defines it and the mode adds it
abbrev pub export_of : List Sect → ℕ → ℕ → Sym → Option ℕ → List Symbol
export_of ss mode id y None = []
export_of ss mode id y (Some value) = if is_wanted mode y then exported ss id y value ∷ [] else []

abbrev pub exports_from : List Sect → ℕ → ℕ → List Sym → List (Option ℕ) → List Symbol
exports_from ss mode id [] vs = []
exports_from ss mode id (y ∷ ys) [] = []
exports_from ss mode id (y ∷ ys) (v ∷ vs) = export_of ss mode id y v ++ exports_from ss mode id ys vs

-- what a load in this mode at these places adds, in symbol order, all in the group of the module's id
unfoldable pub exports : Module → ℕ → Places → ℕ → List Symbol
exports m mode at id = exports_from m.sections mode id m.symbols (values m at)
