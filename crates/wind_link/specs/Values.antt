-- The values of the global names so far.
use Rattle.std.specs.Prelude.{◌≡◌, ℕ, Bool, false, ◌&&◌, ◌==◌, not, is_some, if◌then◌else◌, List, [], ◌∷◌, Option, Some, None, unwrap_or}
use Rattle.std.specs.List.{flat_map}
use Rattle.std.specs.BTreeMap.{get_by}
use Rattle.std.specs.Cmp.Lexicographic.{slice_cmp}
use Rattle.std.specs.Ordering.{nat_cmp}
use Rattle.symbol_table.specs.declared.symbol.Symbol.{Symbol}
use Rattle.symbol_table.specs.Newest.{find_global}
use Rattle.elf_read.specs.Standard.{stb_weak}
use Rattle.elf_read.specs.declared.module.Sym.{Sym}
use Rattle.elf_read.specs.declared.module.SymPlace.{SymPlace}
use Rattle.elf_read.specs.declared.module.SymPlace.TheVariants.{Undefined}
use Rattle.wind_link.specs.declared.values.Values.{Values}

-- the value of a name, if it has one
unfoldable pub entry_of : Values → List ℕ → Option ℕ
entry_of v name = get_by (λ k. slice_cmp nat_cmp name k.now) v.by_name

-- the value of a name; 0 if it has none
unfoldable pub value_of : Values → List ℕ → ℕ
value_of v name = unwrap_or (entry_of v name) 0

-- the value of a symbol that was found, or what was there before
abbrev pub entry_else : Option Symbol → Option ℕ → Option ℕ
entry_else (Some s) before = Some s.value
entry_else None before = before

-- each name has the value that the table's newest global with that name has
abbrev pub Means : Values → List Symbol → Type 0
Means v tab = (name : List ℕ) → entry_of v name ≡ entry_else (find_global tab name) None

-- the module doesn't define the symbol, the symbol isn't weak, and its name has no value
abbrev pub is_valueless_at : Values → Sym → SymPlace → Bool
is_valueless_at v y Undefined = not (y.binding == stb_weak) && not (is_some (entry_of v y.name))
is_valueless_at v y _ = false

abbrev pub is_valueless : Values → Sym → Bool
is_valueless v y = is_valueless_at v y y.place

-- the names of such symbols, in symbol order
abbrev pub valueless_name : Values → Sym → List (List ℕ)
valueless_name v y = if is_valueless v y then y.name ∷ [] else []

abbrev pub valueless_names : Values → List Sym → List (List ℕ)
valueless_names v ys = flat_map (valueless_name v) ys
