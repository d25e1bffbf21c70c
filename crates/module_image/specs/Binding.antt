-- The value of a name that a module doesn't define.
use Rattle.std.specs.Prelude.{ℕ, Bool, false, ◌&&◌, not, ◌==◌, is_some, List, map, Option, Some, None}
use Rattle.std.specs.List.{filter}
use Rattle.symbol_table.specs.declared.symbol.Symbol.{Symbol}
use Rattle.symbol_table.specs.Newest.{find_global}
use Rattle.elf_read.specs.declared.module.Sym.{Sym}
use Rattle.elf_read.specs.declared.module.SymPlace.{SymPlace}
use Rattle.elf_read.specs.declared.module.SymPlace.TheVariants.{Undefined}
use Rattle.elf_read.specs.Standard.{stb_weak}

abbrev pub value_or_zero : Option Symbol → ℕ
value_or_zero None = 0
value_or_zero (Some s) = s.value

-- the value of the newest global with the name, else 0
unfoldable pub bind : List Symbol → List ℕ → ℕ
bind tab name = value_or_zero (find_global tab name)

-- the module doesn't define the symbol, the symbol isn't weak, and the table has no global with its name
abbrev pub is_unbound_at : List Symbol → Sym → SymPlace → Bool
is_unbound_at tab y Undefined = not (y.binding == stb_weak) && not (is_some (find_global tab y.name))
is_unbound_at tab y _ = false

abbrev pub is_unbound : List Symbol → Sym → Bool
is_unbound tab y = is_unbound_at tab y y.place

-- the names of such symbols, in symbol order
abbrev pub unbound : List Symbol → List Sym → List (List ℕ)
unbound tab ys = map (λ y. y.name) (filter (is_unbound tab) ys)
