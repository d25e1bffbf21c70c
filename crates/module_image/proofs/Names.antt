-- Every symbol that a load adds has a name.
use Rattle.std.proofs.Common.{◌≡◌, ℕ, ◌<◌, true, false, cond, not, eqb, ◌&&◌, ◌||◌, List, [], ◌∷◌, length, Option, None, Some, refl, arith}
use Rattle.std.specs.List.{All}
use Rattle.std.proofs.lemmas.Bool.{and_parts, eqb-false}
use Rattle.std.proofs.lemmas.List.Elements.{All-nil, All-cons, All-append}
use Rattle.symbol_table.specs.State.{HasName}
use Rattle.elf_read.specs.declared.module.Module.{Module}
use Rattle.elf_read.specs.declared.module.Sect.{Sect}
use Rattle.elf_read.specs.declared.module.Sym.{Sym}
use Rattle.module_image.specs.declared.segments.Places.{Places}
use Rattle.module_image.specs.Layout.{values}
use Rattle.module_image.specs.Exports.{no_symbols, locals_too, is_global, is_plain, is_wanted, exported, export_of, exports_from, exports}

wanted_named : (mode : ℕ) (y : Sym) → is_wanted mode y ≡ true → 0 < length y.name
wanted_named mode y =
    elim (eqb (length y.name) 0) as (λ t. eqb (length y.name) 0 ≡ t → (not (eqb mode no_symbols) && (not t && (is_global y || (eqb mode locals_too && is_plain y)))) ≡ true → 0 < length y.name) [
      | true ↦ λ e h. let no = (and_parts (not (eqb mode no_symbols)) false h).1 in absurd (cc)
      | false ↦ λ e h. let some = eqb-false (length y.name) 0 e in omega (arith, some)
    ] refl

one_named : (ss : List Sect) (mode id : ℕ) (y : Sym) (o : Option ℕ) → All HasName (export_of ss mode id y o)
one_named ss mode id y None = All-nil HasName
one_named ss mode id y (Some v) =
    elim (is_wanted mode y) as (λ t. is_wanted mode y ≡ t → All HasName (cond t (exported ss id y v ∷ []) [])) [
      | true ↦ λ e. All-cons HasName (exported ss id y v) [] (wanted_named mode y e) (All-nil HasName)
      | false ↦ λ e. All-nil HasName
    ] refl

named_from : (ss : List Sect) (mode id : ℕ) (ys : List Sym) (vs : List (Option ℕ)) → All HasName (exports_from ss mode id ys vs)
named_from ss mode id [] vs = All-nil HasName
named_from ss mode id (y ∷ ys) [] = All-nil HasName
named_from ss mode id (y ∷ ys) (v ∷ vs) =
    All-append HasName (export_of ss mode id y v) (exports_from ss mode id ys vs) (one_named ss mode id y v) (named_from ss mode id ys vs)

pub exports_named : (m : Module) (mode : ℕ) (at : Places) (id : ℕ) → All HasName (exports m mode at id)
unfolding exports
exports_named m mode at id = named_from m.sections mode id m.symbols (values m at)
