-- What a name means once the exports of a load are added: the id of the load plays no part.
use Rattle.std.proofs.Common.{◌≡◌, ℕ, Bool, true, false, cond, List, [], ◌∷◌, ◌++◌, Option, Some, None, refl, sym, ◌∙◌, ap}
use Rattle.std.specs.Option.{option_or}
use Rattle.symbol_table.specs.declared.symbol.Symbol.{Symbol}
use Rattle.symbol_table.specs.Newest.{newest, is_global_named}
use Rattle.symbol_table.proofs.Finding.{newest-append}
use Rattle.elf_read.specs.declared.module.Sect.{Sect}
use Rattle.elf_read.specs.declared.module.Sym.{Sym}
use Rattle.module_image.specs.Layout.{values}
use Rattle.module_image.specs.Exports.{is_wanted, exported, export_of, exports_from, exports}
use Rattle.module_image.specs.Binding.{value_or_zero, bind}
use Rattle.module_image.specs.Link.{Load, export_by, value_else}

-- only the value
abbrev valued : Option Symbol → Option ℕ
valued None = None
valued (Some s) = Some s.value

abbrev value_at : Option ℕ → ℕ → ℕ
value_at None n = n
value_at (Some v) n = v

valued-or : (a b : Option Symbol) → valued (option_or a b) ≡ option_or (valued a) (valued b)
valued-or (Some s) b = refl
valued-or None b = refl

value_else-valued : (o : Option Symbol) (n : ℕ) → value_else o n ≡ value_at (valued o) n
value_else-valued (Some s) n = refl
value_else-valued None n = refl

value_or_zero-or : (a b : Option Symbol) → value_or_zero (option_or a b) ≡ value_else a (value_or_zero b)
value_or_zero-or (Some s) b = refl
value_or_zero-or None b = refl

valued_choice : (b : Bool) (s t : Symbol) → s.value ≡ t.value → valued (cond b (Some s) None) ≡ valued (cond b (Some t) None)
valued_choice true s t h = ap Some h
valued_choice false s t h = refl

-- the same with two ids: for one symbol, and for all
valued_one : (ss : List Sect) (mode id : ℕ) (name : List ℕ) (y : Sym) (v : Option ℕ)
    → valued (newest (is_global_named name) (export_of ss mode id y v)) ≡ valued (newest (is_global_named name) (export_of ss mode 0 y v))
valued_one ss mode id name y None = refl
valued_one ss mode id name y (Some value) =
    elim (is_wanted mode y) as (λ b. valued (newest (is_global_named name) (cond b (exported ss id y value ∷ []) [])) ≡ valued (newest (is_global_named name) (cond b (exported ss 0 y value ∷ []) []))) [
      | true ↦ valued_choice (is_global_named name (exported ss 0 y value)) (exported ss id y value) (exported ss 0 y value) refl
      | false ↦ refl
    ]

valued_from : (ss : List Sect) (mode id : ℕ) (name : List ℕ) (ys : List Sym) (vs : List (Option ℕ))
    → valued (newest (is_global_named name) (exports_from ss mode id ys vs)) ≡ valued (newest (is_global_named name) (exports_from ss mode 0 ys vs))
valued_from ss mode id name [] vs = refl
valued_from ss mode id name (y ∷ ys) [] = refl
valued_from ss mode id name (y ∷ ys) (v ∷ vs) =
    let p = is_global_named name in
    let one = valued_one ss mode id name y v in
    let rest = valued_from ss mode id name ys vs in
    ap valued (newest-append p (export_of ss mode id y v) (exports_from ss mode id ys vs))
    ∙ valued-or (newest p (exports_from ss mode id ys vs)) (newest p (export_of ss mode id y v))
    ∙ ap (λ o. option_or o (valued (newest p (export_of ss mode id y v)))) rest
    ∙ ap (option_or (valued (newest p (exports_from ss mode 0 ys vs)))) one
    ∙ sym (valued-or (newest p (exports_from ss mode 0 ys vs)) (newest p (export_of ss mode 0 y v)))
    ∙ ap valued (sym (newest-append p (export_of ss mode 0 y v) (exports_from ss mode 0 ys vs)))

same_export : (l : Load) (id : ℕ) (name : List ℕ) (n : ℕ)
    → value_else (newest (is_global_named name) (exports_from l.body.sections l.mode id l.body.symbols (values l.body l.at))) n
    ≡ value_else (newest (is_global_named name) (exports_from l.body.sections l.mode 0 l.body.symbols (values l.body l.at))) n
same_export l id name n =
    value_else-valued (newest (is_global_named name) (exports_from l.body.sections l.mode id l.body.symbols (values l.body l.at))) n
    ∙ ap (λ o. value_at o n) (valued_from l.body.sections l.mode id name l.body.symbols (values l.body l.at))
    ∙ sym (value_else-valued (newest (is_global_named name) (exports_from l.body.sections l.mode 0 l.body.symbols (values l.body l.at))) n)

-- what a name means once a load is accepted
pub bind-exports : (tab : List Symbol) (l : Load) (id : ℕ) (name : List ℕ)
    → bind (tab ++ exports l.body l.mode l.at id) name ≡ value_else (export_by l name) (bind tab name)
unfolding bind exports
bind-exports tab l id name =
    let p = is_global_named name in
    let added = exports_from l.body.sections l.mode id l.body.symbols (values l.body l.at) in
    ap value_or_zero (newest-append p tab added) ∙ value_or_zero-or (newest p added) (newest p tab) ∙ same_export l id name (value_or_zero (newest p tab))
