-- Going down the modules by their ids, the first with a name that is met is the newest.
use Rattle.std.proofs.Common.{◌≡◌, ℕ, zero, suc, ◌<◌, Bool, true, false, cond, List, [], ◌∷◌, length, drop, get_or, Some, None, refl, sym, ap, ◌∙◌, subst, arith}
use Rattle.std.specs.Prelude.{reverse}
use Rattle.std.specs.List.{find}
use Rattle.std.specs.Option.{option_map, option_or}
use Rattle.std.specs.Str.{bytes_eq}
use Rattle.std.proofs.lemmas.List.{get_or-map, reverse-append}
use Rattle.std.proofs.lemmas.List.Folds.{find-append}
use Rattle.id_table.specs.Rows.{row_id, row_object, ids, objects}
use Rattle.module_loader.specs.declared.module.LoadedModule.{LoadedModule}
use Rattle.module_loader.specs.Modules.{is_named, newest_named}

-- the newest of the later rows, or else the first row if it has the name
newest_cons : (name : List ℕ) (r : ℕ × LoadedModule) (rs : List (ℕ × LoadedModule))
    → newest_named (r ∷ rs) name ≡ option_or (newest_named rs name) (cond (is_named name r) (Some r.0) None)
newest_cons name r rs =
    ap (λ xs. option_map (λ (x : ℕ × LoadedModule). x.0) (find (is_named name) xs)) (reverse-append (r ∷ []) rs)
    ∙ ap (option_map (λ (x : ℕ × LoadedModule). x.0)) (find-append (is_named name) (reverse rs) (r ∷ []))
    ∙ elim (find (is_named name) (reverse rs)) as (λ o. option_map (λ (x : ℕ × LoadedModule). x.0) (option_or o (cond (is_named name r) (Some r) None)) ≡ option_or (option_map (λ (x : ℕ × LoadedModule). x.0) o) (cond (is_named name r) (Some r.0) None)) [
      | None ↦ elim (is_named name r) as (λ t. option_map (λ (x : ℕ × LoadedModule). x.0) (cond t (Some r) None) ≡ cond t (Some r.0) None) [ true ↦ refl | false ↦ refl ]
      | Some x ↦ refl
    ]

-- no row from the place up has the name
none_here : (rows : List (ℕ × LoadedModule)) (name : List ℕ) (n : ℕ) (d : ℕ × LoadedModule) → n < length rows
    → newest_named (drop (suc n) rows) name ≡ None → is_named name (get_or rows n d) ≡ false → newest_named (drop n rows) name ≡ None
none_here [] name n d less none fails = absurd (omega arith)
none_here (r ∷ rs) name zero d less none fails =
    newest_cons name r rs
    ∙ ap (λ o. option_or o (cond (is_named name r) (Some r.0) None)) none
    ∙ ap (λ t. cond t (Some r.0) None) fails
none_here (r ∷ rs) name (suc n) d less none fails = none_here rs name n d (omega arith) none fails

-- the row at the place is the newest with the name
found_here : (rows : List (ℕ × LoadedModule)) (name : List ℕ) (n : ℕ) (d : ℕ × LoadedModule) → n < length rows
    → newest_named (drop (suc n) rows) name ≡ None → is_named name (get_or rows n d) ≡ true → newest_named rows name ≡ Some (get_or rows n d).0
found_here [] name n d less none passes = absurd (omega arith)
found_here (r ∷ rs) name zero d less none passes =
    newest_cons name r rs
    ∙ ap (λ o. option_or o (cond (is_named name r) (Some r.0) None)) none
    ∙ ap (λ t. cond t (Some r.0) None) passes
found_here (r ∷ rs) name (suc n) d less none passes =
    newest_cons name r rs ∙ ap (λ o. option_or o (cond (is_named name r) (Some r.0) None)) (found_here rs name n d (omega arith) none passes)

-- as the code tests a row
abbrev pub Tells : List (ℕ × LoadedModule) → List ℕ → ℕ → Bool → Type 0
Tells rows name n t = (d : LoadedModule) → t ≡ bytes_eq (get_or (objects rows) n d).name name

told : (rows : List (ℕ × LoadedModule)) (name : List ℕ) (n : ℕ) (t : Bool) (d : ℕ × LoadedModule) → n < length rows → Tells rows name n t → is_named name (get_or rows n d) ≡ t
told rows name n t d less tells =
    let here = get_or rows n d in
    sym (tells here.1 ∙ ap (λ (m : LoadedModule). bytes_eq m.name name) (get_or-map row_object rows n d here.1 less))

abbrev no_row : ℕ × LoadedModule
no_row = (0, record { name = []; segments = [] })

pub none_down : (rows : List (ℕ × LoadedModule)) (name : List ℕ) (i n : ℕ) (t : Bool) → i ≡ suc n → n < length rows → newest_named (drop i rows) name ≡ None
    → Tells rows name n t → t ≡ false → newest_named (drop n rows) name ≡ None
none_down rows name i n t next less none tells fails =
    none_here rows name n no_row less (subst (λ j. newest_named (drop j rows) name ≡ None) next none) (told rows name n t no_row less tells ∙ fails)

pub found_down : (rows : List (ℕ × LoadedModule)) (name : List ℕ) (i n id : ℕ) (t : Bool) → i ≡ suc n → n < length rows → newest_named (drop i rows) name ≡ None
    → Tells rows name n t → t ≡ true → id ≡ get_or (ids rows) n id → Some id ≡ newest_named rows name
found_down rows name i n id t next less none tells passes is =
    ap Some (is ∙ get_or-map row_id rows n no_row id less)
    ∙ sym (found_here rows name n no_row less (subst (λ j. newest_named (drop j rows) name ≡ None) next none) (told rows name n t no_row less tells ∙ passes))
