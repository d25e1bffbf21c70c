-- The lines of the names that nothing defines.
use Rattle.std.proofs.Common.{◌≡◌, ℕ, ◌+◌, ◌<◌, ◌≤◌, true, false, cond, List, [], ◌∷◌, ◌++◌, length, map, drop, get_or, suc, refl, sym, ap, ◌∙◌, arith}
use Rattle.std.specs.List.{filter, flat_map}
use Rattle.std.proofs.lemmas.List.{length-append, length_push, drop_all}
use Rattle.std.proofs.Math.Seq.{drop-cons}
use Rattle.std.proofs.Math.Numerals.{add-one}
use Rattle.symbol_table.specs.declared.symbol.Symbol.{Symbol}
use Rattle.elf_read.specs.declared.module.Sym.{Sym}
use Rattle.elf_read.specs.declared.module.SymPlace.{SymPlace}
use Rattle.elf_read.specs.declared.module.SymPlace.TheVariants.{Undefined, Absolute, Common, Section, Elsewhere}
use Rattle.module_image.specs.Binding.{is_unbound_at, is_unbound, unbound}
use Rattle.live_loading.specs.Texts.{undefined_line, undefined_text}

-- the lines of the symbols of a list, one symbol before the others
pub one_line : (tab : List Symbol) (y : Sym) (ys : List Sym) → length (undefined_text (unbound tab (y ∷ ys))) ≡ length (undefined_text (unbound tab (y ∷ []))) + length (undefined_text (unbound tab ys))
unfolding undefined_text
one_line tab y ys =
    elim (is_unbound tab y) as (λ b. length (flat_map undefined_line (map (λ (x : Sym). x.name) (cond b (y ∷ filter (is_unbound tab) ys) (filter (is_unbound tab) ys))))
    ≡ length (flat_map undefined_line (map (λ (x : Sym). x.name) (cond b (y ∷ []) []))) + length (flat_map undefined_line (unbound tab ys))) [
      | true ↦ omega (arith, length-append (undefined_line y.name) (flat_map undefined_line (unbound tab ys)), length-append (undefined_line y.name) [])
      | false ↦ omega arith
    ]

-- the line of a symbol has 19 bytes without its name
pub line_fits : (tab : List Symbol) (y : Sym) → length (undefined_text (unbound tab (y ∷ []))) ≤ 19 + length y.name
unfolding undefined_text
line_fits tab y =
    elim (is_unbound tab y) as (λ b. length (flat_map undefined_line (map (λ (x : Sym). x.name) (cond b (y ∷ []) []))) ≤ 19 + length y.name) [
      | true ↦ omega (arith, length-append (undefined_line y.name) [], length_push y.name 10)
      | false ↦ omega arith
    ]

-- a symbol that the module defines has none
defined_in : (tab : List Symbol) (y : Sym) (place : SymPlace) → (place ≡ Undefined → ⊥) → is_unbound_at tab y place ≡ false
defined_in tab y Undefined h = absurd (h refl)
defined_in tab y Absolute h = refl
defined_in tab y Common h = refl
defined_in tab y (Section n) h = refl
defined_in tab y Elsewhere h = refl

pub no_line : (tab : List Symbol) (y : Sym) → (y.place ≡ Undefined → ⊥) → length (undefined_text (unbound tab (y ∷ []))) ≤ 0
unfolding undefined_text
no_line tab y h =
    let none : length (flat_map undefined_line (map (λ (x : Sym). x.name) (cond (is_unbound tab y) (y ∷ []) []))) ≡ 0 =
    ap (λ b. length (flat_map undefined_line (map (λ (x : Sym). x.name) (cond b (y ∷ []) [])))) (defined_in tab y y.place h) in
    omega (arith, none)

-- ---- one symbol more, and one name
next_symbol : (tab : List Symbol) (ys : List Sym) (i : ℕ) (d : Sym) → i < length ys
    → length (undefined_text (unbound tab (drop i ys))) ≡ length (undefined_text (unbound tab (get_or ys i d ∷ []))) + length (undefined_text (unbound tab (drop (i + 1) ys)))
next_symbol tab ys i d h =
    ap (λ zs. length (undefined_text (unbound tab zs))) (drop-cons ys i d h)
    ∙ one_line tab (get_or ys i d) (drop (suc i) ys)
    ∙ ap (λ k. length (undefined_text (unbound tab (get_or ys i d ∷ []))) + length (undefined_text (unbound tab (drop k ys)))) (sym (add-one i))

pub room_more : (tab : List Symbol) (ys items : List Sym) (i : ℕ) (d : Sym) (whole room more : ℕ) → items ≡ ys → i < length items → d ≡ get_or items i d
    → whole ≤ room + length (undefined_text (unbound tab (drop i ys))) → length (undefined_text (unbound tab (d ∷ []))) ≤ more
    → whole ≤ room + more + length (undefined_text (unbound tab (drop (i + 1) ys)))
room_more tab ys items i d whole room more same within is before line =
    let low : i < length ys = omega (arith, ap length same) in
    let this : length (undefined_text (unbound tab (d ∷ []))) ≡ length (undefined_text (unbound tab (get_or ys i d ∷ []))) =
    ap (λ y. length (undefined_text (unbound tab (y ∷ [])))) is ∙ ap (λ zs. length (undefined_text (unbound tab (get_or zs i d ∷ [])))) same in
    omega (arith, next_symbol tab ys i d low, this, before, line)

pub room_enough : (tab : List Symbol) (ys items : List Sym) (i whole room : ℕ) → items ≡ ys → length items ≤ i → whole ≤ room + length (undefined_text (unbound tab (drop i ys))) → whole ≤ room
unfolding undefined_text
room_enough tab ys items i whole room same past before =
    let all : length ys ≤ i = omega (arith, ap length same) in
    let none : length (undefined_text (unbound tab (drop i ys))) ≡ 0 = ap (λ zs. length (undefined_text (unbound tab zs))) (drop_all i ys all) in
    omega (arith, none, before)

pub next_name : (names : List (List ℕ)) (i : ℕ) (d : List ℕ) → i < length names → d ≡ get_or names i d → undefined_text (drop i names) ≡ undefined_line d ++ undefined_text (drop (i + 1) names)
unfolding undefined_text
next_name names i d h is =
    ap undefined_text (drop-cons names i d h)
    ∙ ap (λ y. undefined_line y ++ undefined_text (drop (suc i) names)) (sym is)
    ∙ ap (λ k. undefined_line d ++ undefined_text (drop k names)) (sym (add-one i))
