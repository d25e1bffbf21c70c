-- What a removal leaves.
use Rattle.std.proofs.Common.{◌≡◌, ℕ, zero, suc, ◌+◌, Bool, true, false, cond, eqb, not, List, [], ◌∷◌, length, Option, Some, None, refl, sym, ap, ◌∙◌, arith}
use Rattle.std.specs.List.{All, Contains}
use Rattle.std.specs.Option.{option_or}
use Rattle.std.proofs.lemmas.Bool.{eqb-true, eqb-false, ne_eqb}
use Rattle.std.proofs.lemmas.List.Elements.{All-cons}
use Rattle.std.proofs.lemmas.List.Filters.{length-filter_both}
use Rattle.std.proofs.lemmas.List.Sums.{length-filter}
use Rattle.symbol_table.specs.declared.symbol.Symbol.{Symbol}
use Rattle.symbol_table.specs.Newest.{newest}
use Rattle.symbol_table.specs.State.{without_group, count_of}
use Rattle.symbol_table.proofs.Finding.{newest-cons}

-- the other entries, with the first one or without it
abbrev kept : ℕ → Symbol → Bool → List Symbol → List Symbol
kept group s t ss = cond (not t) (s ∷ without_group group ss) (without_group group ss)

pub gone : (group : ℕ) (tab : List Symbol) → All (λ s. s.group ≡ group → ⊥) (without_group group tab)
gone group [] = λ k d h. absurd (omega arith)
gone group (s ∷ ss) = elim (eqb s.group group) as (λ t. eqb s.group group ≡ t → All (λ x. x.group ≡ group → ⊥) (kept group s t ss)) [
  | true ↦ λ e. gone group ss
  | false ↦ λ e. All-cons (λ x. x.group ≡ group → ⊥) s (without_group group ss) (eqb-false s.group group e) (gone group ss)
] refl

pub stays : (group : ℕ) (tab : List Symbol) (s : Symbol) → Contains tab s → (s.group ≡ group → ⊥) → Contains (without_group group tab) s
stays group [] s (k, h, e) other = absurd (omega arith)
stays group (x ∷ xs) s (zero, h, e) other =
    let differs = ne_eqb x.group group (λ q. other (sym (ap (λ (y : Symbol). y.group) e) ∙ q)) in
    rw differs (0, omega arith, e)
stays group (x ∷ xs) s (suc k, h, e) other =
    let (j, within, is) = stays group xs s (k, omega arith, e) other in
    elim (eqb x.group group) as (λ t. Contains (kept group x t xs) s) [
      | true ↦ (j, within, is)
      | false ↦ (suc j, omega arith, is)
    ]

option_or-none : (o : Option Symbol) → option_or o None ≡ o
option_or-none None = refl
option_or-none (Some s) = refl

pub same : (p : Symbol → Bool) (group : ℕ) (tab : List Symbol) → ((s : Symbol) → s.group ≡ group → p s ≡ false) → newest p (without_group group tab) ≡ newest p tab
same p group [] h = refl
same p group (s ∷ ss) h =
    let rest = same p group ss h in
    elim (eqb s.group group) as (λ t. eqb s.group group ≡ t → newest p (kept group s t ss) ≡ newest p (s ∷ ss)) [
      | true ↦ λ e.
          rest
          ∙ sym (newest-cons p s ss ∙ ap (λ t. option_or (newest p ss) (cond t (Some s) None)) (h s (eqb-true s.group group e)) ∙ option_or-none (newest p ss))
      | false ↦ λ e.
          newest-cons p s (without_group group ss)
          ∙ ap (λ o. option_or o (cond (p s) (Some s) None)) rest
          ∙ sym (newest-cons p s ss)
    ] refl

pub counted : (group : ℕ) (tab : List Symbol) → length (without_group group tab) + count_of group tab ≡ length tab
counted group tab =
    let both = length-filter_both (λ (s : Symbol). eqb s.group group) (λ s. not (eqb s.group group)) (λ s. refl) tab in
    let count = length-filter (λ (s : Symbol). eqb s.group group) tab in omega arith
