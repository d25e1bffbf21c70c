-- Ids that are lent and given back, and the ids of modules.
use Rattle.std.proofs.Common.{◌≡◌, ℕ, ◌<◌, ◌≤◌, true, false, cond, List, [], ◌∷◌, ◌++◌, Some, None, refl, sym, ap, ◌∙◌, arith}
use Rattle.std.specs.Prelude.{◌==◌, not, IsSome}
use Rattle.std.specs.List.{All}
use Rattle.std.proofs.lemmas.List.Elements.{All-cons, All-head, All-tail}
use Rattle.wind_core.specs.State.{KernState}
use Rattle.std.specs.Option.{option_map}
use Rattle.std.proofs.lemmas.Bool.{ne_eqb}
use Rattle.id_table.specs.Records.{of_id}
use Rattle.id_table.specs.Rows.{row_id, row_object, object_of, without}
use Rattle.module_loader.specs.declared.module.LoadedModule.{LoadedModule}
use Rattle.module_loader.specs.Modules.{HasIdent}

-- a kernel whose ids were lent and come back as they were
pub put_back : (k : KernState) → k.lent ≡ false → record k { next_id = k.next_id; lent = false } ≡ k
put_back k h = ap (λ b. record k { lent = b }) (sym h)

pub idents_more : (rows : List (ℕ × LoadedModule)) (id : ℕ) (m : LoadedModule) → All HasIdent rows → 0 < id → id ≤ 1048576 → All HasIdent (rows ++ (id, m) ∷ [])
idents_more [] id m all low high = All-cons HasIdent (id, m) [] (low, high) all
idents_more (r ∷ rs) id m all low high =
    All-cons HasIdent r (rs ++ (id, m) ∷ []) (All-head HasIdent r rs all) (idents_more rs id m (All-tail HasIdent r rs all) low high)

pub idents_without : (rows : List (ℕ × LoadedModule)) (id : ℕ) → All HasIdent rows → All HasIdent (without rows id)
idents_without [] id all = all
idents_without (r ∷ rs) id all =
    let rest = idents_without rs id (All-tail HasIdent r rs all) in
    elim (r.0 == id) as (λ t. All HasIdent (cond (not t) (r ∷ without rs id) (without rs id))) [
      | true ↦ rest
      | false ↦ All-cons HasIdent r (without rs id) (All-head HasIdent r rs all) rest
    ]

-- no module has a number that isn't an id
pub no_ident : (rows : List (ℕ × LoadedModule)) (id : ℕ) → All HasIdent rows → ((0 < id) × (id ≤ 1048576) → ⊥) → object_of rows id ≡ None
no_ident [] id all h = refl
no_ident (r ∷ rs) id all h =
    let one = All-head HasIdent r rs all in
    let differs : (r.0 == id) ≡ false = ne_eqb r.0 id (λ e. h (omega (arith, one.0), omega (arith, one.1))) in
    ap (λ t. option_map row_object (cond t (Some r) (of_id row_id rs id))) differs ∙ no_ident rs id (All-tail HasIdent r rs all) h

pub no_live : (rows : List (ℕ × LoadedModule)) (id : ℕ) → All HasIdent rows → ((0 < id) × (id ≤ 1048576) → ⊥) → IsSome (object_of rows id) → ⊥
no_live rows id all h some = let none = no_ident rows id all h in cc
