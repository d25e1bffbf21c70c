use Rattle.std.proofs.Common.{rules, tests, ◌≡◌, ◌∙◌, nat_eq, Bool, List, [], ◌∷◌, map, Bor, ℕ, refl, ap}
use Rattle.std.specs.Prelude.{◌||◌}
use Rattle.std.specs.List.{list_any, starts_with}
use Rattle.std.proofs.lemmas.Iterator.{YieldsList-from_slice}
use Rattle.std.proofs.lemmas.Iterator.Search.{any_from_yields_List}
use Rattle.sweep_run.proofs.marks.is_marked.Goals as goal

any_map : {X Y : Type 0} (p : Y → Bool) (f : X → Y) (xs : List X) → list_any (λ x. p (f x)) xs ≡ list_any p (map f xs)
any_map p f [] = refl
any_map p f (x ∷ xs) = ap (λ b. p (f x) || b) (any_map p f xs)

pub returns : goal.returns
returns c =
    let line = c.without_prompts-line.result.now in
    any_from_yields_List (λ (m : Bor (List ℕ)). starts_with nat_eq line m.now) _ _ _ c.any.ensures.ran (YieldsList-from_slice c.args.marks.now cc) (λ x b q k. search (rules, tests))
    ∙ any_map (λ (mark : List ℕ). starts_with nat_eq line mark) (λ (m : Bor (List ℕ)). m.now) c.args.marks.now
    ∙ ap (λ (l : List ℕ). list_any (λ (mark : List ℕ). starts_with nat_eq l mark) (map (λ (m : Bor (List ℕ)). m.now) c.args.marks.now)) c.without_prompts-line.ensures
