-- The first item above some ids.
use Rattle.std.proofs.Common.{◌≡◌, ℕ, ◌<◌, ◌≤◌, cond, List, [], ◌∷◌, ◌++◌, Some, ap, ◌∙◌, arith}
use Rattle.std.proofs.lemmas.Bool.{eq-eqb, ne_eqb}
use Rattle.id_table.specs.Records.{of_id}

module _ {X : Type 0} (id : X → ℕ) where
  -- ids up to a number
  abbrev pub AreUpTo : ℕ → List X → Type 0
  AreUpTo n [] = Unit {0}
  AreUpTo n (x ∷ xs) = (id x ≤ n) × AreUpTo n xs

  -- the first item above them is found
  pub first_above : (before after : List X) (x : X) (low n : ℕ) → AreUpTo low before → low < n → id x ≡ n → of_id id (before ++ x ∷ after) n ≡ Some x
  first_above [] after x low n all up same = ap (λ b. cond b (Some x) (of_id id after n)) (eq-eqb (id x) n same)
  first_above (p ∷ ps) after x low n all up same =
      let under : id p ≤ low = all.0 in
      ap (λ b. cond b (Some p) (of_id id (ps ++ x ∷ after) n)) (ne_eqb (id p) n (λ q. omega arith))
      ∙ first_above ps after x low n all.1 up same

  -- with it, ids are up to its id
  pub one_above : (before : List X) (x : X) (low : ℕ) → AreUpTo low before → low < id x → AreUpTo (id x) (before ++ x ∷ [])
  one_above [] x low all up = (omega arith, tt)
  one_above (p ∷ ps) x low all up = (let under : id p ≤ low = all.0 in omega arith, one_above ps x low all.1 up)
