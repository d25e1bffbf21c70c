-- What follows from look-up and removal alone.
use Rattle.std.specs.Prelude.{◌≡◌, ℕ, Bool, true, false, List, [], ◌∷◌, ◌++◌, if◌then◌else◌, None, Some}
use Rattle.std.specs.List.{All, Contains}
use Rattle.symbol_table.specs.declared.symbol.Symbol.{Symbol}
use Rattle.symbol_table.specs.Newest.{newest}
use Rattle.symbol_table.specs.State.{without_group}

-- the entry is in the table and passes, and none after it passes
pub record IsNewest (p : Symbol → Bool) (tab : List Symbol) (s : Symbol) : Type 0 where
  pub older : List Symbol
  pub newer : List Symbol
  pub stands : tab ≡ older ++ s ∷ newer
  pub passes : p s ≡ true
  pub last : All (λ t. p t ≡ false) newer

-- what a look-up answers
pub record NewestLaw : Type 0 where
  pub found : (p : Symbol → Bool) (tab : List Symbol) (s : Symbol) → newest p tab ≡ Some s → IsNewest p tab s
  pub only : (p : Symbol → Bool) (tab : List Symbol) (s : Symbol) → IsNewest p tab s → newest p tab ≡ Some s
  pub absent : (p : Symbol → Bool) (tab : List Symbol) → newest p tab ≡ None → All (λ t. p t ≡ false) tab
  pub added : (p : Symbol → Bool) (tab : List Symbol) (s : Symbol)
      → newest p (tab ++ s ∷ []) ≡ (if p s then Some s else newest p tab)

-- what a removal leaves
pub record RemovalLaw : Type 0 where
  pub gone : (group : ℕ) (tab : List Symbol) → All (λ s. s.group ≡ group → ⊥) (without_group group tab)
  pub stays : (group : ℕ) (tab : List Symbol) (s : Symbol)
      → Contains tab s → (s.group ≡ group → ⊥) → Contains (without_group group tab) s
  pub same : (p : Symbol → Bool) (group : ℕ) (tab : List Symbol)
      → ((s : Symbol) → s.group ≡ group → p s ≡ false) → newest p (without_group group tab) ≡ newest p tab
