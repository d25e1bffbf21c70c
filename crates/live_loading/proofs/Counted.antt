-- Numbers: what an accepted load counts, and bounds of the counts of a world.
use Rattle.std.proofs.Common.{◌≡◌, ℕ, ◌+◌, ◌<◌, ◌≤◌, true, false, cond, leb, ltb, List, [], ◌∷◌, Some, None, refl, arith}
use Rattle.std.specs.List.{All}
use Rattle.std.proofs.lemmas.Bool.{leb-false, ltb-false}
use Rattle.std.proofs.lemmas.List.Elements.{All-cons, All-weaker}
use Rattle.wind_base.specs.Limits.{most_modules, greatest_id, most_symbols}
use Rattle.module_loader.specs.declared.module.LoadErr.TheVariants as refusal
use Rattle.module_loader.specs.Loading.{count_by}
use Rattle.kernel_calls.specs.KernelWorldState.{WorldState}
use Rattle.kernel_calls.specs.KernelWorldKept.{Within, HasCounts}

-- if no count refuses it, there is room for a module, an id is left, and there is room for the symbols
pub record Fits (modules next symbols : ℕ) : Type 0 where
  pub few : modules < most_modules
  pub left : next ≤ greatest_id
  pub room : symbols ≤ most_symbols

pub fits : (modules next symbols : ℕ) → count_by modules next symbols ≡ None → Fits modules next symbols
fits modules next symbols e =
    elim (leb most_modules modules) as (λ b. leb most_modules modules ≡ b → cond b (Some refusal.ModulesFull) (cond (ltb greatest_id next) (Some refusal.IdsSpent) (cond (ltb most_symbols symbols) (Some refusal.TableFull) None)) ≡ None → Fits modules next symbols) [
      | true ↦ λ f q. absurd (cc)
      | false ↦ λ f q.
          elim (ltb greatest_id next) as (λ b. ltb greatest_id next ≡ b → cond b (Some refusal.IdsSpent) (cond (ltb most_symbols symbols) (Some refusal.TableFull) None) ≡ None → Fits modules next symbols) [
            | true ↦ λ l r. absurd (cc)
            | false ↦ λ l r.
                elim (ltb most_symbols symbols) as (λ b. ltb most_symbols symbols ≡ b → cond b (Some refusal.TableFull) None ≡ None → Fits modules next symbols) [
                  | true ↦ λ m t. absurd (cc)
                  | false ↦ λ m t. record {
                    few = omega (arith, leb-false most_modules modules f);
                    left = omega (arith, ltb-false greatest_id next l);
                    room = omega (arith, ltb-false most_symbols symbols m);
                  }
                ] refl r
          ] refl q
    ] refl e

-- the elements of a list have a bound
bound : {A : Type 0} (f : A → ℕ) (xs : List A) → (n : ℕ) × All (λ x. f x ≤ n) xs
bound f [] = (0, λ k d h. absurd (omega arith))
bound f (x ∷ xs) =
    let (n, all) = bound f xs in
    (f x + n, All-cons (λ y. f y ≤ f x + n) x xs (omega arith) (All-weaker (λ y. f y ≤ n) (λ y. f y ≤ f x + n) (λ y h. omega (arith, h)) xs all))

-- and so have the counts of a world
pub counts_bound : (w : WorldState) → (n : ℕ) × Within n w
counts_bound w =
    let (n, tasks) = bound (λ t. t.locks + t.safe) w.kern.tasks in
    let (m, depths) = bound (λ r. r.1.depth) w.objects.mutexes.rows in (
      n + m,
      (
        All-weaker (λ t. t.locks + t.safe ≤ n) (HasCounts (n + m)) (λ t h. (omega (arith, h), omega (arith, h))) w.kern.tasks tasks,
        All-weaker (λ r. r.1.depth ≤ m) (λ r. r.1.depth ≤ n + m) (λ r h. omega (arith, h)) w.objects.mutexes.rows depths,
      ),
    )
