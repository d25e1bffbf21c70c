-- The newest entry of joined lists, and what it is.
use Rattle.std.proofs.Common.{◌≡◌, Bool, true, false, cond, List, [], ◌∷◌, ◌++◌, Option, Some, None, refl, sym, ap, ◌∙◌, subst, arith}
use Rattle.std.specs.Prelude.{reverse}
use Rattle.std.specs.Option.{option_or}
use Rattle.std.specs.List.{All, find as first}
use Rattle.std.proofs.lemmas.List.{reverse-append}
use Rattle.std.proofs.lemmas.List.Folds.{find-append}
use Rattle.std.proofs.lemmas.List.Elements.{All-cons, All-head, All-tail}
use Rattle.symbol_table.specs.declared.symbol.Symbol.{Symbol}
use Rattle.symbol_table.specs.Newest.{newest}
use Rattle.symbol_table.specs.Laws.{IsNewest}

pub newest-append : (p : Symbol → Bool) (xs ys : List Symbol) → newest p (xs ++ ys) ≡ option_or (newest p ys) (newest p xs)
newest-append p xs ys = ap (first p) (reverse-append xs ys) ∙ find-append p (reverse ys) (reverse xs)

-- a list of one entry
abbrev one_of : (Symbol → Bool) → Symbol → Option Symbol
one_of p s = cond (p s) (Some s) None

pub newest-cons : (p : Symbol → Bool) (s : Symbol) (ss : List Symbol) → newest p (s ∷ ss) ≡ option_or (newest p ss) (cond (p s) (Some s) None)
newest-cons p s ss = newest-append p (s ∷ []) ss

pub newest-added : (p : Symbol → Bool) (tab : List Symbol) (s : Symbol) → newest p (tab ++ s ∷ []) ≡ cond (p s) (Some s) (newest p tab)
newest-added p tab s = newest-append p tab (s ∷ [])
    ∙ elim (p s) as (λ t. option_or (cond t (Some s) None) (newest p tab) ≡ cond t (Some s) (newest p tab)) [ true ↦ refl | false ↦ refl ]

-- if neither of two is there
neither : (o q : Option Symbol) → option_or o q ≡ None → (o ≡ None) × (q ≡ None)
neither None q e = (refl, e)
neither (Some s) q e = absurd (cc)

fails : (p : Symbol → Bool) (s : Symbol) → one_of p s ≡ None → p s ≡ false
fails p s e = elim (p s) as (λ t. cond t (Some s) None ≡ None → t ≡ false) [ true ↦ λ q. absurd (cc) | false ↦ λ q. refl ] e

pub absent : (p : Symbol → Bool) (tab : List Symbol) → newest p tab ≡ None → All (λ t. p t ≡ false) tab
absent p [] e = λ k d h. absurd (omega arith)
absent p (s ∷ ss) e =
    let both = neither (newest p ss) (one_of p s) (sym (newest-cons p s ss) ∙ e) in
    All-cons (λ t. p t ≡ false) s ss (fails p s both.1) (absent p ss both.0)

none_newest : (p : Symbol → Bool) (tab : List Symbol) → All (λ t. p t ≡ false) tab → newest p tab ≡ None
none_newest p [] h = refl
none_newest p (s ∷ ss) h =
    newest-cons p s ss
    ∙ ap (λ o. option_or o (one_of p s)) (none_newest p ss (All-tail (λ t. p t ≡ false) s ss h))
    ∙ ap (λ t. cond t (Some s) None) (All-head (λ t. p t ≡ false) s ss h)

passing : (p : Symbol → Bool) (x s : Symbol) → one_of p x ≡ Some s → (p x ≡ true) × (x ≡ s)
passing p x s e = elim (p x) as (λ t. cond t (Some x) None ≡ Some s → (t ≡ true) × (x ≡ s)) [
  | true ↦ λ q. (refl, cc)
  | false ↦ λ q. absurd (cc)
] e

pub found : (p : Symbol → Bool) (tab : List Symbol) (s : Symbol) → newest p tab ≡ Some s → IsNewest p tab s
found p [] s e = absurd (cc)
found p (x ∷ xs) s e =
    elim (newest p xs) as (λ o. newest p xs ≡ o → option_or o (one_of p x) ≡ Some s → IsNewest p (x ∷ xs) s) [
      | None ↦ λ n q.
          let (passes, is) = passing p x s q in record {
            older = [];
            newer = xs;
            stands = ap (λ y. y ∷ xs) is;
            passes = subst (λ y. p y ≡ true) is passes;
            last = absent p xs n;
          }
      | Some t ↦ λ n q.
          let rest = found p xs s (n ∙ q) in record {
            older = x ∷ rest.older;
            newer = rest.newer;
            stands = ap (λ ys. x ∷ ys) rest.stands;
            passes = rest.passes;
            last = rest.last;
          }
    ] refl (sym (newest-cons p x xs) ∙ e)

pub only : (p : Symbol → Bool) (tab : List Symbol) (s : Symbol) → IsNewest p tab s → newest p tab ≡ Some s
only p tab s h =
    ap (newest p) h.stands
    ∙ newest-append p h.older (s ∷ h.newer)
    ∙ ap (λ o. option_or o (newest p h.older))
    (newest-cons p s h.newer ∙ ap (λ o. option_or o (one_of p s)) (none_newest p h.newer h.last) ∙ ap (λ t. cond t (Some s) None) h.passes)
