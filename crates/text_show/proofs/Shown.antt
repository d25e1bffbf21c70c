-- The symbols whose names have a part, one after another.
use Rattle.std.proofs.Common.{◌≡◌, ℕ, zero, suc, ◌+◌, ◌<◌, Bool, true, false, cond, List, [], ◌∷◌, ◌++◌, drop, length, Some, None, refl, sym, ap, ◌∙◌, append_assoc, arith}
use Rattle.std.specs.Prelude.{slice_get}
use Rattle.std.specs.List.{filter}
use Rattle.text_show.specs.Symbols.{begins_with, has_part}

-- a text that begins with a part has it
pub prefix_has : (part text : List ℕ) → true ≡ begins_with part text → true ≡ has_part part text
prefix_has part [] e = e
prefix_has part (b ∷ bytes) e = rw (← e) refl

drop_one : {X : Type 0} (xs : List X) (n : ℕ) (x : X) → slice_get xs n ≡ Some x → drop n xs ≡ x ∷ drop (suc n) xs
drop_one [] n x e = absurd (cc)
drop_one (y ∷ ys) zero x e = let same : y ≡ x = cc in ap (λ v. v ∷ ys) same
drop_one (y ∷ ys) (suc n) x e = drop_one ys n x e

filter_one : {X : Type 0} (p : X → Bool) (x : X) (xs : List X) → filter p (x ∷ xs) ≡ filter p (x ∷ []) ++ filter p xs
filter_one p x xs = elim (p x) as (λ b. cond b (x ∷ filter p xs) (filter p xs) ≡ cond b (x ∷ []) [] ++ filter p xs) [ true ↦ refl | false ↦ refl ]

-- one more symbol has been looked at
pub one_more : {X : Type 0} (p : X → Bool) (xs : List X) (n : ℕ) (x : X) (all found new : List X) → slice_get xs n ≡ Some x
    → found ++ filter p (drop n xs) ≡ all → new ≡ found ++ filter p (x ∷ []) → new ++ filter p (drop (n + 1) xs) ≡ all
one_more p xs n x all found new at e w =
    let next : suc n ≡ n + 1 = omega arith in
    let later = filter p (drop (n + 1) xs) in
    let split : filter p (drop n xs) ≡ filter p (x ∷ []) ++ later =
    ap (filter p) (drop_one xs n x at ∙ ap (λ k. x ∷ drop k xs) next) ∙ filter_one p x (drop (n + 1) xs) in
    ap (λ ys. ys ++ later) w ∙ append_assoc found (filter p (x ∷ [])) later ∙ ap (λ ys. found ++ ys) (sym split) ∙ e

-- a number below the count has an element
pub is_there : {X : Type 0} (xs : List X) (n : ℕ) → n < length xs → slice_get xs n ≡ None → ⊥
is_there [] n less e = omega arith
is_there (x ∷ xs) zero less e = cc
is_there (x ∷ xs) (suc n) less e = is_there xs n (omega arith) e
