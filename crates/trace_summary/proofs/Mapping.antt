-- A list whose items are changed one after another.
use Rattle.std.proofs.Common.{◌≡◌, ℕ, ◌+◌, ◌<◌, ◌≤◌, ◌++◌, List, length, map, take, drop, get_or, ap₂, ◌∙◌, arith}
use Rattle.std.proofs.Math.ListN.{drop_of_length-le, set}
use Rattle.std.proofs.lemmas.List.{append-nil, get_or_default, take_all}
use Rattle.std.proofs.lemmas.List.Edits.{map_over_more}

-- one more was changed
pub over_more : {X : Type 0} (f : X → X) (xs ys : List X) (i : ℕ) (d : X) → i < length xs → length ys ≡ length xs → ys ≡ map f (take i xs) ++ drop i xs
    → set ys i (f (get_or ys i d)) ≡ map f (take (i + 1) xs) ++ drop (i + 1) xs
over_more f xs ys i d below same is =
    let inside : i < length ys = omega (arith, below, same) in
    map_over_more f xs ys i (get_or ys i d) below is (get_or_default ys i d (get_or ys i d) inside)

-- all were changed
pub all_over : {X : Type 0} (f : X → X) (xs : List X) (i : ℕ) → length xs ≤ i → map f (take i xs) ++ drop i xs ≡ map f xs
all_over f xs i end = ap₂ (λ a b. map f a ++ b) (take_all i xs end) (drop_of_length-le xs end) ∙ append-nil (map f xs)
