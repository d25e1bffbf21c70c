-- Rows of threads, one list after another.
use Rattle.std.proofs.Common.{◌≡◌, ℕ, suc, ◌+◌, ◌<◌, ◌≤◌, List, [], ◌∷◌, ◌++◌, length, map, drop, get_or, refl, sym, ap, ◌∙◌, append_assoc, add-one}
use Rattle.std.proofs.lemmas.List.{append-nil}
use Rattle.std.proofs.Math.ListN.{drop_of_length-le}
use Rattle.std.proofs.Math.Seq.{drop-cons}
use Rattle.debug_texts.specs.Lists.{ThreadRow, thread_rows, thread_text}

two_lists : (xs ys : List ThreadRow) → thread_rows (xs ++ ys) ≡ thread_rows xs ++ thread_rows ys
two_lists [] ys = refl
two_lists (x ∷ xs) ys = ap (λ t. thread_text x ++ t) (two_lists xs ys) ∙ sym (append_assoc (thread_text x) (thread_rows xs) (thread_rows ys))

pub three_lists : (xs ys zs : List ThreadRow) → thread_rows (xs ++ (ys ++ zs)) ≡ thread_rows xs ++ (thread_rows ys ++ thread_rows zs)
three_lists xs ys zs = two_lists xs (ys ++ zs) ∙ ap (λ t. thread_rows xs ++ t) (two_lists ys zs)

-- the row of one more item
pub next_row : {A : Type 0} (f : A → ThreadRow) (text new all : List ℕ) (xs : List A) (i : ℕ) (x : A)
    → i < length xs → x ≡ get_or xs i x → text ++ thread_rows (map f (drop i xs)) ≡ all → new ≡ text ++ thread_text (f x)
    → new ++ thread_rows (map f (drop (i + 1) xs)) ≡ all
next_row f text new all xs i x less here before w =
    let later = thread_rows (map f (drop (suc i) xs)) in
    let first : drop i xs ≡ x ∷ drop (suc i) xs = drop-cons xs i x less ∙ ap (λ y. y ∷ drop (suc i) xs) (sym here) in
    ap (λ n. new ++ thread_rows (map f (drop n xs))) (add-one i) ∙ ap (λ p. p ++ later) w ∙ append_assoc text (thread_text (f x)) later
    ∙ ap (λ ys. text ++ thread_rows (map f ys)) (sym first) ∙ before

-- the rows of all items
pub all_rows : {A : Type 0} (f : A → ThreadRow) (text all : List ℕ) (xs : List A) (i : ℕ) → length xs ≤ i
    → text ++ thread_rows (map f (drop i xs)) ≡ all → text ≡ all
all_rows f text all xs i end before =
    sym (append-nil text) ∙ ap (λ ys. text ++ thread_rows (map f ys)) (sym (drop_of_length-le xs end)) ∙ before
