-- The tasks of a table, by priority.
use Rattle.std.proofs.Common.{◌≡◌, ℕ, zero, suc, ◌+◌, ◌-◌, ◌<◌, Bool, true, false, List, [], ◌∷◌, ◌++◌, take, append_assoc, refl, ap, sym, ◌∙◌, arith}
use Rattle.std.proofs.lemmas.List.{append-nil}
use Rattle.std.specs.Prelude.{if◌then◌else◌, length, slice_index_or}
use Rattle.std.specs.List.{filter, flat_map}
use Rattle.task_block.specs.declared.task.Task.{Task}
use Rattle.text_show.specs.Tasks.{has_priority, from_priority}

flat_append : {X : Type 0} (f : X → List ℕ) (xs ys : List X) → flat_map f (xs ++ ys) ≡ flat_map f xs ++ flat_map f ys
flat_append f [] ys = refl
flat_append f (x ∷ xs) ys = ap (λ t. f x ++ t) (flat_append f xs ys) ∙ sym (append_assoc (f x) (flat_map f xs) (flat_map f ys))

filter_one_more : {X : Type 0} (p : X → Bool) (x : X) (xs ys : List X) → filter p (xs ++ ys) ≡ filter p xs ++ filter p ys → filter p ((x ∷ xs) ++ ys) ≡ filter p (x ∷ xs) ++ filter p ys
filter_one_more p x xs ys e = elim (p x) as (λ b. (if b then x ∷ filter p (xs ++ ys) else filter p (xs ++ ys)) ≡ (if b then x ∷ filter p xs else filter p xs) ++ filter p ys) [
  | true ↦ ap (λ t. x ∷ t) e
  | false ↦ e
]

filter_append : {X : Type 0} (p : X → Bool) (xs ys : List X) → filter p (xs ++ ys) ≡ filter p xs ++ filter p ys
filter_append p [] ys = refl
filter_append p (x ∷ xs) ys = filter_one_more p x xs ys (filter_append p xs ys)

pub take_one_more : (i : ℕ) (ts : List Task) (t : Task) → i < length ts → t ≡ slice_index_or ts i t → take (suc i) ts ≡ take i ts ++ t ∷ []
take_one_more zero [] t below e = absurd (omega arith)
take_one_more zero (x ∷ ts) t below e = ap (λ u. u ∷ []) (sym e)
take_one_more (suc i) [] t below e = absurd (omega arith)
take_one_more (suc i) (x ∷ ts) t below e = ap (λ xs. x ∷ xs) (take_one_more i ts t (omega arith) e)

-- one more task has been looked at
pub place_more : (show : Task → List ℕ) (p : Task → Bool) (ts : List Task) (i : ℕ) (t : Task) (old page new : List ℕ)
    → i < length ts → t ≡ slice_index_or ts i t
    → page ≡ old ++ flat_map show (filter p (take i ts)) → new ≡ page ++ flat_map show (filter p (t ∷ []))
    → new ≡ old ++ flat_map show (filter p (take (i + 1) ts))
place_more show p ts i t old page new below at e w =
    let next : suc i ≡ i + 1 = omega arith in
    let added = flat_map show (filter p (t ∷ [])) in
    w ∙ ap (λ xs. xs ++ added) e
    ∙ append_assoc old (flat_map show (filter p (take i ts))) added
    ∙ ap (λ xs. old ++ xs) (sym (flat_append show (filter p (take i ts)) (filter p (t ∷ [])))
    ∙ ap (flat_map show) (sym (filter_append p (take i ts) (t ∷ []))
    ∙ ap (filter p) (sym (take_one_more i ts t below at) ∙ ap (λ n. take n ts) next)))

-- one more priority is shown
pub priority_more : (row : Task → List ℕ) (ts : List Task) (pri : ℕ) (all page new : List ℕ) → pri < 256
    → page ++ flat_map row (from_priority (256 - pri) pri ts) ≡ all → new ≡ page ++ flat_map row (filter (has_priority pri) ts)
    → new ++ flat_map row (from_priority (256 - (pri + 1)) (pri + 1) ts) ≡ all
priority_more row ts pri all page new below e w =
    let now = filter (has_priority pri) ts in
    let later = from_priority (256 - (pri + 1)) (pri + 1) ts in
    let left : 256 - pri ≡ suc (256 - (pri + 1)) = omega arith in
    let next : suc pri ≡ pri + 1 = omega arith in
    let split : from_priority (256 - pri) pri ts ≡ now ++ later =
    ap (λ k. from_priority k pri ts) left ∙ ap (λ n. now ++ from_priority (256 - (pri + 1)) n ts) next in
    ap (λ xs. xs ++ flat_map row later) w ∙ append_assoc page (flat_map row now) (flat_map row later)
    ∙ ap (λ xs. page ++ xs) (sym (flat_append row now later) ∙ ap (flat_map row) (sym split)) ∙ e

-- all priorities are shown
pub priorities_end : (row : Task → List ℕ) (ts : List Task) (pri : ℕ) (all page : List ℕ) → pri ≡ 256
    → page ++ flat_map row (from_priority (256 - pri) pri ts) ≡ all → page ≡ all
priorities_end row ts pri all page last e =
    let left : 256 - pri ≡ 0 = omega arith in
    sym (append-nil page) ∙ sym (ap (λ k. page ++ flat_map row (from_priority k pri ts)) left) ∙ e
