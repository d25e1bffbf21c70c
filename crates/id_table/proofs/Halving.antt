-- A search that halves a list of records whose ids rise.
use Rattle.std.proofs.Common.{◌≡◌, ℕ, zero, suc, ◌-◌, ◌<◌, ◌≤◌, true, false, cond, ltb, leb, map, List, [], ◌∷◌, length, get_or, None, Some, refl, sym, ap, ◌∙◌, subst, arith, ⊎_elim}
use Rattle.std.specs.Prelude.{nat_lt}
use Rattle.std.specs.List.Sorted.{IsPartitionPoint, IsNonDecreasingBy}
use Rattle.std.specs.List.{find}
use Rattle.std.proofs.lemmas.Bool.{cases_eq, cases_lt, ne_eqb, ltb-true, ltb-false, leb-true, leb-false, lt-ltb, le-ltb}
use Rattle.std.proofs.lemmas.List.{get_or_default}
use Rattle.id_table.specs.Records.{of_id, Rising}

-- the first i records have an id below this one, and the others don't
abbrev pub IsRank : {X : Type 0} → (X → ℕ) → List X → ℕ → ℕ → Type 0
IsRank id xs n i = IsPartitionPoint (λ x. nat_lt (id x) n ≡ true) (λ x. nat_lt (id x) n ≡ false) xs i

pub rising_ids : {X : Type 0} (id : X → ℕ) (xs : List X) → Rising id xs → IsNonDecreasingBy id xs
rising_ids id xs up i j d hij hj =
    ⊎_elim
    (λ (same : i ≡ j). omega (arith, ap (λ k. id (get_or xs k d)) same))
    (λ (ne : i ≡ j → ⊥). let rise = up i j d (omega (arith, hij, ne)) hj in omega (arith, rise))
    (cases_eq i j)

-- no id is above that of the last record
pub below_last : {X : Type 0} (id : X → ℕ) (xs : List X) (x : X) (n : ℕ) → Rising id xs → x ≡ get_or xs (length xs - 1) x → id x < n
    → (k : ℕ) (d : X) → k < length xs → id (get_or xs k d) < n
below_last id xs x n up last less k d h =
    let same : get_or xs (length xs - 1) d ≡ x = get_or_default xs (length xs - 1) d x (omega (arith, h)) ∙ sym last in
    let most = rising_ids id xs up k (length xs - 1) d (omega (arith, h)) (omega (arith, h)) in
    omega (arith, most, ap id same, less)

-- if the record at the rank has another id, no record has this id
pub rank_absent : {X : Type 0} (id : X → ℕ) (xs : List X) (n i : ℕ) → Rising id xs → IsRank id xs n i → ((d : X) → i < length xs → id (get_or xs i d) ≡ n → ⊥)
    → (k : ℕ) (d : X) → k < length xs → id (get_or xs k d) ≡ n → ⊥
rank_absent id xs n i up rank other k d h same =
    ⊎_elim
    (λ (below : k < i). let less = ltb-true (id (get_or xs k d)) n (rank.0 k d (omega arith) below) in absurd (omega (arith, less, same)))
    (λ (above : i ≤ k).
    ⊎_elim
    (λ (here : i ≡ k). other d (subst (λ m. m < length xs) (sym here) h) (ap (λ m. id (get_or xs m d)) here ∙ same))
    (λ (ne : i ≡ k → ⊥).
    let before : i < k = omega (arith, above, ne) in
    let rise = up i k d before h in
    let least = ltb-false (id (get_or xs i d)) n (rank.1 i d (omega arith) (omega (arith, before, h))) in
    absurd (omega (arith, rise, least, same)))
    (cases_eq i k))
    (cases_lt k i)

-- a record that is at no place isn't found
pub none_of : {X : Type 0} (id : X → ℕ) (xs : List X) (n : ℕ) → ((k : ℕ) (d : X) → k < length xs → id (get_or xs k d) ≡ n → ⊥) → of_id id xs n ≡ None
none_of id [] n none = refl
none_of id (x ∷ xs) n none =
    ap (λ b. cond b (Some x) (of_id id xs n)) (ne_eqb (id x) n (none 0 x (omega arith))) ∙ none_of id xs n (λ k d h. none (suc k) d (omega (arith, h)))

pub rank_none : {X : Type 0} (id : X → ℕ) (xs : List X) (n i : ℕ) → Rising id xs → IsRank id xs n i → ((d : X) → i < length xs → id (get_or xs i d) ≡ n → ⊥) → of_id id xs n ≡ None
rank_none id xs n i up rank other = none_of id xs n (rank_absent id xs n i up rank other)

-- ---- the first id above a number

-- the first k records have an id up to n, and the others don't
abbrev pub IsRankAbove : {X : Type 0} → (X → ℕ) → List X → ℕ → ℕ → Type 0
IsRankAbove id xs n k = IsPartitionPoint (λ x. leb (id x) n ≡ true) (λ x. leb (id x) n ≡ false) xs k

rank_after : {X : Type 0} (id : X → ℕ) (x : X) (xs : List X) (n k : ℕ) → IsRankAbove id (x ∷ xs) n (suc k) → IsRankAbove id xs n k
rank_after id x xs n k rank = (λ j d h less. rank.0 (suc j) d (omega arith) (omega arith), λ j d from h. rank.1 (suc j) d (omega arith) (omega arith))

passed : {X : Type 0} (id : X → ℕ) (x : X) (xs : List X) (n k : ℕ) → IsRankAbove id (x ∷ xs) n (suc k)
    → find (λ i. ltb n i) (map id (x ∷ xs)) ≡ find (λ i. ltb n i) (map id xs)
passed id x xs n k rank =
    ap (λ b. cond b (Some (id x)) (find (λ i. ltb n i) (map id xs))) (le-ltb n (id x) (leb-true (id x) n (rank.0 0 x (omega arith) (omega arith))))

pub none_above : {X : Type 0} (id : X → ℕ) (xs : List X) (n k : ℕ) → IsRankAbove id xs n k → k ≡ length xs → find (λ i. ltb n i) (map id xs) ≡ None
none_above id [] n k rank all = refl
none_above id (x ∷ xs) n zero rank all = absurd (omega arith)
none_above id (x ∷ xs) n (suc k) rank all = passed id x xs n k rank ∙ none_above id xs n k (rank_after id x xs n k rank) (omega arith)

pub first_above : {X : Type 0} (id : X → ℕ) (xs : List X) (n k : ℕ) (d : X) → IsRankAbove id xs n k → k < length xs → find (λ i. ltb n i) (map id xs) ≡ Some (id (get_or xs k d))
first_above id [] n k d rank less = absurd (omega arith)
first_above id (x ∷ xs) n zero d rank less =
    ap (λ b. cond b (Some (id x)) (find (λ i. ltb n i) (map id xs))) (lt-ltb n (id x) (leb-false (id x) n (rank.1 0 x (omega arith) (omega arith))))
first_above id (x ∷ xs) n (suc k) d rank less = passed id x xs n k rank ∙ first_above id xs n k d (rank_after id x xs n k rank) (omega arith)
