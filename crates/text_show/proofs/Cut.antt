-- Texts that are cut.
use Rattle.std.proofs.Common.{◌≡◌, ℕ, zero, suc, ◌∷◌, min, ◌+◌, ◌-◌, ◌≤◌, List, [], ◌++◌, length, take, replicate, refl, ap, sym, ◌∙◌, arith, append_assoc}
use native.Mathlib.Numerals.{unary_clauses}
use Rattle.std.proofs.Math.Seq.{take-append-add}

take_replicate_min : (m n b : ℕ) → take m (replicate n b) ≡ replicate (min n m) b
take_replicate_min zero n b = simp unary_clauses
take_replicate_min (suc m) zero b = simp unary_clauses
take_replicate_min (suc m) (suc n) b = simp unary_clauses (ap (λ t. b ∷ t) (take_replicate_min m n b))

-- the part of b that fits after a
pub cut_add : (n : ℕ) (a b : List ℕ) → length a ≤ n → a ++ take (n - length a) b ≡ take n (a ++ b)
cut_add n a b le =
    let e : length a + (n - length a) ≡ n = omega arith in
    sym (take-append-add a b (n - length a)) ∙ ap (λ k. take k (a ++ b)) e

-- what is cut may be cut before
pub cut_more : (n : ℕ) (a b : List ℕ) → take n (take n a ++ b) ≡ take n (a ++ b)
cut_more zero a b = refl
cut_more (suc n) [] b = refl
cut_more (suc n) (x ∷ a) b = ap (λ t. x ∷ t) (cut_more n a b)

-- three texts, one after another
pub cut_three : (n : ℕ) (old a b c x y z : List ℕ) → x ≡ take n (old ++ a) → y ≡ take n (x ++ b) → z ≡ take n (y ++ c) → z ≡ take n (old ++ (a ++ b ++ c))
cut_three n old a b c x y z p q r =
    r ∙ ap (λ t. take n (t ++ c)) (q ∙ ap (λ t. take n (t ++ b)) p)
    ∙ cut_more n (take n (old ++ a) ++ b) c
    ∙ ap (take n) (append_assoc (take n (old ++ a)) b c)
    ∙ cut_more n (old ++ a) (b ++ c)
    ∙ ap (take n) (append_assoc old a (b ++ c) ∙ ap (λ t. old ++ t) (sym (append_assoc a b c)))

-- a byte k times
pub cut_times : (n k : ℕ) (b : ℕ) (a : List ℕ) → length a ≤ n → a ++ replicate (min k (n - length a)) b ≡ take n (a ++ replicate k b)
cut_times n k b a le =
    let room = n - length a in
    let same : take (n - length a) (replicate k b) ≡ replicate (min k room) b = take_replicate_min room k b in
    ap (λ t. a ++ t) (sym same) ∙ cut_add n a (replicate k b) le
