-- Steps of lists and sums that are computed number by number.
use Rattle.std.proofs.Common.{◌≡◌, ℕ, suc, ◌+◌, ◌-◌, ◌<◌, ◌≤◌, List, [], ◌∷◌, ◌++◌, sym, ◌∙◌, ap, arith, map, get_or, length, append_assoc, append-nil}
use Rattle.std.specs.List.{range_with_len}
use Rattle.std.proofs.lemmas.List.FromFn.{map-range_with_len_more, get_or-map-range_with_len, length-map-range_with_len}
use Rattle.std.specs.Prelude.{Bool, true, false, if◌then◌else◌}
use Rattle.elf_read.specs.Numbered.{gathered, total, first_from}

pub gathered_more : {X : Type 0} (i n : ℕ) (f : ℕ → List X) → i < n → gathered i (n - i) f ≡ f i ++ gathered (i + 1) (n - (i + 1)) f
gathered_more i n f h = let e : n - i ≡ suc (n - (i + 1)) = omega arith in ap (λ k. gathered i k f) e

pub total_more : (i : ℕ) (f : ℕ → ℕ) → total (i + 1) f ≡ total i f + f i
total_more i f = let e : i + 1 ≡ suc i = omega arith in ap (λ k. total k f) e

pub first_more : (i n : ℕ) (p : ℕ → Bool) → i < n → first_from i (n - i) p ≡ (if p i then i else first_from (i + 1) (n - (i + 1)) p)
first_more i n p h = let e : n - i ≡ suc (n - (i + 1)) = omega arith in ap (λ k. first_from i k p) e

pub first_none : (i n : ℕ) (p : ℕ → Bool) → n ≡ i → first_from i (n - i) p ≡ i
first_none i n p h = let e : n - i ≡ 0 = omega arith in ap (λ k. first_from i k p) e

-- a number that passes
pub first_found : (i n : ℕ) (p : ℕ → Bool) → i < n → p i ≡ true → first_from i (n - i) p ≡ i
first_found i n p h it = first_more i n p h ∙ ap (λ b. if b then i else first_from (i + 1) (n - (i + 1)) p) it

-- a number that is passed over
pub first_passed : (i n : ℕ) (p : ℕ → Bool) → i < n → p i ≡ false → first_from i (n - i) p ≡ first_from (i + 1) (n - (i + 1)) p
first_passed i n p h other = first_more i n p h ∙ ap (λ b. if b then i else first_from (i + 1) (n - (i + 1)) p) other

pub gathered_empty : {X : Type 0} (i n : ℕ) (f : ℕ → List X) → n ≤ i → gathered i (n - i) f ≡ []
gathered_empty i n f h = let e : n - i ≡ 0 = omega arith in ap (λ k. gathered i k f) e

-- a list of numbers: one more number, and its items
pub numbers_more : (f : ℕ → ℕ) (n : ℕ) → map f (range_with_len 0 (n + 1)) ≡ map f (range_with_len 0 n) ++ f n ∷ []
numbers_more f n = map-range_with_len_more f 0 n n (omega arith)

pub number_at : (f : ℕ → ℕ) (n i : ℕ) → i < n → get_or (map f (range_with_len 0 n)) i 0 ≡ f i
number_at f n i h = get_or-map-range_with_len f 0 n i i 0 h (omega arith)

pub numbers_count : (xs : List ℕ) (f : ℕ → ℕ) (n : ℕ) → xs ≡ map f (range_with_len 0 n) → length xs ≡ n
numbers_count xs f n h = ap length h ∙ length-map-range_with_len f 0 n

-- the list for number i goes after those before it
pub gathered_step : {X : Type 0} (xs ys : List X) (i n : ℕ) (f : ℕ → List X) → i < n → ys ≡ f i → (xs ++ ys) ++ gathered (i + 1) (n - (i + 1)) f ≡ xs ++ gathered i (n - i) f
gathered_step xs ys i n f h e =
    append_assoc xs ys (gathered (i + 1) (n - (i + 1)) f)
    ∙ ap (λ zs. xs ++ zs) (ap (λ zs. zs ++ gathered (i + 1) (n - (i + 1)) f) e ∙ sym (gathered_more i n f h))

pub gathered_last : {X : Type 0} (xs : List X) (i n : ℕ) (f : ℕ → List X) → n ≤ i → xs ++ gathered i (n - i) f ≡ xs
gathered_last xs i n f h = ap (λ zs. xs ++ zs) (gathered_empty i n f h) ∙ append-nil xs
