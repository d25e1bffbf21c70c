-- Lists, sums and searches over numbers: their lengths and contents.
use Rattle.std.proofs.Common.{◌≡◌, ℕ, zero, suc, ◌+◌, ◌-◌, ◌<◌, ◌≤◌, List, [], ◌∷◌, ◌++◌, length, get_or, Bool, true, false, refl, sym, ◌∙◌, ap, subst, arith, length-append, append_assoc}
use Rattle.std.specs.Prelude.{if◌then◌else◌}
use Rattle.std.specs.List.{All}
use Rattle.std.proofs.lemmas.List.{get_or-append-add}
use Rattle.std.proofs.lemmas.List.Elements.{All-nil, All-append}
use Rattle.elf_read.specs.Numbered.{gathered, total, first_from}
use Rattle.elf_read.proofs.Gather.{total_more}

-- ---- lists
pub all_gathered : {X : Type 0} (P : X → Type 0) (n i : ℕ) (f : ℕ → List X) → ((j : ℕ) → j < n → All P (f (i + j))) → All P (gathered i n f)
all_gathered P zero i f h = All-nil P
all_gathered P (suc n) i f h =
    let e : i + 0 ≡ i = omega arith in
    All-append P (f i) (gathered (i + 1) n f)
    (subst (λ k. All P (f k)) e (h 0 (omega arith)))
    (all_gathered P n (i + 1) f (λ j l. let g : i + suc j ≡ i + 1 + j = omega arith in subst (λ k. All P (f k)) g (h (suc j) (omega arith))))

pub length_gathered : {X : Type 0} (n i : ℕ) (f : ℕ → List X) (g : ℕ → ℕ) → ((j : ℕ) → length (f j) ≡ g j) → total i g + length (gathered i n f) ≡ total (i + n) g
length_gathered zero i f g h = let e : i + 0 ≡ i = omega arith in let t : total (i + 0) g ≡ total i g = ap (λ k. total k g) e in omega arith
length_gathered (suc n) i f g h =
    let e : i + suc n ≡ i + 1 + n = omega arith in
    let t : total (i + suc n) g ≡ total (i + 1 + n) g = ap (λ k. total k g) e in
    let more = length_gathered n (i + 1) f g h in
    let next = total_more i g in
    let here = h i in
    let both = length-append (f i) (gathered (i + 1) n f) in
    omega arith

-- from number 0 on
pub length_all : {X : Type 0} (n : ℕ) (f : ℕ → List X) (g : ℕ → ℕ) → ((j : ℕ) → length (f j) ≡ g j) → length (gathered 0 n f) ≡ total n g
length_all n f g h =
    let all = length_gathered n 0 f g h in
    let e : 0 + n ≡ n = omega arith in
    let t : total (0 + n) g ≡ total n g = ap (λ k. total k g) e in
    let z : total 0 g ≡ 0 = refl in
    omega arith

pub length_ones : {X : Type 0} (n i : ℕ) (f : ℕ → X) → length (gathered i n (λ k. f k ∷ [])) ≡ n
length_ones zero i f = refl
length_ones (suc n) i f = ap suc (length_ones n (i + 1) f)

-- the numbers before k, and those from k on
pub gathered_parts : {X : Type 0} (k i n : ℕ) (f : ℕ → List X) → gathered i (k + n) f ≡ gathered i k f ++ gathered (i + k) n f
gathered_parts zero i n f = let e : i ≡ i + 0 = omega arith in let z : 0 + n ≡ n = omega arith in ap (λ m. gathered i m f) z ∙ ap (λ m. gathered m n f) e
gathered_parts (suc k) i n f =
    let s : suc k + n ≡ suc (k + n) = omega arith in
    let e : i + 1 + k ≡ i + suc k = omega arith in
    ap (λ m. gathered i m f) s
    ∙ (ap (λ zs. f i ++ zs) (gathered_parts k (i + 1) n f ∙ ap (λ m. gathered (i + 1) k f ++ gathered m n f) e)
    ∙ sym (append_assoc (f i) (gathered (i + 1) k f) (gathered (i + suc k) n f)))

-- the item after the lists for the numbers before k, if the list for k is one item
pub item_at : {X : Type 0} (k n : ℕ) (f : ℕ → List X) (g : ℕ → ℕ) (x d : X) → ((j : ℕ) → length (f j) ≡ g j) → k < n → f k ≡ x ∷ [] → get_or (gathered 0 n f) (total k g) d ≡ x
item_at k n f g x d h l is =
    let m = n - (k + 1) in
    let e : n ≡ k + suc m = omega arith in
    let rest = gathered (0 + k + 1) m f in
    let z : 0 + k ≡ k = omega arith in
    let here : f (0 + k) ≡ x ∷ [] = ap f z ∙ is in
    let whole : gathered 0 n f ≡ gathered 0 k f ++ (x ∷ [] ++ rest) =
    ap (λ j. gathered 0 j f) e ∙ (gathered_parts k 0 (suc m) f ∙ ap (λ ys. gathered 0 k f ++ (ys ++ rest)) here) in
    let len : total k g ≡ length (gathered 0 k f) + 0 = let s = length_all k f g h in omega arith in
    ap (λ zs. get_or zs (total k g) d) whole
    ∙ (ap (λ j. get_or (gathered 0 k f ++ (x ∷ [] ++ rest)) j d) len ∙ get_or-append-add (gathered 0 k f) (x ∷ [] ++ rest) 0 d)

-- item k of a list with one item for each of n numbers from i on
pub one_at : {X : Type 0} (n i k : ℕ) (f : ℕ → X) (d : X) → k < n → get_or (gathered i n (λ j. f j ∷ [])) k d ≡ f (i + k)
one_at zero i k f d l = absurd (omega arith)
one_at (suc n) i zero f d l = let e : i ≡ i + 0 = omega arith in ap f e
one_at (suc n) i (suc k) f d l = let e : i + 1 + k ≡ i + suc k = omega arith in one_at n (i + 1) k f d (omega arith) ∙ ap f e

-- ---- sums
pub total_up : (n i : ℕ) (g : ℕ → ℕ) → total i g ≤ total (i + n) g
total_up zero i g = let e : i + 0 ≡ i = omega arith in let t : total (i + 0) g ≡ total i g = ap (λ k. total k g) e in omega arith
total_up (suc n) i g =
    let e : i + suc n ≡ i + 1 + n = omega arith in
    let t : total (i + suc n) g ≡ total (i + 1 + n) g = ap (λ k. total k g) e in
    let more = total_up n (i + 1) g in
    let next = total_more i g in
    omega arith

-- a number below n that counts 1
pub total_below : (k n : ℕ) (g : ℕ → ℕ) → k < n → g k ≡ 1 → total k g < total n g
total_below k n g l one =
    let next = total_more k g in
    let up = total_up (n - (k + 1)) (k + 1) g in
    let e : k + 1 + (n - (k + 1)) ≡ n = omega arith in
    let t : total (k + 1 + (n - (k + 1))) g ≡ total n g = ap (λ j. total j g) e in
    omega arith

-- each number counts at most 1
pub total_few : (n : ℕ) (g : ℕ → ℕ) → ((j : ℕ) → g j ≤ 1) → total n g ≤ n
total_few zero g h = omega arith
total_few (suc n) g h = let more = total_few n g h in let here = h n in omega arith

-- a bound that holds at each number where something is added
pub total_bound : (n bound : ℕ) (g : ℕ → ℕ) → ((j : ℕ) → j < n → 0 < g j → total (j + 1) g ≤ bound) → total n g ≤ bound
total_bound zero bound g h = omega arith
total_bound (suc n) bound g h = by (total_bound n bound g (λ j l p. h j (omega arith) p)) (g n) refl
  where
    by : total n g ≤ bound → (x : ℕ) → g n ≡ x → total (suc n) g ≤ bound
    by more zero is = omega arith
    by more (suc x) is = let t = h n (omega arith) (omega arith) in let e = total_more n g in let s : total (suc n) g ≡ total n g + g n = refl in omega arith

-- ---- searches
pub first_passes : (n i : ℕ) (p : ℕ → Bool) → first_from i n p < i + n → p (first_from i n p) ≡ true
first_passes zero i p l = absurd (omega arith)
first_passes (suc n) i p l = by (λ m. first_passes n (i + 1) p m) (p i) refl l
  where
    by : (first_from (i + 1) n p < i + 1 + n → p (first_from (i + 1) n p) ≡ true) → (b : Bool) → p i ≡ b → (if b then i else first_from (i + 1) n p) < i + suc n → p (if b then i else first_from (i + 1) n p) ≡ true
    by more true is l = is
    by more false is l = more (omega arith)
