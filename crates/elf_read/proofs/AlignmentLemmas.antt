-- Alignments are the powers of two from 2 ^ 0 to 2 ^ 16.
use Rattle.std.proofs.Common.{◌≡◌, ℕ, zero, suc, ◌+◌, ◌<◌, ◌≤◌, ◌^◌, List, [], ◌∷◌, map, Bool, true, false, refl, sym, ◌∙◌, ap, subst, arith}
use Rattle.std.specs.Prelude.{◌==◌, ◌||◌}
use Rattle.std.specs.List.{AllByRecursion, range_with_len}
use Rattle.std.proofs.lemmas.Bool.Decides.{nat_tests}
use Rattle.elf_read.specs.Rules.{is_alignment, alignments}
use Rattle.elf_read.specs.Tables.{has_number}
use Rattle.elf_read.specs.Alignments.{AlignmentLaw}

equal : (x n : ℕ) → x ≡ n → (x == n) ≡ true
equal x n h = grind (arith, nat_tests)

or_first : (a b : Bool) → a ≡ true → (a || b) ≡ true
or_first a b h = ap (λ x. x || b) h

or_rest : (a b : Bool) → b ≡ true → (a || b) ≡ true
or_rest true b h = refl
or_rest false b h = h

-- ---- numbers that a function gives
-- the number for i + k is in the list
made_there : (f : ℕ → ℕ) (n i k : ℕ) → k < n → has_number (map f (range_with_len i n)) (f (i + k)) ≡ true
made_there f zero i k l = absurd (omega arith)
made_there f (suc n) i zero l =
    let e : f i ≡ f (i + 0) = (let z : i ≡ i + 0 = omega arith in ap f z) in
    or_first (f i == f (i + 0)) (has_number (map f (range_with_len (i + 1) n)) (f (i + 0))) (equal (f i) (f (i + 0)) e)
made_there f (suc n) i (suc k) l =
    let e : i + 1 + k ≡ i + suc k = omega arith in
    or_rest (f i == f (i + suc k)) (has_number (map f (range_with_len (i + 1) n)) (f (i + suc k)))
    (subst (λ j. has_number (map f (range_with_len (i + 1) n)) (f j) ≡ true) e (made_there f n (i + 1) k (omega arith)))

-- x is the number for one of the n arguments from i on
abbrev Made : (ℕ → ℕ) → ℕ → ℕ → ℕ → Type 0
Made f n i x = (k : ℕ) × ((k < n) × (x ≡ f (i + k)))

made_by : (f : ℕ → ℕ) (n i x : ℕ) (b : Bool) → (f i == x) ≡ b → (has_number (map f (range_with_len (i + 1) n)) x ≡ true → Made f n (i + 1) x) → (b || has_number (map f (range_with_len (i + 1) n)) x) ≡ true → Made f (suc n) i x
made_by f n i x true e more h =
    let same : f i ≡ x = grind (arith, nat_tests) in
    let z : i ≡ i + 0 = omega arith in
    (0, (omega arith, sym same ∙ ap f z))
made_by f n i x false e more h =
    let m = more h in
    let s : i + 1 + m.0 ≡ i + suc m.0 = omega arith in
    (suc m.0, (omega (arith, m.1.0), m.1.1 ∙ ap f s))

made_only : (f : ℕ → ℕ) (n i x : ℕ) → has_number (map f (range_with_len i n)) x ≡ true → Made f n i x
made_only f zero i x h = cc
made_only f (suc n) i x h = made_by f n i x (f i == x) refl (made_only f n (i + 1) x) h

-- ---- powers of two
power : ℕ → ℕ
power k = 2 ^ k

all_powers : alignments ≡ map power (range_with_len 0 17)
unfolding power
all_powers = refl

powers_are : (k : ℕ) → k ≤ 16 → is_alignment (2 ^ k) ≡ true
unfolding is_alignment power
powers_are k l =
    let z : 0 + k ≡ k = omega arith in
    ap (λ xs. has_number xs (2 ^ k)) all_powers
    ∙ subst (λ j. has_number (map power (range_with_len 0 17)) (power j) ≡ true) z (made_there power 17 0 k (omega arith))

only_powers : (n : ℕ) → is_alignment n ≡ true → (k : ℕ) × ((k ≤ 16) × (n ≡ 2 ^ k))
unfolding is_alignment power
only_powers n h =
    let m = made_only power 17 0 n (sym (ap (λ xs. has_number xs n) all_powers) ∙ h) in
    let z : 0 + m.0 ≡ m.0 = omega arith in
    (m.0, (omega (arith, m.1.0), m.1.1 ∙ ap power z))

-- ---- their range
abbrev Between : ℕ → Type 0
Between p = (1 ≤ p) × (p ≤ 65536)

any_by : (n x : ℕ) (xs : List ℕ) (b : Bool) → (x == n) ≡ b → Between x → (has_number xs n ≡ true → Between n) → (b || has_number xs n) ≡ true → Between n
any_by n x xs true e h more t = let same : x ≡ n = grind (arith, nat_tests) in subst Between same h
any_by n x xs false e h more t = more t

any_between : (n : ℕ) (xs : List ℕ) → AllByRecursion Between xs → has_number xs n ≡ true → Between n
any_between n [] h e = cc
any_between n (x ∷ xs) (one, others) e = any_by n x xs (x == n) refl one (any_between n xs others) e

all_between : AllByRecursion Between alignments
all_between = ((omega arith, omega arith), ((omega arith, omega arith), ((omega arith, omega arith), ((omega arith, omega arith), ((omega arith, omega arith), ((omega arith, omega arith), ((omega arith, omega arith), ((omega arith, omega arith), ((omega arith, omega arith), ((omega arith, omega arith), ((omega arith, omega arith), ((omega arith, omega arith), ((omega arith, omega arith), ((omega arith, omega arith), ((omega arith, omega arith), ((omega arith, omega arith), ((omega arith, omega arith), tt)))))))))))))))))

pub alignment_between : (n : ℕ) → is_alignment n ≡ true → (1 ≤ n) × (n ≤ 65536)
unfolding is_alignment
alignment_between n h = any_between n alignments all_between h

pub alignment_law : AlignmentLaw
alignment_law = record { powers = powers_are; only = only_powers; between = alignment_between }
