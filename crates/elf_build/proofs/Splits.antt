-- The section headers of a built file, one group after the other.
use Rattle.std.proofs.Common.{◌≡◌, ℕ, zero, suc, ◌+◌, ◌<◌, ◌⊎◌, inl, inr, List, [], ◌∷◌, ◌++◌, length, refl, ◌∙◌, ap, subst, arith, Bool, true, false, Ok, Err}
use Rattle.elf_read.specs.Rule.{Rule, ◌and_then◌, each, when}
use Rattle.elf_read.specs.Numbered.{gathered, total, first_from}
use Rattle.elf_read.proofs.Counting.{gathered_parts}
use Rattle.elf_build.proofs.Names.{then_branch, else_branch}
use Rattle.elf_build.proofs.Sections.{AllAt}

pub and_ok : (a b : Rule) → a ≡ Ok tt → b ≡ Ok tt → (a and_then b) ≡ Ok tt
and_ok a b p q = ap (λ r. r and_then b) p ∙ q

pub when_not : (b : Bool) (r : Rule) → b ≡ false → when b r ≡ Ok tt
when_not b r h = ap (λ c. when c r) h

split_by : (i a b : ℕ) (rule : ℕ → Rule) (r : Rule) → (r and_then each (i + 1) a rule) ≡ Ok tt → (each (i + 1) a rule ≡ Ok tt → each (i + 1) (a + b) rule ≡ Ok tt) → (r and_then each (i + 1) (a + b) rule) ≡ Ok tt
split_by i a b rule (Ok u) h go = go h
split_by i a b rule (Err e) h go = cc

pub each_split : (i a b : ℕ) (rule : ℕ → Rule) → each i a rule ≡ Ok tt → each (i + a) b rule ≡ Ok tt → each i (a + b) rule ≡ Ok tt
each_split i zero b rule h t = let e : 0 + b ≡ b = omega arith in let g : i ≡ i + 0 = omega arith in ap (λ k. each i k rule) e ∙ (ap (λ k. each k b rule) g ∙ t)
each_split i (suc a) b rule h t =
    let e : suc a + b ≡ suc (a + b) = omega arith in
    let g : i + 1 + a ≡ i + suc a = omega arith in
    ap (λ k. each i k rule) e ∙ split_by i a b rule (rule i) h (λ x. each_split (i + 1) a b rule x (ap (λ k. each k b rule) g ∙ t))

-- the headers: number 0, the sections, three tables, the tables of relocations
pub each_header : (n k : ℕ) (rule : ℕ → Rule) → rule 0 ≡ Ok tt → each 1 n rule ≡ Ok tt → rule (n + 1) ≡ Ok tt → rule (n + 2) ≡ Ok tt → rule (n + 3) ≡ Ok tt → each (n + 4) k rule ≡ Ok tt → each 0 (n + k + 4) rule ≡ Ok tt
each_header n k rule h0 hs h1 h2 h3 hr =
    let count : n + k + 4 ≡ suc (n + suc (suc (suc k))) = omega arith in
    let e1 : 1 + n ≡ n + 1 = omega arith in
    let e2 : 1 + n + 1 ≡ n + 2 = omega arith in
    let e3 : 1 + n + 1 + 1 ≡ n + 3 = omega arith in
    let e4 : 1 + n + 1 + 1 + 1 ≡ n + 4 = omega arith in
    let tail : each (1 + n) (suc (suc (suc k))) rule ≡ Ok tt =
    and_ok (rule (1 + n)) (each (1 + n + 1) (suc (suc k)) rule) (ap rule e1 ∙ h1)
    (and_ok (rule (1 + n + 1)) (each (1 + n + 1 + 1) (suc k) rule) (ap rule e2 ∙ h2)
    (and_ok (rule (1 + n + 1 + 1)) (each (1 + n + 1 + 1 + 1) k rule) (ap rule e3 ∙ h3) (ap (λ j. each j k rule) e4 ∙ hr))) in
    ap (λ j. each 0 j rule) count
    ∙ and_ok (rule 0) (each 1 (n + suc (suc (suc k))) rule) h0 (each_split 1 n (suc (suc (suc k))) rule hs tail)

pub gathered_headers : {X : Type 0} (n k : ℕ) (f : ℕ → List X) (ss rs : List X) → f 0 ≡ [] → gathered 1 n f ≡ ss → f (n + 1) ≡ [] → f (n + 2) ≡ [] → f (n + 3) ≡ [] → gathered (n + 4) k f ≡ rs → gathered 0 (n + k + 4) f ≡ ss ++ rs
gathered_headers n k f ss rs h0 hs h1 h2 h3 hr =
    let count : n + k + 4 ≡ suc (n + suc (suc (suc k))) = omega arith in
    let e1 : 1 + n ≡ n + 1 = omega arith in
    let e2 : 1 + n + 1 ≡ n + 2 = omega arith in
    let e3 : 1 + n + 1 + 1 ≡ n + 3 = omega arith in
    let e4 : 1 + n + 1 + 1 + 1 ≡ n + 4 = omega arith in
    let tail : gathered (1 + n) (suc (suc (suc k))) f ≡ rs =
    ap (λ ys. ys ++ gathered (1 + n + 1) (suc (suc k)) f) (ap f e1 ∙ h1)
    ∙ (ap (λ ys. ys ++ gathered (1 + n + 1 + 1) (suc k) f) (ap f e2 ∙ h2)
    ∙ (ap (λ ys. ys ++ gathered (1 + n + 1 + 1 + 1) k f) (ap f e3 ∙ h3)
    ∙ (ap (λ j. gathered j k f) e4 ∙ hr))) in
    ap (λ j. gathered 0 j f) count
    ∙ (ap (λ ys. ys ++ gathered 1 (n + suc (suc (suc k))) f) h0
    ∙ (gathered_parts n 1 (suc (suc (suc k))) f
    ∙ (ap (λ ys. ys ++ gathered (1 + n) (suc (suc (suc k))) f) hs
    ∙ ap (λ ys. ss ++ ys) tail)))

pub gathered_none_at : {X Y : Type 0} (P : ℕ → X → Type 0) (f : ℕ → List Y) (i : ℕ) (xs : List X) → ((j : ℕ) (x : X) → P j x → f j ≡ []) → AllAt P i xs → gathered i (length xs) f ≡ []
gathered_none_at P f i [] go all = refl
gathered_none_at P f i (x ∷ xs) go (one, others) = ap (λ ys. ys ++ gathered (i + 1) (length xs) f) (go i x one) ∙ gathered_none_at P f (i + 1) xs go others

pub total_zero : (k : ℕ) (f : ℕ → ℕ) → ((j : ℕ) → j < k → f j ≡ 0) → total k f ≡ 0
total_zero zero f h = refl
total_zero (suc k) f h = let a = total_zero k f (λ j l. h j (omega arith)) in let b = h k (omega arith) in omega arith

pub first_is : (i n k : ℕ) (p : ℕ → Bool) → k < n → ((j : ℕ) → j < k → p (i + j) ≡ false) → p (i + k) ≡ true → first_from i n p ≡ i + k
first_is i zero k p l h t = absurd (omega arith)
first_is i (suc n) zero p l h t = let e : i ≡ i + 0 = omega arith in then_branch (p i) i (first_from (i + 1) n p) (ap p e ∙ t) ∙ e
first_is i (suc n) (suc k) p l h t =
    let e : i ≡ i + 0 = omega arith in
    let g : i + 1 + k ≡ i + suc k = omega arith in
    else_branch (p i) i (first_from (i + 1) n p) (ap p e ∙ h 0 (omega arith))
    ∙ (first_is (i + 1) n k p (omega arith) (λ j m. let x : i + 1 + j ≡ i + suc j = omega arith in ap p x ∙ h (suc j) (omega arith)) (ap p g ∙ t) ∙ g)

-- a number is below n, or it is n plus another
pub split_at : (n k : ℕ) → (k < n) ⊎ ((q : ℕ) × (k ≡ n + q))
split_at zero k = inr (k, (let e : k ≡ 0 + k = omega arith in e))
split_at (suc n) zero = inl (omega arith)
split_at (suc n) (suc k) = elim (split_at n k) [ inl l ↦ inl (omega arith) | inr q ↦ inr (q.0, (let a = q.1 in let e : suc k ≡ suc n + q.0 = omega arith in e)) ]

-- a property of each header before those of the tables of relocations
pub prefix_headers : (n : ℕ) (Q : ℕ → Type 0) → Q 0 → ((k : ℕ) → k < n → Q (suc k)) → Q (n + 1) → Q (n + 2) → Q (n + 3) → (i : ℕ) → i < n + 4 → Q i
prefix_headers n Q q0 qs q1 q2 q3 zero l = q0
prefix_headers n Q q0 qs q1 q2 q3 (suc k) l =
    elim (split_at n k) [
      | inl below ↦ qs k below
      | inr q ↦ three n Q q1 q2 q3 k q.0 q.1 l
    ]
  where
    three : (n : ℕ) (Q : ℕ → Type 0) → Q (n + 1) → Q (n + 2) → Q (n + 3) → (k q : ℕ) → k ≡ n + q → suc k < n + 4 → Q (suc k)
    three n Q q1 q2 q3 k zero e l = let x : n + 1 ≡ suc k = omega arith in subst Q x q1
    three n Q q1 q2 q3 k (suc zero) e l = let x : n + 2 ≡ suc k = omega arith in subst Q x q2
    three n Q q1 q2 q3 k (suc (suc zero)) e l = let x : n + 3 ≡ suc k = omega arith in subst Q x q3
    three n Q q1 q2 q3 k (suc (suc (suc q))) e l = absurd (omega arith)
