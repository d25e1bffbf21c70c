-- Names that end with a zero, and tests.
use Rattle.std.proofs.Common.{◌≡◌, ◌≢◌, ℕ, zero, suc, ◌<◌, ◌≤◌, List, [], ◌∷◌, ◌++◌, length, take, refl, ◌∙◌, ap, arith, Bool, true, false, nat_le, nat_lt}
use Rattle.std.specs.Prelude.{◌==◌, ◌&&◌, ◌||◌, not, if◌then◌else◌}
use Rattle.std.specs.List.{All, list_any}
use Rattle.std.proofs.lemmas.Bool.Decides.{nat_tests}
use Rattle.elf_read.specs.Places.{text_of}
use Rattle.elf_read.specs.Tables.{is_zero, has_name}
use Rattle.elf_read.specs.Contents.{name_at}
use Rattle.elf_build.specs.Entries.{ended}
use Rattle.elf_read.specs.Modules.{IsName}
use Rattle.elf_build.proofs.Stands.{Stands}

-- ---- tests

pub or_true : (a b : Bool) → b ≡ true → (a || b) ≡ true
or_true true b h = refl
or_true false b h = h

pub or_first : (a b : Bool) → a ≡ true → (a || b) ≡ true
or_first a b h = ap (λ x. x || b) h

pub and_true : (a b : Bool) → a ≡ true → b ≡ true → (a && b) ≡ true
and_true a b p q = ap (λ x. x && b) p ∙ q

pub not_false : (a : Bool) → a ≡ false → not a ≡ true
not_false a h = ap not h

pub differs : (x n : ℕ) → (x ≡ n → ⊥) → (x == n) ≡ false
differs x n h = grind (arith, nat_tests)

pub equals : (x n : ℕ) → x ≡ n → (x == n) ≡ true
equals x n h = grind (arith, nat_tests)

pub below : (x n : ℕ) → x < n → nat_lt x n ≡ true
below x n h = grind (arith, nat_tests)

pub above : (x n : ℕ) → n ≤ x → nat_lt x n ≡ false
above x n h = grind (arith, nat_tests)

pub at_most : (x n : ℕ) → x ≤ n → nat_le x n ≡ true
at_most x n h = grind (arith, nat_tests)

pub else_branch : {X : Type 0} (b : Bool) (x y : X) → b ≡ false → (if b then x else y) ≡ y
else_branch b x y h = ap (λ c. if c then x else y) h

pub then_branch : {X : Type 0} (b : Bool) (x y : X) → b ≡ true → (if b then x else y) ≡ x
then_branch b x y h = ap (λ c. if c then x else y) h

-- ---- all of a list

pub all_first : {X : Type 0} (P : X → Type 0) (x : X) (xs : List X) → All P (x ∷ xs) → P x
all_first P x xs h = h 0 x (omega arith)

pub all_rest : {X : Type 0} (P : X → Type 0) (x : X) (xs : List X) → All P (x ∷ xs) → All P xs
all_rest P x xs h = λ k d l. h (suc k) d (omega arith)

-- ---- names

text_ended : (xs rest : List ℕ) → All (λ b. b ≢ 0) xs → text_of ((xs ++ 0 ∷ []) ++ rest) ≡ xs
text_ended [] rest h = refl
text_ended (x ∷ xs) rest h =
    else_branch (x == 0) [] (x ∷ text_of ((xs ++ 0 ∷ []) ++ rest)) (differs x 0 (all_first (λ b. b ≢ 0) x xs h))
    ∙ ap (λ ys. x ∷ ys) (text_ended xs rest (all_rest (λ b. b ≢ 0) x xs h))

any_ended : (n : ℕ) (xs rest : List ℕ) → length xs < n → list_any is_zero (take n ((xs ++ 0 ∷ []) ++ rest)) ≡ true
any_ended zero xs rest h = absurd (omega arith)
any_ended (suc n) [] rest h = refl
any_ended (suc n) (x ∷ xs) rest h = or_true (is_zero x) (list_any is_zero (take n ((xs ++ 0 ∷ []) ++ rest))) (any_ended n xs rest (omega arith))

pub name_is : (strings : List ℕ) (k : ℕ) (name : List ℕ) → Stands strings k (ended name) → IsName name → name_at strings k ≡ name
name_is strings k name s n = ap text_of s.is ∙ text_ended name s.rest n.no_zero

pub short_there : (strings : List ℕ) (k : ℕ) (name : List ℕ) → Stands strings k (ended name) → length name ≤ 255 → has_name strings k ≡ true
unfolding has_name
short_there strings k name s h = ap (λ xs. list_any is_zero (take 256 xs)) s.is ∙ any_ended 256 name s.rest (omega arith)

pub name_there : (strings : List ℕ) (k : ℕ) (name : List ℕ) → Stands strings k (ended name) → IsName name → has_name strings k ≡ true
name_there strings k name s n = short_there strings k name s n.size
