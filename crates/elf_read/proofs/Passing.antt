-- What follows if rules hold.
use Rattle.std.proofs.Common.{◌≡◌, ℕ, zero, suc, ◌+◌, ◌<◌, ◌≤◌, List, [], ◌∷◌, Ok, Err, Some, Bool, true, false, refl, sym, ◌∙◌, ap, arith}
use Rattle.std.specs.Prelude.{◌&&◌, not, nat_lt, nat_le, slice_get}
use Rattle.std.proofs.lemmas.Bool.Decides.{nat_tests}
use Rattle.elf_read.specs.declared.error.ElfErr.{ElfErr}
use Rattle.elf_read.specs.Rule.{Rule, ◌and_then◌, unless, when, first_of, each}

-- ---- tests
pub left_true : (a b : Bool) → (a && b) ≡ true → a ≡ true
left_true true b h = refl
left_true false b h = cc

pub right_true : (a b : Bool) → (a && b) ≡ true → b ≡ true
right_true true b h = h
right_true false b h = cc

pub not_false : (a : Bool) → not a ≡ true → a ≡ false
not_false true h = cc
not_false false h = refl

pub at_most : (x n : ℕ) → nat_le x n ≡ true → x ≤ n
at_most x n h = grind (arith, nat_tests)

pub less : (x n : ℕ) → nat_lt x n ≡ true → x < n
less x n h = grind (arith, nat_tests)

-- ---- rules
pub first_holds : (a b : Rule) → (a and_then b) ≡ Ok tt → a ≡ Ok tt
first_holds (Ok u) b h = refl
first_holds (Err e) b h = cc

pub rest_holds : (a b : Rule) → (a and_then b) ≡ Ok tt → b ≡ Ok tt
rest_holds (Ok u) b h = h
rest_holds (Err e) b h = cc

pub unless_holds : (b : Bool) (e : ElfErr) → unless b e ≡ Ok tt → b ≡ true
unless_holds true e h = refl
unless_holds false e h = cc

pub when_holds : (b : Bool) (r : Rule) → b ≡ true → when b r ≡ Ok tt → r ≡ Ok tt
when_holds true r is h = h
when_holds false r is h = cc

-- rule number i of a list of rules that hold
pub holds_at : (rs : List Rule) → first_of rs ≡ Ok tt → (i : ℕ) (r : Rule) → slice_get rs i ≡ Some r → r ≡ Ok tt
holds_at [] h i r at = cc
holds_at (s ∷ rs) h zero r at = let e : s ≡ r = cc in sym e ∙ first_holds s (first_of rs) h
holds_at (s ∷ rs) h (suc i) r at = holds_at rs (rest_holds s (first_of rs) h) i r at

-- a rule for each of n numbers from i on, at the j-th number after the first
pub each_holds : (n i j : ℕ) (rule : ℕ → Rule) → each i n rule ≡ Ok tt → j < n → rule (i + j) ≡ Ok tt
each_holds zero i j rule h l = absurd (omega arith)
each_holds (suc n) i zero rule h l = let e : i + 0 ≡ i = omega arith in ap rule e ∙ first_holds (rule i) (each (i + 1) n rule) h
each_holds (suc n) i (suc j) rule h l =
    let e : i + suc j ≡ i + 1 + j = omega arith in
    ap rule e ∙ each_holds n (i + 1) j rule (rest_holds (rule i) (each (i + 1) n rule) h) (omega arith)

-- the same for numbers from 0 on
pub all_hold : (n j : ℕ) (rule : ℕ → Rule) → each 0 n rule ≡ Ok tt → j < n → rule j ≡ Ok tt
all_hold n j rule h l = let e : 0 + j ≡ j = omega arith in sym (ap rule e) ∙ each_holds n 0 j rule h l
