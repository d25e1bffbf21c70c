-- The lines of a dump.
use Rattle.std.proofs.Common.{◌≡◌, ℕ, zero, suc, ◌+◌, ◌-◌, ◌*◌, ◌<◌, ◌≤◌, List, [], ◌∷◌, ◌++◌, length, take, drop, append_assoc, length-drop, min, refl, ap, sym, ◌∙◌, arith, inl, inr}
use Rattle.std.specs.Prelude.{IsTrue}
use Rattle.std.proofs.lemmas.Bool.Decides.{nat_tests}
use Rattle.std.proofs.lemmas.Bool.{cases_lt}
use Rattle.std.proofs.lemmas.List.{drop-drop, drop-take, length-take-le, take-take, take_all}
use Rattle.board_mem.specs.Memory.{has, bytes_at}
use Rattle.text_show.specs.Dump.{dump_line, dump_lines}

drop_more : (n k : ℕ) (xs : List ℕ) → drop n (drop k xs) ≡ drop (k + n) xs
drop_more n zero xs = let e : 0 + n ≡ n = omega arith in rw e
drop_more n (suc k) [] = let e : suc k + n ≡ suc (k + n) = omega arith in rw e (drop_none n)
  where
    drop_none : (n : ℕ) → drop n (let none : List ℕ = [] in none) ≡ []
    drop_none zero = refl
    drop_none (suc n) = refl
drop_more n (suc k) (x ∷ xs) = let e : suc k + n ≡ suc (k + n) = omega arith in rw e (drop_more n k xs)

-- one more line is written
pub lines_more : (width at : ℕ) (bytes : List ℕ) (lines number : ℕ) (all page new : List ℕ) → number < lines
    → page ++ dump_lines width (lines - number) (at + number * 16) (drop (number * 16) bytes) ≡ all
    → new ≡ page ++ dump_line width (at + number * 16) (take 16 (drop (number * 16) bytes))
    → new ++ dump_lines width (lines - (number + 1)) (at + (number + 1) * 16) (drop ((number + 1) * 16) bytes) ≡ all
lines_more width at bytes lines number all page new below e w =
    let this = dump_line width (at + number * 16) (take 16 (drop (number * 16) bytes)) in
    let later = dump_lines width (lines - (number + 1)) (at + (number + 1) * 16) (drop ((number + 1) * 16) bytes) in
    let left : lines - number ≡ suc (lines - (number + 1)) = omega arith in
    let next : at + number * 16 + 16 ≡ at + (number + 1) * 16 = omega arith in
    let place : number * 16 + 16 ≡ (number + 1) * 16 = omega arith in
    let split : dump_lines width (lines - number) (at + number * 16) (drop (number * 16) bytes) ≡ this ++ later =
    ap (λ k. dump_lines width k (at + number * 16) (drop (number * 16) bytes)) left
    ∙ ap (λ a. this ++ dump_lines width (lines - (number + 1)) a (drop 16 (drop (number * 16) bytes))) next
    ∙ ap (λ xs. this ++ dump_lines width (lines - (number + 1)) (at + (number + 1) * 16) xs) (drop_more 16 (number * 16) bytes ∙ ap (λ k. drop k bytes) place) in
    ap (λ xs. xs ++ later) w ∙ append_assoc page this later ∙ ap (λ xs. page ++ xs) (sym split) ∙ e

-- a prefix is no longer than its bound
take_within : (n : ℕ) (xs : List ℕ) → length (take n xs) ≤ n
take_within zero xs = omega arith
take_within (suc n) [] = omega arith
take_within (suc n) (x ∷ xs) = let e = take_within n xs in omega arith

-- a range inside RAM has as many bytes as it should
pub range_length : (ram : List ℕ) (at n : ℕ) → IsTrue (has ram at n) → length (bytes_at ram at n) ≡ n
range_length ram at zero there = refl
range_length ram at (suc n) there =
    let ends : at + suc n ≤ length ram = grind (arith, nat_tests) in
    length-take-le (suc n) (drop at ram) (omega (arith, length-drop at ram, ends))

-- a line of a range
pub line_is : (ram : List ℕ) (at n k : ℕ) → k ≤ n → take 16 (drop k (bytes_at ram at n)) ≡ bytes_at ram (at + k) (min (n - k) 16)
line_is ram at n k le =
    let left = n - k in
    let rest = drop (at + k) ram in
    let whole : k + left ≡ n = omega arith in
    let bytes_after : drop k (bytes_at ram at n) ≡ take left rest =
    ap (λ m. drop k (bytes_at ram at m)) (sym whole) ∙ drop-take k left (drop at ram) ∙ ap (take left) (drop-drop k at ram) in
    ap (take 16) bytes_after ∙ elim (cases_lt left 16) as (λ _. take 16 (take left rest) ≡ take (min left 16) rest) [
      | inl less ↦
          let least : left ≡ min left 16 = omega arith in
          take_all 16 (take left rest) (omega (arith, take_within left rest)) ∙ ap (λ m. take m rest) least
      | inr more ↦
          let least : 16 ≡ min left 16 = omega arith in
          take-take 16 left rest more ∙ ap (λ m. take m rest) least
    ]
