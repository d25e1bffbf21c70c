-- Parts that are read one after another up to the last are the text.
use Rattle.std.proofs.Common.{◌≡◌, ℕ, zero, suc, ◌+◌, ◌*◌, ◌<◌, ◌≤◌, true, false, List, ◌++◌, length, drop, sym, ap, ◌∙◌, arith, inl, inr}
use Rattle.std.specs.Prelude.{nat_lt}
use Rattle.std.proofs.lemmas.Bool.{cases_lt}
use Rattle.std.proofs.lemmas.Bool.Decides.{nat_tests}
use Rattle.std.proofs.lemmas.List.{drop-drop, length-drop, take-append-drop, take_all}
use Rattle.debug_texts.specs.Parts.{PartsLaw, part, read_in_parts}

-- a part, and what comes after it
part_rest : (text : List ℕ) (at count : ℕ) → part text at count ++ drop (at + count) text ≡ drop at text
part_rest text at count = ap (λ rest. part text at count ++ rest) (sym (drop-drop count at text)) ∙ take-append-drop count (drop at text)

rest_read : (text : List ℕ) (count at most : ℕ) → 0 < most → length text ≤ at + most * count → read_in_parts text count at most ≡ drop at text
rest_read text count at zero some within = absurd (omega arith)
rest_read text count at (suc most) some within =
    elim (cases_lt (at + count) (length text)) [
      | inl less ↦
          let more : nat_lt (at + count) (length text) ≡ true = grind (arith, nat_tests) in
          let left : 0 < most = parts_left most count at (length text) within less in
          rw more (ap (λ rest. part text at count ++ rest) (rest_read text count (at + count) most left (omega arith)) ∙ part_rest text at count)
      | inr all ↦
          let last : nat_lt (at + count) (length text) ≡ false = grind (arith, nat_tests) in
          rw last (take_all count (drop at text) (omega (arith, length-drop at text)))
    ]
  where
    parts_left : (k count at n : ℕ) → n ≤ at + suc k * count → at + count < n → 0 < k
    parts_left zero count at n within less = absurd (omega arith)
    parts_left (suc k) count at n within less = omega arith

pub parts_whole : PartsLaw
parts_whole text count most some within = rest_read text count 0 most some (omega arith)
