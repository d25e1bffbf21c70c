-- Laws on finished lines.
use Rattle.std.proofs.Common.{◌≡◌, ◌≢◌, ℕ, suc, ◌+◌, ◌≤◌, List, [], ◌∷◌, ◌++◌, Bool, true, false, refl, ap, sym, ◌∙◌, arith, length, drop, inl, inr}
use Rattle.std.specs.Prelude.{◌==◌, ◌&&◌, nat_le, if◌then◌else◌, All}
use Rattle.std.proofs.lemmas.Bool.{cases_eq}
use Rattle.std.proofs.lemmas.Bool.Decides.{nat_tests}
use Rattle.std.proofs.lemmas.List.Elements.{All-head, All-tail}
use Rattle.wind_base.specs.Lines.{line_length}
use Rattle.wind_base.proofs.LineLength.{length_end, length_more}
use Rattle.con_line.specs.Lines.{are_lines}

-- the two halves of a test
pub both_left : (a b : Bool) → a && b ≡ true → a ≡ true
both_left true b h = refl
both_left false b h = cc

pub both_right : (a b : Bool) → a && b ≡ true → b ≡ true
both_right true b h = h
both_right false b h = cc

-- a line after n bytes, by whether its next byte ends it
pub line_end : (n b : ℕ) (bs : List ℕ) → b ≡ 10 → are_lines n (b ∷ bs) ≡ nat_le n 255 && are_lines 0 bs
line_end n b bs e = let t : (b == 10) ≡ true = grind (arith, nat_tests) in ap (λ x. if x then nat_le n 255 && are_lines 0 bs else are_lines (n + 1) bs) t

pub line_more : (n b : ℕ) (bs : List ℕ) → b ≢ 10 → are_lines n (b ∷ bs) ≡ are_lines (n + 1) bs
line_more n b bs e = let t : (b == 10) ≡ false = grind (arith, nat_tests) in ap (λ x. if x then nat_le n 255 && are_lines 0 bs else are_lines (n + 1) bs) t

-- a line with its end, after n bytes of it
ended_line : (n : ℕ) (line : List ℕ) → All (λ b. b ≢ 10) line → n + length line ≤ 255 → are_lines n (line ++ 10 ∷ []) ≡ true
ended_line n [] plain short = let t : nat_le n 255 ≡ true = grind (arith, nat_tests) in ap (λ x. x && true) t
ended_line n (b ∷ bs) plain short =
    line_more n b (bs ++ 10 ∷ []) (All-head (λ x. x ≢ 10) b bs plain) ∙ ended_line (n + 1) bs (All-tail (λ x. x ≢ 10) b bs plain) (omega arith)

-- another line after finished ones
pub lines_more : (n : ℕ) (finished line : List ℕ) → are_lines n finished ≡ true → All (λ b. b ≢ 10) line → length line ≤ 255 → are_lines n (finished ++ (line ++ 10 ∷ [])) ≡ true
lines_more n [] line h plain short = let none : n ≡ 0 = grind (arith, nat_tests) in ended_line n line plain (omega arith)
lines_more n (b ∷ bs) line h plain short =
    elim (cases_eq b 10) [
      | inl e ↦
          let both : nat_le n 255 && are_lines 0 bs ≡ true = sym (line_end n b bs e) ∙ h in
          let first : nat_le n 255 ≡ true = both_left _ _ both in
          let rest : are_lines 0 (bs ++ (line ++ 10 ∷ [])) ≡ true = lines_more 0 bs line (both_right (nat_le n 255) _ both) plain short in
          line_end n b (bs ++ (line ++ 10 ∷ [])) e ∙ ap (λ x. x && are_lines 0 (bs ++ (line ++ 10 ∷ []))) first ∙ rest
      | inr e ↦ line_more n b (bs ++ (line ++ 10 ∷ [])) e ∙ lines_more (n + 1) bs line (sym (line_more n b bs e) ∙ h) plain short
    ]

-- a finished line has at most 255 bytes
pub line_within : (n : ℕ) (finished : List ℕ) → are_lines n finished ≡ true → n + line_length finished ≤ 255
line_within n [] h = let none : n ≡ 0 = grind (arith, nat_tests) in omega arith
line_within n (b ∷ bs) h =
    elim (cases_eq b 10) [
      | inl e ↦
          let both : nat_le n 255 && are_lines 0 bs ≡ true = sym (line_end n b bs e) ∙ h in
          let first : nat_le n 255 ≡ true = both_left _ _ both in
          let within : n ≤ 255 = grind (arith, nat_tests) in
          omega (arith, within, length_end b bs e)
      | inr e ↦ let rest = line_within (n + 1) bs (sym (line_more n b bs e) ∙ h) in omega (arith, rest, length_more b bs e)
    ]

-- finished lines without the first
pub lines_less : (n : ℕ) (finished : List ℕ) → are_lines n finished ≡ true → are_lines 0 (drop (line_length finished + 1) finished) ≡ true
lines_less n [] h = refl
lines_less n (b ∷ bs) h =
    elim (cases_eq b 10) [
      | inl e ↦
          let both : nat_le n 255 && are_lines 0 bs ≡ true = sym (line_end n b bs e) ∙ h in
          ap (λ k. are_lines 0 (drop (k + 1) (b ∷ bs))) (length_end b bs e) ∙ both_right (nat_le n 255) _ both
      | inr e ↦
          let more : line_length (b ∷ bs) + 1 ≡ suc (line_length bs + 1) = omega (arith, length_more b bs e) in
          ap (λ k. are_lines 0 (drop k (b ∷ bs))) more ∙ lines_less (n + 1) bs (sym (line_more n b bs e) ∙ h)
    ]
