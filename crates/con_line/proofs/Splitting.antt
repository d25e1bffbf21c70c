-- Finished lines as a list of lines.
use Rattle.std.proofs.Common.{◌≡◌, ◌≢◌, ℕ, suc, ◌+◌, ◌≤◌, List, [], ◌∷◌, ◌++◌, true, refl, ap, sym, ◌∙◌, arith, length, take, drop, inl, inr, length-append, append_assoc, append-nil, drop_at, take_at}
use Rattle.std.specs.Prelude.{◌&&◌, nat_le, All}
use Rattle.std.proofs.lemmas.Bool.{cases_eq}
use Rattle.std.proofs.lemmas.Bool.Decides.{nat_tests}
use Rattle.std.proofs.lemmas.List.{nil_from_length}
use Rattle.std.proofs.lemmas.List.Elements.{All-head, All-tail, All-cons, All-append}
use Rattle.wind_base.specs.Lines.{line_length}
use Rattle.wind_base.proofs.LineLength.{length_end, length_more}
use Rattle.con_line.specs.Lines.{are_lines}
use Rattle.con_line.specs.Laws.{IsLine, joined, MadeLaw, SplitLaw, FirstLineLaw}
use Rattle.con_line.proofs.Endings.{both_left, both_right, line_end, line_more}

-- ---- lines with their ends are finished lines
made_after : (n : ℕ) (line rest : List ℕ) → All (λ b. b ≢ 10) line → n + length line ≤ 255 → are_lines 0 rest ≡ true → are_lines n ((line ++ 10 ∷ []) ++ rest) ≡ true
made_after n [] rest plain short h = let t : nat_le n 255 ≡ true = grind (arith, nat_tests) in ap (λ x. x && are_lines 0 rest) t ∙ h
made_after n (b ∷ bs) rest plain short h =
    line_more n b ((bs ++ 10 ∷ []) ++ rest) (All-head (λ x. x ≢ 10) b bs plain) ∙ made_after (n + 1) bs rest (All-tail (λ x. x ≢ 10) b bs plain) (omega arith) h

pub made : MadeLaw
made [] h = refl
made (line ∷ lines) h =
    let is : IsLine line = All-head IsLine line lines h in
    made_after 0 line (joined lines) is.unended (omega (arith, is.short)) (made lines (All-tail IsLine line lines h))

-- ---- finished lines are lines with their ends
-- these bytes, after the bytes of a begun line
abbrev pub Split : List ℕ → List ℕ → Type 0
Split begun bytes = (lines : List (List ℕ)) × All IsLine lines × (joined lines ≡ begun ++ bytes)

no_line : All IsLine []
no_line k d below = absurd (omega arith)

no_byte : All (λ (b : ℕ). b ≢ 10) []
no_byte k d below = absurd (omega arith)

one_byte : (b : ℕ) → b ≢ 10 → All (λ (x : ℕ). x ≢ 10) (b ∷ [])
one_byte b other = All-cons (λ x. x ≢ 10) b [] other no_byte

ended_split : (begun : List ℕ) (b : ℕ) (bs : List ℕ) → b ≡ 10 → IsLine begun → Split [] bs → Split begun (b ∷ bs)
ended_split begun b bs e is rest = (
  begun ∷ rest.0,
  All-cons IsLine begun rest.0 is rest.1,
  ap (λ l. (begun ++ 10 ∷ []) ++ l) rest.2 ∙ append_assoc begun (10 ∷ []) bs ∙ ap (λ x. begun ++ x ∷ bs) (sym e),
)

split_after : (bytes begun : List ℕ) → All (λ b. b ≢ 10) begun → are_lines (length begun) bytes ≡ true → Split begun bytes
split_after [] begun plain h =
    let none : begun ≡ [] = nil_from_length begun (grind (arith, nat_tests, h)) in
    ([], no_line, sym (append-nil begun ∙ none))
split_after (b ∷ bs) begun plain h =
    elim (cases_eq b 10) [
      | inl e ↦
          let both : nat_le (length begun) 255 && are_lines 0 bs ≡ true = sym (line_end (length begun) b bs e) ∙ h in
          let first : nat_le (length begun) 255 ≡ true = both_left _ _ both in
          let is : IsLine begun = record { short = grind (arith, nat_tests, first); unended = plain } in
          ended_split begun b bs e is (split_after bs [] no_byte (both_right (nat_le (length begun) 255) _ both))
      | inr e ↦
          let longer : length (begun ++ b ∷ []) ≡ length begun + 1 = length-append begun (b ∷ []) in
          let rest = split_after bs (begun ++ b ∷ []) (All-append (λ x. x ≢ 10) begun (b ∷ []) plain (one_byte b e)) (ap (λ n. are_lines n bs) longer ∙ sym (line_more (length begun) b bs e) ∙ h) in
          (rest.0, rest.1, rest.2 ∙ append_assoc begun (b ∷ []) bs)
    ]

pub split : SplitLaw
split bytes h = split_after bytes [] no_byte h

-- ---- the first line
first_length : (line rest : List ℕ) → All (λ b. b ≢ 10) line → line_length ((line ++ 10 ∷ []) ++ rest) ≡ length line
first_length [] rest plain = length_end 10 rest refl
first_length (b ∷ bs) rest plain =
    length_more b ((bs ++ 10 ∷ []) ++ rest) (All-head (λ x. x ≢ 10) b bs plain) ∙ ap suc (first_length bs rest (All-tail (λ x. x ≢ 10) b bs plain))

pub first_lines : FirstLineLaw
first_lines c line lines is e =
    let whole : List ℕ = (line ++ 10 ∷ []) ++ joined lines in
    let long : line_length c.finished ≡ length line = ap line_length e ∙ first_length line (joined lines) is.unended in
    let ended : length (line ++ 10 ∷ []) ≡ length line + 1 = length-append line (10 ∷ []) in (
      ap (λ n. take n c.finished) long ∙ ap (take (length line)) (e ∙ append_assoc line (10 ∷ []) (joined lines)) ∙ take_at line (10 ∷ joined lines) (length line) refl,
      ap (λ n. drop (n + 1) c.finished) long ∙ ap (drop (length line + 1)) e ∙ drop_at (line ++ 10 ∷ []) (joined lines) (length line + 1) ended,
    )
