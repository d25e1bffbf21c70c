-- Where the first end of a line is.
use Rattle.std.proofs.Common.{◌≡◌, ◌≢◌, ℕ, suc, ◌+◌, List, ◌∷◌, true, false, ap, ◌∙◌, arith}
use Rattle.std.specs.Prelude.{◌==◌, not, if◌then◌else◌}
use Rattle.std.proofs.lemmas.Bool.Decides.{nat_tests}
use Rattle.wind_base.specs.Lines.{line_length}

-- the first byte is an end
pub length_end : (b : ℕ) (bs : List ℕ) → b ≡ 10 → line_length (b ∷ bs) ≡ 0
length_end b bs e = let t : (b == 10) ≡ true = grind (arith, nat_tests) in ap (λ x. if not x then 1 + line_length bs else 0) t

-- the first byte is another one
pub length_more : (b : ℕ) (bs : List ℕ) → b ≢ 10 → line_length (b ∷ bs) ≡ suc (line_length bs)
length_more b bs e = let t : (b == 10) ≡ false = grind (arith, nat_tests) in ap (λ x. if not x then 1 + line_length bs else 0) t ∙ omega arith
