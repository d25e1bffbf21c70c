-- The pieces of a text, taken from its start one after another.
use Rattle.std.proofs.Common.{◌≡◌, ◌≢◌, ℕ, suc, ◌+◌, ◌<◌, ◌≤◌, true, false, cond, List, [], ◌∷◌, length, take, drop, refl, sym, ap, ◌∙◌, arith}
use Rattle.std.specs.Prelude.{◌==◌}
use Rattle.std.proofs.lemmas.Bool.{cases_eq}
use Rattle.std.proofs.lemmas.Bool.Decides.{nat_tests}
use mathlib.Core.Logic.{⊎_elim}
use Rattle.wind_base.specs.Lines.{line_length}
use Rattle.wind_base.proofs.LineLength.{length_end, length_more}
use Rattle.source_text.specs.Lines.{onto_first, pieces}

pub pieces_end : (b : ℕ) (bs : List ℕ) → b ≡ 10 → pieces (b ∷ bs) ≡ [] ∷ pieces bs
pieces_end b bs e = let t : (b == 10) ≡ true = grind (arith, nat_tests) in ap (λ x. cond x ([] ∷ pieces bs) (onto_first b (pieces bs))) t

pub pieces_on : (b : ℕ) (bs : List ℕ) → b ≢ 10 → pieces (b ∷ bs) ≡ onto_first b (pieces bs)
pieces_on b bs e = let t : (b == 10) ≡ false = grind (arith, nat_tests) in ap (λ x. cond x ([] ∷ pieces bs) (onto_first b (pieces bs))) t

-- there is always a first piece
pub first_piece : (bs : List ℕ) → (p : List ℕ) × (ps : List (List ℕ)) × (pieces bs ≡ p ∷ ps)
first_piece [] = ([], [], refl)
first_piece (b ∷ bs) =
    ⊎_elim
    (λ e. ([], pieces bs, pieces_end b bs e))
    (λ e. let k = first_piece bs in (b ∷ k.0, k.1, pieces_on b bs e ∙ ap (onto_first b) k.2))
    (cases_eq b 10)

-- a text without a line feed is one piece
pub one_piece : (bs : List ℕ) → length bs ≤ line_length bs → pieces bs ≡ bs ∷ []
one_piece [] h = refl
one_piece (b ∷ bs) h =
    ⊎_elim
    (λ e. absurd (omega (arith, length_end b bs e)))
    (λ e. pieces_on b bs e ∙ ap (onto_first b) (one_piece bs (omega (arith, length_more b bs e))))
    (cases_eq b 10)

-- otherwise the first piece ends before the first line feed
cut : (bs : List ℕ) → line_length bs < length bs → pieces bs ≡ take (line_length bs) bs ∷ pieces (drop (suc (line_length bs)) bs)
cut [] h = absurd (omega arith)
cut (b ∷ bs) h =
    ⊎_elim
    (λ e. pieces_end b bs e ∙ ap (λ n. take n (b ∷ bs) ∷ pieces (drop (suc n) (b ∷ bs))) (sym (length_end b bs e)))
    (λ e.
    pieces_on b bs e
    ∙ ap (onto_first b) (cut bs (omega (arith, length_more b bs e)))
    ∙ ap (λ n. take n (b ∷ bs) ∷ pieces (drop (suc n) (b ∷ bs))) (sym (length_more b bs e)))
    (cases_eq b 10)

pub more_pieces : (bs : List ℕ) → line_length bs < length bs → pieces bs ≡ take (line_length bs) bs ∷ pieces (drop (line_length bs + 1) bs)
more_pieces bs h = let e : suc (line_length bs) ≡ line_length bs + 1 = omega arith in cut bs h ∙ ap (λ n. take (line_length bs) bs ∷ pieces (drop n bs)) e

-- the same for a number that is the length of the first line
pub cut_at : (n : ℕ) (bs : List ℕ) → n ≡ line_length bs → n < length bs → pieces bs ≡ take n bs ∷ pieces (drop (n + 1) bs)
cut_at n bs e h = more_pieces bs (omega arith) ∙ ap (λ k. take k bs ∷ pieces (drop (k + 1) bs)) (sym e)

pub last_at : (n : ℕ) (bs : List ℕ) → n ≡ line_length bs → length bs ≤ n → pieces bs ≡ bs ∷ []
last_at n bs e h = one_piece bs (omega arith)
