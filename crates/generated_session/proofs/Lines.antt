-- The tick file of a generated session is one valid line.
use Rattle.std.proofs.Common.{◌≡◌, ℕ, ◌+◌, ◌<◌, ◌≤◌, ◌^◌, true, false, Bool, List, [], ◌∷◌, ◌++◌, None, refl, ap, ◌∙◌, arith, cond}
use Rattle.std.specs.Prelude.{◌==◌, ◌&&◌, not, codes}
use Rattle.std.specs.List.{list_all}
use Rattle.std.specs.Fmt.{decimal}
use Rattle.std.specs.Char.{is_ascii_digit}
use Rattle.std.proofs.lemmas.Bool.Decides.{nat_tests}
use Rattle.tick_file.specs.declared.event.Event.TheVariants.{Tick}
use Rattle.tick_file.specs.declared.event.Rule.TheVariants.{Every}
use Rattle.tick_file.specs.declared.event.Said.TheVariants.{Says}
use Rattle.tick_file.specs.Grammar.{said}
use Rattle.tick_file.specs.Forms.{GrammarLaw, IsLineOf}
use Rattle.source_text.specs.Lines.{pieces, onto_first}
use Rattle.tick_file.specs.Lines.{lines_of, bad_from, bad_or, tick_lines, first_bad_line}
use Rattle.tick_file.proofs.Writing.{decimal_digits, number}
use Rattle.generated_session.specs.Session.{most_rounds, generated_ticks}

-- it is a line of `every`
every_line : (count : ℕ) → 1 ≤ count → count < 10 ^ 5 → IsLineOf (Every 100 count Tick) (codes "every 100 " ++ decimal count)
every_line count some h = (
  record {
    gap = 32 ∷ [];
    digits = codes "100";
    apart = record { some = omega arith; blank = refl };
    number = record { some = omega arith; few = omega arith; decimal = refl; value = refl; small = omega arith };
    next_gap = 32 ∷ [];
    next_digits = decimal count;
    next_apart = record { some = omega arith; blank = refl };
    next_number = number count (omega arith);
    is = refl;
  },
  omega arith,
  some,
)

-- a text without an 0x0A is one piece
both_hold : (a b : Bool) → (a && b) ≡ true → (a ≡ true) × (b ≡ true)
both_hold true b e = (refl, e)
both_hold false b e = absurd (cc)

not_end : (b : ℕ) → not (b == 10) ≡ true → (b == 10) ≡ false
not_end b e = grind (arith, nat_tests)

one_piece : (text : List ℕ) → list_all (λ b. not (b == 10)) text ≡ true → pieces text ≡ text ∷ []
one_piece [] e = refl
one_piece (b ∷ bs) e =
    let k = both_hold (not (b == 10)) (list_all (λ b. not (b == 10)) bs) e in
    ap (λ t. cond t ([] ∷ pieces bs) (onto_first b (pieces bs))) (not_end b k.0) ∙ ap (onto_first b) (one_piece bs k.1)

digit_no_end : (b : ℕ) → is_ascii_digit b ≡ true → not (b == 10) ≡ true
digit_no_end b e = grind (arith, nat_tests)

digits_no_end : (ds : List ℕ) → list_all is_ascii_digit ds ≡ true → list_all (λ b. not (b == 10)) ds ≡ true
digits_no_end [] e = refl
digits_no_end (d ∷ ds) e =
    let k = both_hold (is_ascii_digit d) (list_all is_ascii_digit ds) e in
    ap (λ b. b && list_all (λ b. not (b == 10)) ds) (digit_no_end d k.0) ∙ digits_no_end ds k.1

-- none of its lines is invalid
pub ticks_are_good : (n : ℕ) → n ≤ most_rounds → GrammarLaw → first_bad_line (generated_ticks n) ≡ None
unfolding first_bad_line tick_lines generated_ticks
ticks_are_good n h law =
    let text = codes "every 100 " ++ decimal (n + 8) in
    let says : said text ≡ Says (Every 100 (n + 8) Tick) = ((law text).0 (Every 100 (n + 8) Tick)).1 (every_line (n + 8) (omega arith) (omega arith)) in
    let alone : pieces text ≡ text ∷ [] = one_piece text (digits_no_end (decimal (n + 8)) (decimal_digits (n + 8) (omega arith))) in
    ap (λ (ps : List (List ℕ)). bad_from 1 (lines_of ps)) alone ∙ ap (bad_or 1 None) says
