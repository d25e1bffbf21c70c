-- The lines of a text, taken from its beginning one after another.
use Rattle.std.proofs.Common.{◌≡◌, ℕ, ◌+◌, ◌<◌, ◌≤◌, true, false, cond, List, [], ◌∷◌, ◌++◌, length, take, map, Option, None, refl, sym, ap, ◌∙◌, subst, arith, nat_lt}
use Rattle.std.proofs.lemmas.List.{append_assoc, map-append, drop_all}
use Rattle.std.proofs.lemmas.Bool.{cases_lt}
use Rattle.std.proofs.lemmas.Bool.Decides.{nat_tests}
use mathlib.Core.Logic.{⊎_elim}
use Rattle.wind_base.specs.Lines.{line_length}
use Rattle.source_text.specs.Lines.{pieces, after_line}
use Rattle.source_text.proofs.Cutting.{first_piece, one_piece, more_pieces}
use Rattle.tick_file.specs.Grammar.{said}
use Rattle.std.specs.declared.cmp.Reverse.{Reverse}
use Rattle.tick_file.specs.declared.event.Said.{Said}
use Rattle.tick_file.specs.declared.event.Said.TheVariants.{Nothing}
use Rattle.tick_file.specs.declared.reading.TickErr.{TickErr}
use Rattle.tick_file.specs.declared.pending.Pending.{Pending}
use Rattle.tick_file.specs.Lines.{without_return, lines_of, tick_lines, first_line, rule_at, rules_from, bad_or, bad_from, Tells}
use Rattle.tick_file.specs.Inside.{waiting_of}

-- a blank line says nothing
said_none : said [] ≡ Nothing
unfolding said
said_none = refl

pub lines_more : (piece : List ℕ) (bs : List ℕ) → lines_of (piece ∷ pieces bs) ≡ without_return piece ∷ lines_of (pieces bs)
lines_more piece bs =
    let k = first_piece bs in ap (λ ps. lines_of (piece ∷ ps)) k.2 ∙ ap (λ ps. without_return piece ∷ lines_of ps) (sym k.2)

-- if the first line has an end, the other lines come after it
pub line_and_others : (bs : List ℕ) → line_length bs < length bs → tick_lines bs ≡ first_line bs ∷ tick_lines (after_line bs)
unfolding tick_lines
line_and_others bs h =
    let t : nat_lt (line_length bs) (length bs) ≡ true = grind (arith, nat_tests) in
    ap lines_of (more_pieces bs h)
    ∙ lines_more (take (line_length bs) bs) (after_line bs)
    ∙ ap (λ b. cond b (without_return (take (line_length bs) bs)) bs ∷ lines_of (pieces (after_line bs))) (sym t)

-- otherwise it is the only line, and nothing comes after it
pub last_line : (bs : List ℕ) → length bs ≤ line_length bs → (tick_lines bs ≡ first_line bs ∷ []) × (tick_lines (after_line bs) ≡ [] ∷ [])
unfolding tick_lines
last_line bs h =
    let t : nat_lt (line_length bs) (length bs) ≡ false = grind (arith, nat_tests) in (
      ap lines_of (one_piece bs h) ∙ ap (λ b. cond b (without_return (take (line_length bs) bs)) bs ∷ []) (sym t),
      ap (λ xs. lines_of (pieces xs)) (drop_all (line_length bs + 1) bs (omega arith)),
    )

-- a blank line has no rule and is not bad
rules_blank : (n : ℕ) → rules_from n ([] ∷ []) ≡ []
rules_blank n = ap (λ s. rule_at n s ++ []) said_none

bad_blank : (n : ℕ) → bad_from n ([] ∷ []) ≡ None
bad_blank n = ap (bad_or n None) said_none

-- nothing left: no rule, and no bad line
pub rules_done : (n : ℕ) → rules_from n (tick_lines []) ≡ []
unfolding tick_lines
rules_done n = rules_blank n

pub bad_done : (n : ℕ) → bad_from n (tick_lines []) ≡ None
unfolding tick_lines
bad_done n = bad_blank n

-- the rules of a text are that of its first line and those of the lines after it
pub rules_step : (n : ℕ) (bs : List ℕ) → rules_from n (tick_lines bs) ≡ rule_at n (said (first_line bs)) ++ rules_from (n + 1) (tick_lines (after_line bs))
rules_step n bs =
    ⊎_elim
    (λ h. ap (rules_from n) (line_and_others bs h))
    (λ h.
    ap (rules_from n) (last_line bs h).0
    ∙ ap (λ rs. rule_at n (said (first_line bs)) ++ rs) (sym (rules_blank (n + 1)) ∙ ap (rules_from (n + 1)) (sym (last_line bs h).1)))
    (cases_lt (line_length bs) (length bs))

-- and its first bad line is its first line, or the first bad line after it
pub bad_step : (n : ℕ) (bs : List ℕ) → bad_from n (tick_lines bs) ≡ bad_or n (bad_from (n + 1) (tick_lines (after_line bs))) (said (first_line bs))
bad_step n bs =
    ⊎_elim
    (λ h. ap (bad_from n) (line_and_others bs h))
    (λ h.
    ap (bad_from n) (last_line bs h).0
    ∙ ap (λ o. bad_or n o (said (first_line bs))) (sym (bad_blank (n + 1)) ∙ ap (bad_from (n + 1)) (sym (last_line bs h).1)))
    (cases_lt (line_length bs) (length bs))

module _ (n : ℕ) (bs prefix after : List ℕ) (s : Said) (says : s ≡ said prefix) (first : prefix ≡ first_line bs) where
  first_says : s ≡ said (first_line bs)
  first_says = says ∙ ap said first

  -- after the rule of line n is added, the rules so far and those to come are the same rules together
  pub kept_step : (ks more : List (Reverse Pending)) → after ≡ after_line bs → more ≡ ks ++ map waiting_of (rule_at n s)
      → more ++ map waiting_of (rules_from (n + 1) (tick_lines after)) ≡ ks ++ map waiting_of (rules_from n (tick_lines bs))
  kept_step ks more rest e =
      ap (λ (xs : List (Reverse Pending)). xs ++ map waiting_of (rules_from (n + 1) (tick_lines after))) e
      ∙ append_assoc ks (map waiting_of (rule_at n s)) (map waiting_of (rules_from (n + 1) (tick_lines after)))
      ∙ ap (λ (xs : List (Reverse Pending)). ks ++ xs) (sym (map-append waiting_of (rule_at n s) (rules_from (n + 1) (tick_lines after))))
      ∙ ap (λ t. ks ++ map waiting_of (rule_at n t ++ rules_from (n + 1) (tick_lines after))) first_says
      ∙ ap (λ (b : List ℕ). ks ++ map waiting_of (rule_at n (said (first_line bs)) ++ rules_from (n + 1) (tick_lines b))) rest
      ∙ ap (λ rs. ks ++ map waiting_of rs) (sym (rules_step n bs))

  -- if line n isn't bad, the first bad line comes after it
  pub good_step : after ≡ after_line bs → ((o : Option ℕ) → bad_or n o s ≡ o) → bad_from (n + 1) (tick_lines after) ≡ bad_from n (tick_lines bs)
  good_step rest good =
      sym (good (bad_from (n + 1) (tick_lines after)))
      ∙ ap (λ t. bad_or n (bad_from (n + 1) (tick_lines after)) t) first_says
      ∙ ap (λ (b : List ℕ). bad_or n (bad_from (n + 1) (tick_lines b)) (said (first_line bs))) rest
      ∙ sym (bad_step n bs)

  -- and an error of line n tells of the first bad line
  pub bad_tells : (e : TickErr) → ((o : Option ℕ) → Tells (bad_or n o s) e) → Tells (bad_from n (tick_lines bs)) e
  bad_tells e tells =
      subst (λ o. Tells o e) (ap (λ t. bad_or n (bad_from (n + 1) (tick_lines (after_line bs))) t) first_says ∙ sym (bad_step n bs)) (tells (bad_from (n + 1) (tick_lines (after_line bs))))
