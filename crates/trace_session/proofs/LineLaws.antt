-- What joining keeps, and what lines say is written.
use Rattle.std.proofs.Common.{◌≡◌, ℕ, zero, suc, ◌+◌, Bool, true, false, if◌then◌else◌, List, [], ◌∷◌, ◌++◌, map, Option, None, Some, refl, sym, ap, subst, ◌∙◌, append_assoc, arith}
use Rattle.std.proofs.lemmas.List.{append-nil}
use Rattle.wind_machine.specs.LiveLoadingSaid.{FileSaid}
use Rattle.wind_machine.specs.State.{State}
use Rattle.wind_machine.specs.Replies.{step_reply}
use Rattle.wind_machine.specs.Run.{Answers, after, text}
use Rattle.board_trace.specs.Before.{before_step}
use Rattle.board_trace.specs.Runs.{Line, joined, joined_or, line_in, lines_of, same_actor, step_lines, with_line, with_lines}
use Rattle.board_trace.specs.Snapshots.{after_step, snapshot_of}
use Rattle.board_trace.specs.Steps.{happenings}
use Rattle.board_trace.specs.declared.happening.Happening.{Happening}
use Rattle.board_trace.specs.declared.happening.Happening.TheVariants as told
use Rattle.trace_text.specs.Pages.{count_of, is_instructions}
use Rattle.trace_session.specs.Laws.{LinesLaw, instructions_in, others_in, single_lines, with_each, written_by, written_in}
use Rattle.trace_session.proofs.Counts.{texts_are, texts_of}

-- ---- two happenings that are joined
-- both are instructions, and so is what they are joined to
record Joins (h g x : Happening) : Type 0 where
  pub first : is_instructions h ≡ true
  pub second : is_instructions g ≡ true
  pub both : is_instructions x ≡ true
  pub count : count_of x ≡ count_of h + count_of g

if_some : (b : Bool) (h x : Happening) → (if b then Some h else None) ≡ Some x → h ≡ x
if_some true h x e = cc
if_some false h x e = absurd (cc)

joins : (h g x : Happening) → joined h g ≡ Some x → Joins h g x
joins (told.Instructions who n) (told.Instructions other m) x e =
    let P : Happening → Type 0 = λ y. Joins (told.Instructions who n) (told.Instructions other m) y in
    subst P (if_some (same_actor who other) (told.Instructions who (n + m)) x e) (record { first = refl; second = refl; both = refl; count = refl })
joins (told.Instructions who n) g x e = absurd (cc)
joins h g x e = absurd (cc)

-- instructions write nothing
no_text : (h : Happening) → is_instructions h ≡ true → written_by h ≡ []
no_text (told.Instructions who n) e = refl
no_text (told.Writes who bytes) e = absurd (cc)
no_text h e = refl

-- ---- one line more
module _ (l newest : Line) (older : List Line) where
  counts_or : (j : Option Happening) → ((x : Happening) → j ≡ Some x → Joins newest.what l.what x) → instructions_in (joined_or j l newest older) ≡ count_of l.what + (count_of newest.what + instructions_in older)
  counts_or None is = refl
  counts_or (Some x) is = omega (arith, (is x refl).count)

  others_or : (j : Option Happening) → ((x : Happening) → j ≡ Some x → Joins newest.what l.what x) → others_in (joined_or j l newest older) ≡ others_in (l ∷ newest ∷ older)
  others_or None is = refl
  others_or (Some x) is =
      ap (λ b. if b then others_in older else record newest { what = x } ∷ others_in older) (is x refl).both
      ∙ sym (ap (λ b. if b then others_in older else newest ∷ others_in older) (is x refl).first)
      ∙ sym (ap (λ b. if b then others_in (newest ∷ older) else l ∷ others_in (newest ∷ older)) (is x refl).second)

  texts_or : (j : Option Happening) → ((x : Happening) → j ≡ Some x → Joins newest.what l.what x) → written_in (joined_or j l newest older) ≡ written_in (newest ∷ older) ++ written_by l.what
  texts_or None is = refl
  texts_or (Some x) is =
      ap (λ bytes. written_in older ++ bytes) (no_text x (is x refl).both ∙ sym (no_text newest.what (is x refl).first))
      ∙ sym (append-nil (written_in (newest ∷ older)))
      ∙ sym (ap (λ bytes. written_in (newest ∷ older) ++ bytes) (no_text l.what (is x refl).second))

counts_line : (l : Line) (made : List Line) → instructions_in (with_line l made) ≡ instructions_in (l ∷ made)
counts_line l [] = refl
counts_line l (newest ∷ older) = counts_or l newest older (joined newest.what l.what) (joins newest.what l.what)

others_line : (l : Line) (made : List Line) → others_in (with_line l made) ≡ others_in (l ∷ made)
others_line l [] = refl
others_line l (newest ∷ older) = others_or l newest older (joined newest.what l.what) (joins newest.what l.what)

texts_line : (l : Line) (made : List Line) → written_in (with_line l made) ≡ written_in made ++ written_by l.what
texts_line l [] = refl
texts_line l (newest ∷ older) = texts_or l newest older (joined newest.what l.what) (joins newest.what l.what)

-- ---- the lines of a step more
counts_lines : (ls made alone : List Line) → instructions_in made ≡ instructions_in alone → instructions_in (with_lines ls made) ≡ instructions_in (with_each ls alone)
counts_lines [] made alone e = e
counts_lines (l ∷ ls) made alone e = counts_lines ls (with_line l made) (l ∷ alone) (counts_line l made ∙ ap (λ n. count_of l.what + n) e)

others_lines : (ls made alone : List Line) → others_in made ≡ others_in alone → others_in (with_lines ls made) ≡ others_in (with_each ls alone)
others_lines [] made alone e = e
others_lines (l ∷ ls) made alone e =
    others_lines ls (with_line l made) (l ∷ alone) (others_line l made ∙ ap (λ os. if is_instructions l.what then os else l ∷ os) e)

texts_lines : (line : Happening → Line) → ((h : Happening) → (line h).what ≡ h) → (hs : List Happening) (made : List Line) → written_in (with_lines (map line hs) made) ≡ written_in made ++ texts_of hs
texts_lines line of [] made = sym (append-nil (written_in made))
texts_lines line of (h ∷ hs) made =
    texts_lines line of hs (with_line (line h) made)
    ∙ ap (λ bytes. bytes ++ texts_of hs) (texts_line (line h) made ∙ ap (λ g. written_in made ++ written_by g) (of h))
    ∙ append_assoc (written_in made) (written_by h) (texts_of hs)

texts_step : (said : FileSaid) (s t : State) → texts_of (happenings said s t) ≡ t.world.output
unfolding happenings
texts_step said s t = texts_are (before_step s) (snapshot_of s.world) (snapshot_of t.world) (after_step (before_step s) (step_reply said s) t) t.world.output

-- ---- a run
module _ (said : Answers) (s : State) where
  counts : (k : ℕ) → instructions_in (lines_of said s k) ≡ instructions_in (single_lines said s k)
  counts zero = refl
  counts (suc k) = counts_lines (step_lines (said k) (after said s k) (after said s (suc k))) (lines_of said s k) (single_lines said s k) (counts k)

  others : (k : ℕ) → others_in (lines_of said s k) ≡ others_in (single_lines said s k)
  others zero = refl
  others (suc k) = others_lines (step_lines (said k) (after said s k) (after said s (suc k))) (lines_of said s k) (single_lines said s k) (others k)

  texts : (k : ℕ) → written_in (lines_of said s k) ≡ text said s k
  texts zero = refl
  texts (suc k) =
      texts_lines (line_in (after said s k) (after said s (suc k))) (λ h. refl) (happenings (said k) (after said s k) (after said s (suc k))) (lines_of said s k)
      ∙ ap (λ bytes. bytes ++ texts_of (happenings (said k) (after said s k) (after said s (suc k)))) (texts k)
      ∙ ap (λ bytes. text said s k ++ bytes) (texts_step (said k) (after said s k) (after said s (suc k)))

pub lines_law : LinesLaw
lines_law = record { instructions = counts; others = others; written = texts }
