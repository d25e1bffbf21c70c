-- What a page's text and the line that waits are of the lines of a run.
use Rattle.std.proofs.Common.{◌≡◌, ℕ, ◌+◌, Bool, true, false, if◌then◌else◌, List, [], ◌∷◌, ◌++◌, Option, None, Some, refl, sym, ap, subst, ◌∙◌, append_assoc}
use Rattle.std.specs.Prelude.{is_some}
use Rattle.std.proofs.lemmas.List.{append-nil}
use Rattle.board_trace.specs.Runs.{Line, joined, joined_or, with_line}
use Rattle.board_trace.specs.declared.happening.Happening.{Happening}
use Rattle.board_trace.specs.declared.happening.Happening.TheVariants as told
use Rattle.trace_text.specs.Forms.{Gained, HasLines}
use Rattle.trace_text.specs.Pages.{EndsBy, IsGrowing, grown, is_instructions, joined_line, may_grow}

-- ---- only instructions are joined, and only with instructions
joined_first : (h g : Happening) → is_instructions h ≡ false → joined h g ≡ None
joined_first (told.Instructions who n) g e = absurd (cc)
joined_first h g e = refl

joined_second : (h g : Happening) → is_instructions g ≡ false → joined h g ≡ None
joined_second (told.Instructions who n) (told.Instructions other m) e = absurd (cc)
joined_second (told.Instructions who n) g e = refl
joined_second h g e = refl

if_some : (b : Bool) (h k : Happening) → (if b then Some h else None) ≡ Some k → h ≡ k
if_some true h k e = cc
if_some false h k e = absurd (cc)

-- ---- lines of their own
alone_after : (l : Line) (made : List Line) → may_grow made ≡ false → with_line l made ≡ l ∷ made
alone_after l [] e = refl
alone_after l (newest ∷ older) e = ap (λ j. joined_or j l newest older) (joined_first newest.what l.what e)

pub alone : (l : Line) (made : List Line) → is_instructions l.what ≡ false → with_line l made ≡ l ∷ made
alone l [] e = refl
alone l (newest ∷ older) e = ap (λ j. joined_or j l newest older) (joined_second newest.what l.what e)

not_joined : (j : Option Happening) (l newest : Line) (older : List Line) → is_some (joined_line j newest) ≡ false → joined_or j l newest older ≡ l ∷ newest ∷ older
not_joined None l newest older e = refl
not_joined (Some h) l newest older e = absurd (cc)

module _ (is_line : Line → List ℕ → Type 0) where
  -- instructions that don't join those that wait are a line of their own
  pub apart : (text : List ℕ) (growing : Option Line) (l : Line) (made : List Line) → EndsBy is_line text growing made → is_some (grown growing l.what) ≡ false → with_line l made ≡ l ∷ made
  apart text None l made ends e = alone_after l made ends.1
  apart text (Some newest) l made ends e =
      let P : List Line → Type 0 = λ lines. with_line l lines ≡ l ∷ lines in
      subst P (sym ends.lines_are) (not_joined (joined newest.what l.what) l newest ends.older e)

  -- after what was given, a text gained a piece
  gained_after : (P : List ℕ → Type 0) (given old new : List ℕ) → Gained P old new → Gained P (given ++ old) (given ++ new)
  gained_after P given old new gained = record {
    piece = gained.piece;
    text_is = ap (λ t. given ++ t) gained.text_is ∙ sym (append_assoc given old gained.piece);
    is_piece = gained.is_piece;
  }

  -- the page after its line that waits was written
  pub finished : (given old new : List ℕ) (growing : Option Line) (made : List Line) → EndsBy is_line (given ++ old) growing made → Gained (IsGrowing is_line growing) old new → HasLines is_line made (given ++ new)
  finished given old new None made ends gained =
      subst (HasLines is_line made) (ap (λ t. given ++ t) (sym (gained.text_is ∙ ap (λ t. old ++ t) gained.is_piece ∙ append-nil old))) ends.0
  finished given old new (Some newest) made ends gained =
      let P : List Line → Type 0 = λ lines. HasLines is_line lines (given ++ new) in
      subst P (sym ends.lines_are) (record {
        before = given ++ old;
        is_text = ends.text_is;
        gained = gained_after (is_line newest) given old new gained;
      })

  -- a line of anything but instructions follows
  pub ends_other : (given text new : List ℕ) (growing : Option Line) (l : Line) (made : List Line) → HasLines is_line made (given ++ text) → growing ≡ None → Gained (is_line l) text new → is_instructions l.what ≡ false
      → EndsBy is_line (given ++ new) growing (with_line l made)
  ends_other given text new growing l made has none gained other =
      let P : List Line → Type 0 = λ lines. EndsBy is_line (given ++ new) None lines in
      let Q : Option Line → Type 0 = λ g. EndsBy is_line (given ++ new) g (with_line l made) in
      subst Q (sym none)
      (subst P (sym (alone l made other)) (record { before = given ++ text; is_text = has; gained = gained_after (is_line l) given text new gained }, other))
