-- What a sink gained of a text of lines.
use Rattle.std.proofs.Common.{◌≡◌, ◌⊎◌, ℕ, List, [], ◌∷◌, ◌++◌, Option, None, Some, inl, inr, refl, sym, ap, subst, ◌∙◌, append_assoc, length, take, drop}
use Rattle.std.proofs.lemmas.List.{append-nil, take_at, take-append-drop}
use Rattle.wind_outside.specs.Appending.{Appended, AppendedPrefix}
use Rattle.wind_machine.specs.State.{State}
use Rattle.wind_session.proofs.AppendingLemmas.{appended_both, appended_none}
use Rattle.wind_session.specs.declared.run.RunEnd.{RunEnd}
use Rattle.wind_session.specs.declared.run.RunEnd.TheVariants as ends
use Rattle.board_changes.specs.declared.view.TaskView.{TaskView}
use Rattle.board_trace.specs.Runs.{Line}
use Rattle.board_trace.specs.Snapshots.{snapshot_of}
use Rattle.trace_text.specs.Ending.{last_line}
use Rattle.trace_text.specs.Forms.{Gained, HasLines, Joins, OutcomeState}
use Rattle.trace_text.specs.Lines.{line_text, lines_text}
use Rattle.trace_text.specs.Pages.{EndsBy, PageState, waiting_line}
use Rattle.trace_session.specs.Traced.{HoldsLines, HoldsSome, IsPutOf, how_text, outcome_of}

module _ (old new : Option (List ℕ)) where
  prefix_of : (prefix rest text : List ℕ) → prefix ++ rest ≡ text → Appended old new prefix → AppendedPrefix old new text
  prefix_of prefix rest text whole gained =
      (length prefix, subst (Appended old new) (sym (take_at prefix rest (length prefix) refl) ∙ ap (take (length prefix)) whole) gained)

  -- a prefix of a text is one of a longer text
  pub prefix_more : (text more : List ℕ) → AppendedPrefix old new text → AppendedPrefix old new (text ++ more)
  prefix_more text more part =
      prefix_of (take part.0 text) (drop part.0 text ++ more) (text ++ more)
      (sym (append_assoc (take part.0 text) (drop part.0 text) more) ∙ ap (λ bytes. bytes ++ more) (take-append-drop part.0 text)) part.1

  -- all of a text is a prefix of it
  pub prefix_whole : (text : List ℕ) → Appended old new text → AppendedPrefix old new text
  prefix_whole text gained = prefix_of text [] text (append-nil text) gained

-- ---- lines in a form
module _ (is_line : Line → List ℕ → Type 0) (old new : Option (List ℕ)) where
  -- a prefix of the text of the lines that don't wait
  some_of : (text : List ℕ) (growing : Option Line) (lines : List Line) → EndsBy is_line text growing lines → AppendedPrefix old new text → HoldsSome is_line old new lines
  some_of text None lines ends part = record { newer = []; older = lines; lines_are = refl; text = text; has_lines = ends.0; gained = part }
  some_of text (Some newest) lines ends part = record {
    newer = newest ∷ [];
    older = ends.older;
    lines_are = ends.lines_are;
    text = text;
    has_lines = ends.text_is;
    gained = part;
  }

  -- nothing was put of no lines
  pub none_put : old ≡ new → HoldsSome is_line old new []
  none_put same = record { newer = []; older = []; lines_are = refl; text = []; has_lines = refl; gained = (0, subst (λ bytes. Appended old bytes []) same (appended_none old)) }

  -- what was put of the lines is a prefix of a text of them
  pub some_put : (page : PageState) (lines : List Line) → HoldsLines is_line old new page lines → HoldsSome is_line old new lines
  some_put page lines holds =
      some_of (holds.given ++ page.text) (waiting_line page.growing) lines holds.ends
      (prefix_more old new holds.given page.text (prefix_whole old new holds.given holds.gained))

module _ (is_line : Line → List ℕ → Type 0) (old mid new : Option (List ℕ)) where
  -- also after a put of the page failed
  pub some_lost : (page : PageState) (lines : List Line) → HoldsLines is_line old mid page lines → AppendedPrefix mid new page.text → HoldsSome is_line old new lines
  some_lost page lines holds part =
      let n = part.0 in
      some_of is_line old new (holds.given ++ page.text) (waiting_line page.growing) lines holds.ends
      (prefix_of old new (holds.given ++ take n page.text) (drop n page.text) (holds.given ++ page.text)
      (append_assoc holds.given (take n page.text) (drop n page.text) ∙ ap (λ bytes. holds.given ++ bytes) (take-append-drop n page.text))
      (appended_both old mid new holds.given (take n page.text) holds.gained part.1))

  -- after a put of the page, the sink has gained its text too
  pub put_whole : (page next : PageState) (lines : List Line) → HoldsLines is_line old mid page lines → Appended mid new page.text → next ≡ record page { text = [] } → HoldsLines is_line old new next lines
  put_whole page next lines holds put same =
      let P : PageState → Type 0 = λ p. HoldsLines is_line old new p lines in
      let Q : List ℕ → Type 0 = λ bytes. EndsBy is_line bytes (waiting_line page.growing) lines in
      subst P (sym same)
      (record {
        given = holds.given ++ page.text;
        gained = appended_both old mid new holds.given page.text holds.gained put;
        ends = subst Q (sym (append-nil (holds.given ++ page.text))) holds.ends;
      })

-- a text was put after another, or a put of it failed
module _ (old mid new : Option (List ℕ)) (given text : List ℕ) (gained : Appended old mid given) where
  pub text_put : Appended mid new text → Appended old new (given ++ text)
  text_put put = appended_both old mid new given text gained put

  pub text_lost : AppendedPrefix mid new text → AppendedPrefix old new (given ++ text)
  text_lost part =
      let n = part.0 in
      prefix_of old new (given ++ take n text) (drop n text) (given ++ text)
      (append_assoc given (take n text) (drop n text) ∙ ap (λ bytes. given ++ bytes) (take-append-drop n text))
      (appended_both old mid new given (take n text) gained part.1)

-- ---- how the run ended
-- it is put after the lines
pub end_put : (IsText IsPiece : List ℕ → Type 0) (given text new : List ℕ) → IsText (given ++ text) → Gained IsPiece text new → Joins IsText IsPiece (given ++ new)
end_put IsText IsPiece given text new is gained = record {
  before = given ++ text;
  is_text = is;
  gained = record {
    piece = gained.piece;
    text_is = ap (λ bytes. given ++ bytes) gained.text_is ∙ sym (append_assoc given text gained.piece);
    is_piece = gained.is_piece;
  };
}

-- it is made of what is read of the last state
pub end_read : (t : State) (end : RunEnd) (time step left : ℕ) (how : List ℕ) (tasks : List TaskView) → time ≡ t.time → step ≡ t.steps → how ≡ how_text end → tasks ≡ (snapshot_of t.world).tasks → left ≡ length t.left
    → record { time = time; step = step; how = how; tasks = tasks; left = left } ≡ outcome_of end t
end_read t end time step left how tasks time_is step_is how_is tasks_are left_is =
    let made : ℕ → ℕ → List ℕ → List TaskView → ℕ → OutcomeState = λ a b c d e. record { time = a; step = b; how = c; tasks = d; left = e } in
    ap (λ x. made x step how tasks left) time_is
    ∙ ap (λ x. made t.time x how tasks left) step_is
    ∙ ap (λ x. made t.time t.steps x tasks left) how_is
    ∙ ap (λ x. made t.time t.steps (how_text end) x left) tasks_are
    ∙ ap (λ x. made t.time t.steps (how_text end) (snapshot_of t.world).tasks x) left_is

-- ---- lines for people
abbrev pub IsLineText : Line → List ℕ → Type 0
IsLineText l text = text ≡ line_text l

abbrev pub IsEndText : OutcomeState → List ℕ → Type 0
IsEndText e text = text ≡ last_line e.time e.step e.how e.tasks e.left

pub text_of_lines : (lines : List Line) (text : List ℕ) → HasLines IsLineText lines text → text ≡ lines_text lines
text_of_lines [] text has = has
text_of_lines (newest ∷ older) text has =
    has.gained.text_is ∙ ap (λ bytes. has.before ++ bytes) has.gained.is_piece ∙ ap (λ bytes. bytes ++ line_text newest) (text_of_lines older has.before has.is_text)

-- the text of newer lines follows that of older ones
pub text_of_both : (newer older : List Line) → lines_text (newer ++ older) ≡ lines_text older ++ lines_text newer
text_of_both [] older = sym (append-nil (lines_text older))
text_of_both (newest ∷ newer) older = ap (λ bytes. bytes ++ line_text newest) (text_of_both newer older) ∙ append_assoc (lines_text older) (lines_text newer) (line_text newest)

pub prefix_of_some : (old new : Option (List ℕ)) (lines : List Line) → HoldsSome IsLineText old new lines → AppendedPrefix old new (lines_text lines)
prefix_of_some old new lines some =
    let P : List ℕ → Type 0 = AppendedPrefix old new in
    subst P (sym (ap lines_text some.lines_are ∙ text_of_both some.newer some.older))
    (prefix_more old new (lines_text some.older) (lines_text some.newer) (subst P (text_of_lines some.older some.text some.has_lines) some.gained))

-- the text of the lines and of the end is theirs
pub joins_text : (lines : List Line) (e : OutcomeState) (text : List ℕ) → Joins (HasLines IsLineText lines) (IsEndText e) text → text ≡ lines_text lines ++ last_line e.time e.step e.how e.tasks e.left
joins_text lines e text joins =
    joins.gained.text_is ∙ ap (λ bytes. joins.before ++ bytes) joins.gained.is_piece
    ∙ ap (λ bytes. bytes ++ last_line e.time e.step e.how e.tasks e.left) (text_of_lines lines joins.before joins.is_text)

pub events_text_of : (old new : Option (List ℕ)) (lines : List Line) (e : OutcomeState) (result end : RunEnd)
    → ((text : List ℕ) × Joins (HasLines IsLineText lines) (IsEndText e) text × IsPutOf text result end old new) ⊎ ((result ≡ ends.WriteFault) × HoldsSome IsLineText old new lines)
    → IsPutOf (lines_text lines ++ last_line e.time e.step e.how e.tasks e.left) result end old new
events_text_of old new lines e result end (inl put) = subst (λ text. IsPutOf text result end old new) (joins_text lines e put.0 put.1) put.2
events_text_of old new lines e result end (inr lost) = inr (lost.0, prefix_more old new (lines_text lines) (last_line e.time e.step e.how e.tasks e.left) (prefix_of_some old new lines lost.1))
