-- The tasks of a run after one more line.
use Rattle.std.proofs.Common.{◌≡◌, ℕ, ◌+◌, Bool, true, false, if◌then◌else◌, List, [], ◌∷◌, ◌++◌, Option, None, Some, refl, sym, ap, ap₂, ◌∙◌}
use Rattle.std.specs.Prelude.{◌||◌, ◌==◌}
use Rattle.std.specs.List.{list_any}
use Rattle.std.proofs.lemmas.Bool.{eqb-true, eq-eqb, or_left, or_parts, or_right}
use Rattle.board_changes.specs.declared.view.TaskView.{TaskView}
use Rattle.board_trace.specs.Runs.{Line, joined, joined_or, with_line}
use Rattle.board_trace.specs.Subjects.{subject_of}
use Rattle.board_trace.specs.declared.happening.Happening.{Happening}
use Rattle.board_trace.specs.declared.who.Subject.{Subject}
use Rattle.board_trace.specs.declared.who.Subject.TheVariants as subjects
use Rattle.trace_summary.specs.Figures.{is_task, part_of, sum_over}
use Rattle.trace_summary.specs.Summaries.{Known, tasks_in, with_known, with_subject, with_views}
use Rattle.trace_summary.specs.TasksLaws.{is_told, is_viewed}
use Rattle.trace_summary.proofs.Joining.{joined_subject}

-- a task with this id is among these
abbrev pub is_among : ℕ → List Known → Bool
is_among id ts = list_any (λ t. t.id == id) ts

-- ---- one task more
end_among : (id : ℕ) (ts : List Known) (k : Known) → (k.id == id) ≡ true → is_among id (ts ++ k ∷ []) ≡ true
end_among id [] k e = or_left (k.id == id) false e
end_among id (t ∷ ts) k e = or_right (t.id == id) (is_among id (ts ++ k ∷ [])) (end_among id ts k e)

not_at_end : (id : ℕ) (ts : List Known) (k : Known) → is_among id (ts ++ k ∷ []) ≡ false → (is_among id ts ≡ false) × ((k.id == id) ≡ false)
not_at_end id [] k e = (refl, (or_parts (k.id == id) false e).0)
not_at_end id (t ∷ ts) k e =
    let p = or_parts (t.id == id) (is_among id (ts ++ k ∷ [])) e in
    let q = not_at_end id ts k p.1 in
    (ap₂ (λ a b. a || b) p.0 q.0, q.1)

-- it is among them then
known_among : (b : Bool) (id : ℕ) (name : List ℕ) (ts : List Known) → is_among id ts ≡ b → is_among id (if b then ts else ts ++ record { id = id; name = name } ∷ []) ≡ true
known_among true id name ts is = is
known_among false id name ts is = end_among id ts (record { id = id; name = name }) (eq-eqb id id refl)

-- what isn't among them then is another, and wasn't there before
differs : (b : Bool) (id who : ℕ) (ts : List Known) → is_among who ts ≡ true → is_among id ts ≡ false → (who == id) ≡ b → (who == id) ≡ false
differs false id who ts here gone is = is
differs true id who ts here gone is =
    let bad : true ≡ false = sym here ∙ ap (λ n. is_among n ts) (eqb-true who id is) ∙ gone in
    absurd (cc)

not_known : (b : Bool) (id who : ℕ) (name : List ℕ) (ts : List Known) → is_among who ts ≡ b → is_among id (if b then ts else ts ++ record { id = who; name = name } ∷ []) ≡ false
    → (is_among id ts ≡ false) × ((who == id) ≡ false)
not_known true id who name ts is e = (e, differs (who == id) id who ts is e refl)
not_known false id who name ts is e = not_at_end id ts (record { id = who; name = name }) e

not_there : (id : ℕ) (who : Subject) (name : List ℕ) (ts : List Known) → is_among id (with_subject who name ts) ≡ false → (is_among id ts ≡ false) × (is_task id who ≡ false)
not_there id (subjects.Task w) name ts e = not_known (is_among w ts) id w name ts refl e
not_there id subjects.Board name ts e = (e, refl)
not_there id subjects.Interrupt name ts e = (e, refl)

-- no line tells of a task that isn't among them
pub untold : (f : Happening → ℕ) (id : ℕ) (views : List TaskView) (lines : List Line) → is_among id (tasks_in views lines) ≡ false → sum_over (part_of id f) lines ≡ 0
untold f id views [] e = refl
untold f id views (l ∷ older) e =
    let p = not_there id (subject_of l.what) l.name (tasks_in views older) e in
    ap₂ (λ b n. (if b then f l.what else 0) + n) p.1 (untold f id views older p.0)

-- ---- one line more
-- a task that was added is there
again : (who : Subject) (name other : List ℕ) (ts : List Known) → with_subject who other (with_subject who name ts) ≡ with_subject who name ts
again (subjects.Task w) name other ts =
    let made = with_known w name ts in
    ap (λ b. if b then made else made ++ record { id = w; name = other } ∷ []) (known_among (is_among w ts) w name ts refl)
again subjects.Board name other ts = refl
again subjects.Interrupt name other ts = refl

module _ (views : List TaskView) (l newest : Line) (older : List Line) where
  tasks_or : (j : Option Happening) → ((x : Happening) → j ≡ Some x → (subject_of x ≡ subject_of newest.what) × (subject_of l.what ≡ subject_of newest.what))
      → tasks_in views (joined_or j l newest older) ≡ with_subject (subject_of l.what) l.name (tasks_in views (newest ∷ older))
  tasks_or None is = refl
  tasks_or (Some x) is =
      let s = is x refl in
      let who = subject_of newest.what in
      let before = tasks_in views older in
      ap (λ w. with_subject w newest.name before) s.0
      ∙ sym (again who newest.name l.name before)
      ∙ ap (λ w. with_subject w l.name (with_subject who newest.name before)) (sym s.1)

pub tasks_line : (views : List TaskView) (l : Line) (made : List Line) → tasks_in views (with_line l made) ≡ with_subject (subject_of l.what) l.name (tasks_in views made)
tasks_line views l [] = refl
tasks_line views l (newest ∷ older) = tasks_or views l newest older (joined newest.what l.what) (joined_subject newest.what l.what)

-- ---- which tasks there are
nothing_more : (b : Bool) → b ≡ (b || false)
nothing_more true = refl
nothing_more false = refl

or_group : (a b c : Bool) → (a || (b || c)) ≡ ((a || b) || c)
or_group true b c = refl
or_group false b c = refl

twice : (a b : Bool) → (a || b) ≡ (a || (a || b))
twice true b = refl
twice false b = refl

or_turn : (a b c : Bool) → ((a || b) || c) ≡ (a || (c || b))
or_turn true b c = refl
or_turn false true true = refl
or_turn false true false = refl
or_turn false false true = refl
or_turn false false false = refl

among_more : (id : ℕ) (ts : List Known) (k : Known) → is_among id (ts ++ k ∷ []) ≡ (is_among id ts || (k.id == id))
among_more id [] k = sym (nothing_more (k.id == id))
among_more id (t ∷ ts) k = ap (λ b. (t.id == id) || b) (among_more id ts k) ∙ or_group (t.id == id) (is_among id ts) (k.id == id)

-- a task that is there already adds none
same_with : (b : Bool) (id who : ℕ) (ts : List Known) → is_among who ts ≡ true → (who == id) ≡ b → is_among id ts ≡ (is_among id ts || b)
same_with false id who ts here is = nothing_more (is_among id ts)
same_with true id who ts here is =
    let there : is_among id ts ≡ true = ap (λ n. is_among n ts) (sym (eqb-true who id is)) ∙ here in
    there ∙ sym (or_left (is_among id ts) true there)

among_by : (b : Bool) (id who : ℕ) (name : List ℕ) (ts : List Known) → is_among who ts ≡ b
    → is_among id (if b then ts else ts ++ record { id = who; name = name } ∷ []) ≡ (is_among id ts || (who == id))
among_by true id who name ts is = same_with (who == id) id who ts is refl
among_by false id who name ts is = among_more id ts (record { id = who; name = name })

among_with : (id who : ℕ) (name : List ℕ) (ts : List Known) → is_among id (with_known who name ts) ≡ (is_among id ts || (who == id))
among_with id who name ts = among_by (is_among who ts) id who name ts refl

among_subject : (id : ℕ) (who : Subject) (name : List ℕ) (ts : List Known) → is_among id (with_subject who name ts) ≡ (is_among id ts || is_task id who)
among_subject id (subjects.Task w) name ts = among_with id w name ts
among_subject id subjects.Board name ts = nothing_more (is_among id ts)
among_subject id subjects.Interrupt name ts = nothing_more (is_among id ts)

among_views : (id : ℕ) (vs : List TaskView) (ts : List Known) → is_among id (with_views vs ts) ≡ (is_among id ts || is_viewed id vs)
among_views id [] ts = nothing_more (is_among id ts)
among_views id (v ∷ vs) ts =
    among_views id vs (with_known v.id v.name ts)
    ∙ ap (λ b. b || is_viewed id vs) (among_with id v.id v.name ts)
    ∙ sym (or_group (is_among id ts) (v.id == id) (is_viewed id vs))

-- each that lives at the start, and each that a line tells of
pub among_tasks : (id : ℕ) (views : List TaskView) (lines : List Line) → is_among id (tasks_in views lines) ≡ (is_viewed id views || is_told id lines)
among_tasks id views [] = among_views id views [] ∙ nothing_more (is_viewed id views)
among_tasks id views (l ∷ older) =
    among_subject id (subject_of l.what) l.name (tasks_in views older)
    ∙ ap (λ b. b || is_task id (subject_of l.what)) (among_tasks id views older)
    ∙ or_turn (is_viewed id views) (is_told id older) (is_task id (subject_of l.what))

-- one line more
module _ (id : ℕ) (l newest : Line) (older : List Line) where
  told_or : (j : Option Happening) → ((x : Happening) → j ≡ Some x → (subject_of x ≡ subject_of newest.what) × (subject_of l.what ≡ subject_of newest.what))
      → is_told id (joined_or j l newest older) ≡ (is_task id (subject_of l.what) || is_told id (newest ∷ older))
  told_or None is = refl
  told_or (Some x) is =
      let s = is x refl in
      let mine = is_task id (subject_of newest.what) in
      ap (λ w. is_task id w || is_told id older) s.0
      ∙ twice mine (is_told id older)
      ∙ ap (λ w. is_task id w || (mine || is_told id older)) (sym s.1)

pub told_line : (id : ℕ) (l : Line) (made : List Line) → is_told id (with_line l made) ≡ (is_task id (subject_of l.what) || is_told id made)
told_line id l [] = refl
told_line id l (newest ∷ older) = told_or id l newest older (joined newest.what l.what) (joined_subject newest.what l.what)
