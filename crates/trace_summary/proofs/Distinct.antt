-- No two tasks of a run have the same id, so what is counted of a task is added at one place.
use Rattle.std.proofs.Common.{◌≡◌, ℕ, zero, suc, ◌+◌, ◌<◌, Bool, true, false, if◌then◌else◌, List, [], ◌∷◌, ◌++◌, map, drop, length, get_or, refl, sym, ap, ap₂, ◌∙◌, arith, add-one}
use Rattle.std.specs.Prelude.{◌||◌, ◌&&◌, ◌==◌, not}
use Rattle.std.specs.List.{list_any}
use Rattle.std.proofs.Math.ListN.{set}
use Rattle.std.proofs.Math.Seq.{drop-cons}
use Rattle.std.proofs.lemmas.Bool.{eq-eqb, eqb-false, eqb-true, ne_eqb, or_left, or_parts, or_right}
use Rattle.std.proofs.lemmas.List.{map-append}
use Rattle.id_table.specs.Records.{StandsAt}
use Rattle.board_changes.specs.declared.view.TaskView.{TaskView}
use Rattle.board_trace.specs.Runs.{Line}
use Rattle.board_trace.specs.Subjects.{subject_of}
use Rattle.board_trace.specs.declared.who.Subject.{Subject}
use Rattle.board_trace.specs.declared.who.Subject.TheVariants as subjects
use Rattle.trace_summary.specs.Adding.{added, are_distinct, none, plus, tally_id, with_opening, with_task}
use Rattle.trace_summary.specs.Summaries.{Known, tally_of_task, tasks_in, with_known, with_subject, with_views}
use Rattle.trace_summary.specs.declared.counts.TaskCounts.{TaskCounts}
use Rattle.trace_summary.specs.declared.tally.TaskTally.{TaskTally}
use Rattle.trace_summary.proofs.Noting.{row_among}
use Rattle.trace_summary.proofs.Tasks.{is_among}

-- ---- tests
not_is : (b : Bool) → not b ≡ true → b ≡ false
not_is true e = absurd (cc)
not_is false e = refl

both : (a b : Bool) → (a && b) ≡ true → (a ≡ true) × (b ≡ true)
both true b e = (refl, e)
both false b e = absurd (cc)

turned : (m n : ℕ) → (m == n) ≡ false → (n == m) ≡ false
turned m n e = ne_eqb n m (λ same. eqb-false m n e (sym same))

-- ---- the tasks of a run
abbrev pub are_known : List Known → Bool
are_known [] = true
are_known (t ∷ ts) = not (is_among t.id ts) && are_known ts

among_end : (id : ℕ) (ts : List Known) (k : Known) → is_among id ts ≡ false → (k.id == id) ≡ false → is_among id (ts ++ k ∷ []) ≡ false
among_end id [] k e other = ap (λ b. b || false) other
among_end id (t ∷ ts) k e other =
    let p = or_parts (t.id == id) (is_among id ts) e in
    ap₂ (λ a b. a || b) p.0 (among_end id ts k p.1 other)

-- a task with another id
end_known : (ts : List Known) (k : Known) → are_known ts ≡ true → is_among k.id ts ≡ false → are_known (ts ++ k ∷ []) ≡ true
end_known [] k e gone = refl
end_known (t ∷ ts) k e gone =
    let p = both (not (is_among t.id ts)) (are_known ts) e in
    let q = or_parts (t.id == k.id) (is_among k.id ts) gone in
    ap₂ (λ a b. not a && b) (among_end t.id ts k (not_is (is_among t.id ts) p.0) (turned t.id k.id q.0)) (end_known ts k p.1 q.1)

known_by : (b : Bool) (id : ℕ) (name : List ℕ) (ts : List Known) → is_among id ts ≡ b → are_known ts ≡ true → are_known (if b then ts else ts ++ record { id = id; name = name } ∷ []) ≡ true
known_by true id name ts is e = e
known_by false id name ts is e = end_known ts (record { id = id; name = name }) e is

known_with : (id : ℕ) (name : List ℕ) (ts : List Known) → are_known ts ≡ true → are_known (with_known id name ts) ≡ true
known_with id name ts e = known_by (is_among id ts) id name ts refl e

known_subject : (who : Subject) (name : List ℕ) (ts : List Known) → are_known ts ≡ true → are_known (with_subject who name ts) ≡ true
known_subject (subjects.Task id) name ts e = known_with id name ts e
known_subject subjects.Board name ts e = e
known_subject subjects.Interrupt name ts e = e

known_views : (vs : List TaskView) (ts : List Known) → are_known ts ≡ true → are_known (with_views vs ts) ≡ true
known_views [] ts e = e
known_views (v ∷ vs) ts e = known_views vs (with_known v.id v.name ts) (known_with v.id v.name ts e)

pub known_in : (views : List TaskView) (lines : List Line) → are_known (tasks_in views lines) ≡ true
known_in views [] = known_views views [] refl
known_in views (l ∷ older) = known_subject (subject_of l.what) l.name (tasks_in views older) (known_in views older)

rows_known : (lines : List Line) (ts : List Known) → are_distinct (map (tally_of_task lines) ts) ≡ are_known ts
rows_known lines [] = refl
rows_known lines (t ∷ ts) = ap₂ (λ a b. not a && b) (row_among lines t.id ts) (rows_known lines ts)

pub rows_distinct : (views : List TaskView) (lines : List Line) → are_distinct (map (tally_of_task lines) (tasks_in views lines)) ≡ true
rows_distinct views lines = rows_known lines (tasks_in views lines) ∙ known_in views lines

-- ---- one place
abbrev has_row : ℕ → List TaskTally → Bool
has_row id ts = list_any (λ t. t.id == id) ts

others_same : (id : ℕ) (more : TaskCounts) (ts : List TaskTally) → has_row id ts ≡ false → map (added id more) ts ≡ ts
others_same id more [] e = refl
others_same id more (t ∷ ts) e =
    let p = or_parts (t.id == id) (has_row id ts) e in
    ap₂ (λ r rs. r ∷ rs) (ap (λ b. if b then record t { counts = plus t.counts more } else t) (turned t.id id p.0)) (others_same id more ts p.1)

at_row : (id : ℕ) (t : TaskTally) (ts : List TaskTally) (i : ℕ) → i < length ts → get_or ts i t ≡ t → t.id ≡ id → has_row id ts ≡ true
at_row id t [] i below at is = absurd (omega (arith, below))
at_row id t (x ∷ xs) zero below at is = or_left (x.id == id) (has_row id xs) (eq-eqb x.id id (ap tally_id at ∙ is))
at_row id t (x ∷ xs) (suc i) below at is = or_right (x.id == id) (has_row id xs) (at_row id t xs i (omega (arith, below)) at is)

differs : (b : Bool) (id who : ℕ) (ts : List TaskTally) → (id == who) ≡ b → has_row who ts ≡ false → has_row id ts ≡ true → (id == who) ≡ false
differs false id who ts is gone here = is
differs true id who ts is gone here =
    let bad : true ≡ false = sym here ∙ ap (λ n. has_row n ts) (eqb-true id who is) ∙ gone in
    absurd (cc)

placed_in : (id : ℕ) (more : TaskCounts) (t : TaskTally) (ts : List TaskTally) (i : ℕ) → are_distinct ts ≡ true → i < length ts → get_or ts i t ≡ t → t.id ≡ id → set ts i (added id more t) ≡ map (added id more) ts
placed_in id more t [] i e below at is = absurd (omega (arith, below))
placed_in id more t (x ∷ xs) zero e below at is =
    let p = both (not (has_row x.id xs)) (are_distinct xs) e in
    let gone : has_row id xs ≡ false = ap (λ n. has_row n xs) (sym (ap tally_id at ∙ is)) ∙ not_is (has_row x.id xs) p.0 in
    ap₂ (λ r rs. r ∷ rs) (ap (added id more) (sym at)) (sym (others_same id more xs gone))
placed_in id more t (x ∷ xs) (suc i) e below at is =
    let p = both (not (has_row x.id xs)) (are_distinct xs) e in
    let inside : i < length xs = omega (arith, below) in
    let other = differs (id == x.id) id x.id xs refl (not_is (has_row x.id xs) p.0) (at_row id t xs i inside at is) in
    ap₂ (λ r rs. r ∷ rs) (sym (ap (λ b. if b then record x { counts = plus x.counts more } else x) other)) (placed_in id more t xs i p.1 inside at is)

-- the numbers are added at the task's place
pub placed : (id : ℕ) (name : List ℕ) (more : TaskCounts) (t : TaskTally) (ts : List TaskTally) (i : ℕ) → StandsAt tally_id ts id i → t ≡ get_or ts i t → are_distinct ts ≡ true
    → set ts i (added id more t) ≡ map (added id more) (with_task id name ts)
placed id name more t ts i stands at e =
    let is : t.id ≡ id = ap tally_id at ∙ stands.same t in
    placed_in id more t ts i e stands.within (sym at) is
    ∙ ap (λ b. map (added id more) (if b then ts else ts ++ record { id = id; name = name; counts = none } ∷ [])) (sym (at_row id t ts i stands.within (sym at) is))

-- ---- the tasks that live at the start
pub one_opened : (vs : List TaskView) (i : ℕ) (v : TaskView) (ts : List TaskTally) → i < length vs → v ≡ get_or vs i v → with_opening (drop i vs) ts ≡ with_opening (drop (i + 1) vs) (with_task v.id v.name ts)
one_opened vs i v ts below at =
    ap (λ l. with_opening l ts) (drop-cons vs i v below)
    ∙ ap (λ x. with_opening (x ∷ drop (suc i) vs) ts) (sym at)
    ∙ ap (λ n. with_opening (drop n vs) (with_task v.id v.name ts)) (sym (add-one i))

abbrev rows : List Known → List TaskTally
rows ts = map (tally_of_task []) ts

open_by : (b : Bool) (id : ℕ) (name : List ℕ) (ts : List Known) → (if b then rows ts else rows ts ++ record { id = id; name = name; counts = none } ∷ []) ≡ rows (if b then ts else ts ++ record { id = id; name = name } ∷ [])
open_by true id name ts = refl
open_by false id name ts = sym (map-append (tally_of_task []) ts (record { id = id; name = name } ∷ []))

opened_one : (id : ℕ) (name : List ℕ) (ts : List Known) → with_task id name (rows ts) ≡ rows (with_known id name ts)
opened_one id name ts =
    ap (λ b. if b then rows ts else rows ts ++ record { id = id; name = name; counts = none } ∷ []) (row_among [] id ts) ∙ open_by (is_among id ts) id name ts

opened_from : (vs : List TaskView) (ts : List Known) → with_opening vs (rows ts) ≡ rows (with_views vs ts)
opened_from [] ts = refl
opened_from (v ∷ vs) ts = ap (with_opening vs) (opened_one v.id v.name ts) ∙ opened_from vs (with_known v.id v.name ts)

-- no line was counted yet
pub opened : (vs : List TaskView) → with_opening vs [] ≡ map (tally_of_task []) (tasks_in vs [])
opened vs = opened_from vs []
