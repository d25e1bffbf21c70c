-- The tasks that live in a run have rows in its summary.
use Rattle.std.proofs.Common.{◌≡◌, ℕ, zero, suc, ◌+◌, Bool, true, false, if◌then◌else◌, List, [], ◌∷◌, ◌++◌, map, None, Some, refl, ap, ◌∙◌, arith}
use Rattle.std.specs.Prelude.{◌||◌, ◌==◌, not}
use Rattle.std.specs.List.{list_any}
use Rattle.std.proofs.lemmas.Bool.{eqb-true, or_left, or_parts, or_right}
use Rattle.wind_machine.specs.LiveLoadingSaid.{FileSaid}
use Rattle.wind_machine.specs.Replies.{step_reply}
use Rattle.wind_machine.specs.Run.{Answers, after}
use Rattle.wind_machine.specs.State.{State}
use Rattle.board_changes.specs.Tasks.{changes_of, deletions, found, kept_changes, live_changes, newborn, task_changes}
use Rattle.board_changes.specs.declared.change.Change.{Change}
use Rattle.board_changes.specs.declared.view.TaskView.{TaskView}
use Rattle.board_trace.specs.Before.{before_step}
use Rattle.board_trace.specs.Messages.{messages}
use Rattle.board_trace.specs.Outside.{is_hearing, switches}
use Rattle.board_trace.specs.Owners.{owners}
use Rattle.board_trace.specs.Runs.{Line, line_in, lines_of, step_lines, with_line, with_lines}
use Rattle.board_trace.specs.Snapshots.{after_step, snapshot_of}
use Rattle.board_trace.specs.Steps.{causes, changes as step_changes, effects, happenings, happenings_from, instruction_of, is_instruction, step_happenings}
use Rattle.board_trace.specs.Subjects.{subject_change, subject_of}
use Rattle.board_trace.specs.Views.{SnapshotState}
use Rattle.board_trace.specs.declared.happening.Happening.{Happening}
use Rattle.board_trace.specs.declared.happening.Happening.TheVariants as told
use Rattle.board_trace.specs.declared.moment.AfterStep.{AfterStep}
use Rattle.board_trace.specs.declared.moment.BeforeStep.{BeforeStep}
use Rattle.trace_summary.specs.Figures.{is_task}
use Rattle.trace_summary.specs.TasksLaws.{is_told, is_viewed}
use Rattle.trace_summary.proofs.Tasks.{told_line}

-- ---- lists
by_first : (a b c : Bool) → (b ≡ true → c ≡ true) → (a || b) ≡ true → (a || c) ≡ true
by_first true b c more e = refl
by_first false b c more e = more e

module _ {X : Type 0} (p : X → Bool) where
  pub any_left : (xs ys : List X) → list_any p xs ≡ true → list_any p (xs ++ ys) ≡ true
  any_left [] ys e = absurd (cc)
  any_left (x ∷ xs) ys e = by_first (p x) (list_any p xs) (list_any p (xs ++ ys)) (any_left xs ys) e

  pub any_right : (xs ys : List X) → list_any p ys ≡ true → list_any p (xs ++ ys) ≡ true
  any_right [] ys e = e
  any_right (x ∷ xs) ys e = or_right (p x) (list_any p (xs ++ ys)) (any_right xs ys e)

-- ---- lines
or_front : (a b c : Bool) → (a || (b || c)) ≡ ((b || a) || c)
or_front true true c = refl
or_front true false c = refl
or_front false true c = refl
or_front false false c = refl

told_with : (id : ℕ) (ls made : List Line) → is_told id (with_lines ls made) ≡ (is_told id ls || is_told id made)
told_with id [] made = refl
told_with id (l ∷ ls) made =
    told_with id ls (with_line l made)
    ∙ ap (λ b. is_told id ls || b) (told_line id l made)
    ∙ or_front (is_told id ls) (is_task id (subject_of l.what)) (is_told id made)

-- what is told stays told
told_next : (said : Answers) (s : State) (id j : ℕ) → is_told id (lines_of said s j) ≡ true → is_told id (lines_of said s (suc j)) ≡ true
told_next said s id j e =
    let ls = step_lines (said j) (after said s j) (after said s (suc j)) in
    told_with id ls (lines_of said s j) ∙ or_right (is_told id ls) (is_told id (lines_of said s j)) e

pub told_on : (said : Answers) (s : State) (id j n : ℕ) → is_told id (lines_of said s j) ≡ true → is_told id (lines_of said s (j + n)) ≡ true
told_on said s id j zero e = let end : j + 0 ≡ j = omega arith in ap (λ i. is_told id (lines_of said s i)) end ∙ e
told_on said s id j (suc n) e =
    let end : j + suc n ≡ suc (j + n) = omega arith in
    ap (λ i. is_told id (lines_of said s i)) end ∙ told_next said s id (j + n) (told_on said s id j n e)

-- ---- a step
abbrev tells_of : ℕ → Happening → Bool
tells_of id h = is_task id (subject_of h)

abbrev changes_task : ℕ → Change → Bool
changes_task id c = is_task id (subject_change c)

lines_tell : (id : ℕ) (s t : State) (hs : List Happening) → is_told id (map (line_in s t) hs) ≡ list_any (tells_of id) hs
lines_tell id s t [] = refl
lines_tell id s t (h ∷ hs) = ap (λ b. tells_of id h || b) (lines_tell id s t hs)

changes_tell : (id : ℕ) (cs : List Change) → list_any (tells_of id) (map told.Changed cs) ≡ list_any (changes_task id) cs
changes_tell id [] = refl
changes_tell id (c ∷ cs) = ap (λ b. changes_task id c || b) (changes_tell id cs)

none_found : (id : ℕ) (views : List TaskView) → is_viewed id views ≡ false → found views id ≡ None
none_found id [] e = refl
none_found id (v ∷ vs) e =
    let p = or_parts (v.id == id) (is_viewed id vs) e in
    ap (λ b. if b then Some v else found vs id) p.0 ∙ none_found id vs p.1

-- a task that is new is spawned
new_task : (b : Bool) (results : Bool) (id : ℕ) (before : List TaskView) (t : TaskView) (ts : List TaskView) → (t.id == id) ≡ b → is_viewed id before ≡ false
    → (is_viewed id ts ≡ true → list_any (changes_task id) (live_changes results before ts) ≡ true) → (b || is_viewed id ts) ≡ true
    → list_any (changes_task id) (live_changes results before (t ∷ ts)) ≡ true
new_task false results id before t ts is gone others e =
    any_right (changes_task id) (changes_of results (found before t.id) t) (live_changes results before ts) (others e)
new_task true results id before t ts is gone others e =
    let none : found before t.id ≡ None = ap (found before) (eqb-true t.id id is) ∙ none_found id before gone in
    ap (λ o. list_any (changes_task id) (changes_of results o t ++ live_changes results before ts)) none
    ∙ or_left (t.id == id) (list_any (changes_task id) (kept_changes results (newborn t) t ++ live_changes results before ts)) is

spawned : (results : Bool) (id : ℕ) (before after : List TaskView) → is_viewed id before ≡ false → is_viewed id after ≡ true → list_any (changes_task id) (live_changes results before after) ≡ true
spawned results id before [] gone e = absurd (cc)
spawned results id before (t ∷ ts) gone e = new_task (t.id == id) results id before t ts refl gone (spawned results id before ts gone) e

-- so a line of the step tells of it, unless the step is one instruction
module _ (id : ℕ) (b : BeforeStep) (before after : SnapshotState) (r : AfterStep) (written : List ℕ) where
  told_in : is_viewed id before.tasks ≡ false → is_viewed id after.tasks ≡ true → list_any (tells_of id) (step_happenings b before after r written) ≡ true
  told_in gone here =
      let cs = step_changes b.next r.tick before after in
      let results = not (is_hearing b.next) in
      any_right (tells_of id) (causes b before after r written) (effects b before after r written)
      (any_right (tells_of id) (owners b r) _
      (any_right (tells_of id) (messages b r.reply cs) _
      (any_left (tells_of id) (map told.Changed cs) _
      (changes_tell id cs
      ∙ any_left (changes_task id) (task_changes results before.tasks after.tasks) _
      (any_left (changes_task id) (live_changes results before.tasks after.tasks) (deletions after.tasks before.tasks)
      (spawned results id before.tasks after.tasks gone here))))))

  told_from : is_instruction b written ≡ false → is_viewed id before.tasks ≡ false → is_viewed id after.tasks ≡ true → list_any (tells_of id) (happenings_from b before after r written) ≡ true
  told_from other gone here =
      ap (λ one. list_any (tells_of id) (if one then switches before.last after.last ++ instruction_of b.actor else step_happenings b before after r written)) other
      ∙ told_in gone here

happening_told : (id : ℕ) (said : FileSaid) (s t : State) → is_instruction (before_step s) t.world.output ≡ false → is_viewed id (snapshot_of s.world).tasks ≡ false → is_viewed id (snapshot_of t.world).tasks ≡ true
    → list_any (tells_of id) (happenings said s t) ≡ true
unfolding happenings
happening_told id said s t other gone here =
    told_from id (before_step s) (snapshot_of s.world) (snapshot_of t.world) (after_step (before_step s) (step_reply said s) t) t.world.output other gone here

-- the lines of a run tell of it then
pub told_then : (said : Answers) (s : State) (id j : ℕ) → is_instruction (before_step (after said s j)) (after said s (suc j)).world.output ≡ false
    → is_viewed id (snapshot_of (after said s j).world).tasks ≡ false → is_viewed id (snapshot_of (after said s (suc j)).world).tasks ≡ true
    → is_told id (lines_of said s (suc j)) ≡ true
told_then said s id j other gone here =
    let u = after said s j in
    let t = after said s (suc j) in
    let ls = step_lines (said j) u t in
    told_with id ls (lines_of said s j)
    ∙ or_left (is_told id ls) (is_told id (lines_of said s j)) (lines_tell id u t (happenings (said j) u t) ∙ happening_told id (said j) u t other gone here)
