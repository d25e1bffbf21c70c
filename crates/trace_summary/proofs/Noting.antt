-- The figures of a run after one more line.
use Rattle.std.proofs.Common.{◌≡◌, ℕ, ◌+◌, ◌-◌, ◌^◌, Bool, true, false, if◌then◌else◌, List, [], ◌∷◌, ◌++◌, map, refl, sym, ap, ap₂, ◌∙◌}
use Rattle.std.specs.Prelude.{min, ◌==◌, ◌||◌}
use Rattle.std.specs.List.{list_any}
use Rattle.std.proofs.lemmas.List.{map-append}
use Rattle.board_changes.specs.declared.view.TaskView.{TaskView}
use Rattle.board_trace.specs.Runs.{Line, with_line}
use Rattle.board_trace.specs.Subjects.{subject_of}
use Rattle.board_trace.specs.declared.happening.Happening.{Happening}
use Rattle.board_trace.specs.declared.who.Subject.{Subject}
use Rattle.board_trace.specs.declared.who.Subject.TheVariants as subjects
use Rattle.trace_summary.specs.Adding.{added, counts_in, none, plus, sum_of, with_counts, with_task}
use Rattle.trace_summary.specs.Figures.{calls_in, counts_of, exceptions_in, is_task, part_of, refusals_in, steps_in, sum_over, switches_in, total}
use Rattle.trace_summary.specs.Noting.{noted}
use Rattle.trace_summary.specs.Summaries.{Known, TallyState, tally_of_task, tally_of, tasks_in, with_known, with_subject}
use Rattle.trace_summary.specs.declared.counts.TaskCounts.{TaskCounts}
use Rattle.trace_summary.specs.declared.tally.TaskTally.{TaskTally}
use Rattle.trace_summary.specs.declared.usage.Usage.{Usage}
use Rattle.trace_summary.proofs.Sums.{calls_add, calls_line, exceptions_add, idle_line, none_more, part_line, refusals_add, steps_add, switches_add, ticks_line}
use Rattle.trace_summary.proofs.Tasks.{is_among, tasks_line, untold}
use Rattle.trace_summary.proofs.Joining.{AddsUp}
use Rattle.trace_summary.proofs.Usages.{usages_line}

-- ---- records
abbrev counts : ℕ → ℕ → ℕ → ℕ → ℕ → TaskCounts
counts a b c d e = record { steps = a; switches = b; calls = c; refusals = d; exceptions = e }

same_counts : (a b c d e v w x y z : ℕ) → a ≡ v → b ≡ w → c ≡ x → d ≡ y → e ≡ z → counts a b c d e ≡ counts v w x y z
same_counts a b c d e v w x y z p q r s t =
    ap (λ n. counts n b c d e) p ∙ ap (λ n. counts v n c d e) q ∙ ap (λ n. counts v w n d e) r ∙ ap (λ n. counts v w x n e) s ∙ ap (λ n. counts v w x y n) t

abbrev tally : ℕ → ℕ → ℕ → List TaskTally → List Usage → TallyState
tally a b c ts vs = record { ticks = a; calls = b; idle = c; tasks = ts; uses = vs }

same_tally : (a b c x y z : ℕ) (ts us : List TaskTally) (vs ws : List Usage) → a ≡ x → b ≡ y → c ≡ z → ts ≡ us → vs ≡ ws → tally a b c ts vs ≡ tally x y z us ws
same_tally a b c x y z ts us vs ws p q r s w =
    ap (λ n. tally n b c ts vs) p ∙ ap (λ n. tally x n c ts vs) q ∙ ap (λ n. tally x y n ts vs) r ∙ ap₂ (tally x y z) s w

-- ---- a task
module _ (lines : List Line) (l : Line) where
  abbrev later : List Line
  later = with_line l lines

  more_of : (id : ℕ) (f : Happening → ℕ) → AddsUp f → is_task id (subject_of l.what) ≡ true → sum_of (total (part_of id f) lines) (f l.what) ≡ total (part_of id f) later
  more_of id f adds is = sym (part_line true id f adds l lines is)

  same_of : (id : ℕ) (f : Happening → ℕ) → AddsUp f → is_task id (subject_of l.what) ≡ false → total (part_of id f) lines ≡ total (part_of id f) later
  same_of id f adds is = sym (part_line false id f adds l lines is ∙ none_more (sum_over (part_of id f) lines) (2 ^ 64 - 1))

  -- a line that tells of it adds to its figures
  counts_more : (id : ℕ) → is_task id (subject_of l.what) ≡ true → plus (counts_of lines id) (counts_in l.what) ≡ counts_of later id
  counts_more id is =
      same_counts _ _ _ _ _ _ _ _ _ _ (more_of id steps_in steps_add is) (more_of id switches_in switches_add is) (more_of id calls_in calls_add is) (more_of id refusals_in refusals_add is) (more_of id exceptions_in exceptions_add is)

  -- another line leaves them
  counts_same : (id : ℕ) → is_task id (subject_of l.what) ≡ false → counts_of lines id ≡ counts_of later id
  counts_same id is =
      same_counts _ _ _ _ _ _ _ _ _ _ (same_of id steps_in steps_add is) (same_of id switches_in switches_add is) (same_of id calls_in calls_add is) (same_of id refusals_in refusals_add is) (same_of id exceptions_in exceptions_add is)

  abbrev row_with : Known → TaskCounts → TaskTally
  row_with t c = record { id = t.id; name = t.name; counts = c }

  task_line : (b : Bool) (t : Known) → is_task t.id (subject_of l.what) ≡ b → (if b then row_with t (plus (counts_of lines t.id) (counts_in l.what)) else tally_of_task lines t) ≡ tally_of_task later t
  task_line true t is = ap (row_with t) (counts_more t.id is)
  task_line false t is = ap (row_with t) (counts_same t.id is)

  -- ---- tasks
  rows_told : (id : ℕ) → subject_of l.what ≡ subjects.Task id → (ts : List Known) → map (added id (counts_in l.what)) (map (tally_of_task lines) ts) ≡ map (tally_of_task later) ts
  rows_told id is [] = refl
  rows_told id is (t ∷ ts) = ap₂ (λ r rs. r ∷ rs) (task_line (id == t.id) t (ap (is_task t.id) is)) (rows_told id is ts)

  rows_same : ((id : ℕ) → is_task id (subject_of l.what) ≡ false) → (ts : List Known) → map (tally_of_task lines) ts ≡ map (tally_of_task later) ts
  rows_same is [] = refl
  rows_same is (t ∷ ts) = ap₂ (λ r rs. r ∷ rs) (task_line false t (is t.id)) (rows_same is ts)

-- a task's row is there as the task is
pub row_among : (lines : List Line) (id : ℕ) (ts : List Known) → list_any (λ t. t.id == id) (map (tally_of_task lines) ts) ≡ is_among id ts
row_among lines id [] = refl
row_among lines id (t ∷ ts) = ap (λ b. (t.id == id) || b) (row_among lines id ts)

module _ (views : List TaskView) (lines : List Line) where
  abbrev known : List Known
  known = tasks_in views lines

  none_of : (id : ℕ) (f : Happening → ℕ) → is_among id known ≡ false → 0 ≡ total (part_of id f) lines
  none_of id f e = sym (ap (λ n. min n (2 ^ 64 - 1)) (untold f id views lines e))

  none_counted : (id : ℕ) → is_among id known ≡ false → none ≡ counts_of lines id
  none_counted id e = same_counts _ _ _ _ _ _ _ _ _ _ (none_of id steps_in e) (none_of id switches_in e) (none_of id calls_in e) (none_of id refusals_in e) (none_of id exceptions_in e)

  abbrev rows : List TaskTally
  rows = map (tally_of_task lines) known

  row_by : (b : Bool) (id : ℕ) (name : List ℕ) → is_among id known ≡ b
      → (if b then rows else rows ++ record { id = id; name = name; counts = none } ∷ []) ≡ map (tally_of_task lines) (if b then known else known ++ record { id = id; name = name } ∷ [])
  row_by true id name is = refl
  row_by false id name is =
      let new : TaskCounts → TaskTally = λ c. record { id = id; name = name; counts = c } in
      ap (λ c. rows ++ new c ∷ []) (none_counted id is) ∙ sym (map-append (tally_of_task lines) known (record { id = id; name = name } ∷ []))

  row_more : (id : ℕ) (name : List ℕ) → with_task id name rows ≡ map (tally_of_task lines) (with_known id name known)
  row_more id name =
      ap (λ b. if b then rows else rows ++ record { id = id; name = name; counts = none } ∷ []) (row_among lines id known) ∙ row_by (is_among id known) id name refl

  rows_noted : (l : Line) (who : Subject) → subject_of l.what ≡ who → with_counts who l.name (counts_in l.what) rows ≡ map (tally_of_task (with_line l lines)) (with_subject who l.name known)
  rows_noted l (subjects.Task id) is = ap (map (added id (counts_in l.what))) (row_more id l.name) ∙ rows_told lines l id is (with_known id l.name known)
  rows_noted l subjects.Board is = rows_same lines l (λ id. ap (is_task id) is) known
  rows_noted l subjects.Interrupt is = rows_same lines l (λ id. ap (is_task id) is) known

-- ---- a line
pub noted_line : (views : List TaskView) (lines : List Line) (l : Line) → noted l.time l.name l.what (tally_of views lines) ≡ tally_of views (with_line l lines)
noted_line views lines l =
    same_tally _ _ _ _ _ _ _ _ _ _ (sym (ticks_line l lines)) (sym (calls_line l lines)) (sym (idle_line l lines))
    (rows_noted views lines l (subject_of l.what) refl ∙ ap (map (tally_of_task (with_line l lines))) (sym (tasks_line views l lines))) (usages_line l lines)
