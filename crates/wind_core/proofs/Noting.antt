-- What is noted of all tasks, as one task is written, added or removed.
use Rattle.std.proofs.Common.{◌≡◌, ℕ, ◌+◌, Bool, true, false, not, cond, eqb, leb, List, [], ◌∷◌, Some, refl, sym, ap, ◌∙◌, subst}
use Rattle.std.specs.Prelude.{◌&&◌}
use Rattle.std.proofs.lemmas.Bool.{eqb-true, and_parts}
use Rattle.std.proofs.lemmas.List.{map-append}
use Rattle.std.proofs.lemmas.List.Elements.{All-contains, All-filter, All-push, All-weaker}
use Rattle.id_table.specs.Rows.{Rows, object_of, objects, row_object, with_object, added}
use Rattle.id_table.specs.Rows as table
use Rattle.id_table.proofs.Owning.{objects-replace, objects-without}
use Rattle.id_table.proofs.Records.{All-replace, found_at}
use Rattle.task_block.specs.declared.task.Task.{Task}
use Rattle.task_block.specs.declared.task.NewTask.{NewTask}
use Rattle.task_block.specs.Standing.{is_ready}
use Rattle.wind_core.specs.State.{task_id}
use Rattle.wind_core.specs.Moves.{new_task, renewed, settled, delayed}
use Rattle.wind_core.specs.Tick.{slice_counted}
use Rattle.wind_core.specs.Notes.{AllNormal, NoneHolds, IsNoted, AreNoted, marks}
use Rattle.wind_core.specs.declared.kern.Kern.TheInside.{Inside}
use Rattle.wind_core.proofs.Writes.{Kept, found}

-- ---- the fields that the notes are about
pub marks_settled : (n : ℕ) (u : Task) → marks (settled n u) ≡ marks u
marks_settled n u = elim (is_ready u) as (λ b. marks (cond b (renewed n u) u) ≡ marks u) [ true ↦ refl | false ↦ refl ]

pub marks_delayed : (tick n : ℕ) (t : Task) → marks (delayed tick n t) ≡ marks t
marks_delayed tick n t = elim (eqb n 0) as (λ b. marks (cond b t (record t { wake = Some (tick + n); turns = 0 })) ≡ marks t) [ true ↦ refl | false ↦ refl ]

pub marks_counted : (slice n : ℕ) (t : Task) → marks (slice_counted slice n t) ≡ marks t
marks_counted slice n t =
    elim (leb slice (t.turns + 1)) as (λ b. marks (cond b (renewed n (record t { turns = 0 })) (record t { turns = t.turns + 1 })) ≡ marks t) [ true ↦ refl | false ↦ refl ]

-- a task with the same of these fields
pub noted_alike : (normal held : Bool) (x y : Task) → marks y ≡ marks x → IsNoted normal held x → IsNoted normal held y
noted_alike normal held x y same is = record {
  normal = λ e. ap (λ m. m.0) same ∙ is.normal e ∙ sym (ap (λ m. m.1) same);
  held = λ e. ap (λ m. m.2) same ∙ is.held e;
}

-- ---- a task is written
pub noted_write : (k : Inside) (normal held normal2 held2 : Bool) (who : ℕ) (x y : Task) → Kept k → object_of k.tasks.rows who ≡ Some x → AreNoted normal held (objects k.tasks.rows)
    → ((t : Task) → IsNoted normal held t → IsNoted normal2 held2 t) → (IsNoted normal held x → IsNoted normal2 held2 y)
    → AreNoted normal2 held2 (objects (with_object k.tasks.rows who y))
noted_write k normal held normal2 held2 who x y kept value all less here =
    let ts : List Task = objects k.tasks.rows in
    let there = found_at task_id ts who x (found k who x kept value) in
    subst (AreNoted normal2 held2) (sym (objects-replace task_id k.tasks.rows who y kept.1))
    (All-replace task_id (IsNoted normal2 held2) ts who y
    (All-weaker (IsNoted normal held) (IsNoted normal2 held2) less ts all)
    (here (All-contains (IsNoted normal held) ts x all there)))

-- the notes stay
pub noted_same : (k : Inside) (normal held : Bool) (who : ℕ) (x y : Task) → Kept k → object_of k.tasks.rows who ≡ Some x → AreNoted normal held (objects k.tasks.rows) → marks y ≡ marks x
    → AreNoted normal held (objects (with_object k.tasks.rows who y))
noted_same k normal held who x y kept value all same = noted_write k normal held normal held who x y kept value all (λ t is. is) (noted_alike normal held x y same)

-- the task was tested
pub noted_tested : (k : Inside) (normal held normal2 held2 : Bool) (who : ℕ) (x y : Task) → Kept k → object_of k.tasks.rows who ≡ Some x → AreNoted normal held (objects k.tasks.rows)
    → normal2 ≡ (normal && eqb y.pri y.normal) → held2 ≡ (held && eqb y.held 0) → AreNoted normal2 held2 (objects (with_object k.tasks.rows who y))
noted_tested k normal held normal2 held2 who x y kept value all test_normal test_held =
    let one : normal2 ≡ true → (normal ≡ true) × (eqb y.pri y.normal ≡ true) = λ e. and_parts normal (eqb y.pri y.normal) (sym test_normal ∙ e) in
    let two : held2 ≡ true → (held ≡ true) × (eqb y.held 0 ≡ true) = λ e. and_parts held (eqb y.held 0) (sym test_held ∙ e) in
    noted_write k normal held normal2 held2 who x y kept value all
    (λ t is. record { normal = λ e. is.normal (one e).0; held = λ e. is.held (two e).0 })
    (λ is. record { normal = λ e. eqb-true y.pri y.normal (one e).1; held = λ e. eqb-true y.held 0 (two e).1 })

-- its priority was tested, and it owns as many mutexes as before
pub noted_repried : (k : Inside) (normal held normal2 : Bool) (who : ℕ) (x y : Task) → Kept k → object_of k.tasks.rows who ≡ Some x → AreNoted normal held (objects k.tasks.rows)
    → normal2 ≡ (normal && eqb y.pri y.normal) → y.held ≡ x.held → AreNoted normal2 held (objects (with_object k.tasks.rows who y))
noted_repried k normal held normal2 who x y kept value all test_normal same =
    let one : normal2 ≡ true → (normal ≡ true) × (eqb y.pri y.normal ≡ true) = λ e. and_parts normal (eqb y.pri y.normal) (sym test_normal ∙ e) in
    noted_write k normal held normal2 held who x y kept value all
    (λ t is. record { normal = λ e. is.normal (one e).0; held = is.held })
    (λ is. record { normal = λ e. eqb-true y.pri y.normal (one e).1; held = λ e. same ∙ is.held e })

-- ---- a task is removed or made
pub noted_removed : (k : Inside) (normal held : Bool) (who : ℕ) → Kept k → AreNoted normal held (objects k.tasks.rows) → AreNoted normal held (objects (table.without k.tasks.rows who))
noted_removed k normal held who kept all =
    subst (AreNoted normal held) (sym (objects-without task_id k.tasks.rows who kept.1)) (All-filter (λ t. not (eqb t.id who)) (IsNoted normal held) (objects k.tasks.rows) all)

pub noted_made : (k : Inside) (normal held : Bool) (tasks : Rows Task) (n : NewTask) (t : Task) (i j since : ℕ) → AreNoted normal held (objects k.tasks.rows) → t ≡ new_task i since n → tasks ≡ added k.tasks j t
    → AreNoted normal held (objects tasks.rows)
noted_made k normal held tasks n t i j since all made rows =
    let fresh : IsNoted normal held t = subst (IsNoted normal held) (sym made) (record { normal = λ e. refl; held = λ e. refl }) in
    subst (λ (u : Rows Task). AreNoted normal held (objects u.rows)) (sym rows)
    (subst (AreNoted normal held) (sym (map-append row_object k.tasks.rows ((j, t) ∷ []))) (All-push (IsNoted normal held) (objects k.tasks.rows) t all fresh))

-- ---- the notes themselves
pub all_normal : (held : Bool) (ts : List Task) → AreNoted true held ts → AllNormal ts
all_normal held ts all = All-weaker (IsNoted true held) (λ t. t.pri ≡ t.normal) (λ t is. is.normal refl) ts all

pub none_holds : (normal : Bool) (ts : List Task) → AreNoted normal true ts → NoneHolds ts
none_holds normal ts all = All-weaker (IsNoted normal true) (λ t. t.held ≡ 0) (λ t is. is.held refl) ts all

pub note_normal : (normal held : Bool) (ts : List Task) → AreNoted normal held ts → AllNormal ts → AreNoted true held ts
note_normal normal held ts all are k d h = record { normal = λ e. are k d h; held = (all k d h).held }

pub note_held : (normal held : Bool) (ts : List Task) → AreNoted normal held ts → NoneHolds ts → AreNoted normal true ts
note_held normal held ts all are k d h = record { normal = (all k d h).normal; held = λ e. are k d h }
