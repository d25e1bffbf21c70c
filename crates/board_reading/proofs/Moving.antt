-- The view of a task whose registers have changed.
use Rattle.std.proofs.Common.{◌≡◌, ℕ, zero, suc, ◌<◌, true, false, cond, eqb, List, [], ◌∷◌, length, map, get_or, None, Some, refl, sym, ap, subst, ◌∙◌, arith}
use Rattle.std.specs.Prelude.{slice_set}
use Rattle.std.specs.List.{position}
use Rattle.std.specs.Option.{MatchOption}
use Rattle.std.proofs.lemmas.List.{get_or-map, length-map}
use Rattle.std.proofs.lemmas.Bool.{eq-eqb, ne_eqb}
use Rattle.id_table.specs.Records.{of_id, change, Rising, StandsAt}
use Rattle.id_table.proofs.Places.{above_none, not_there, place_found}
use Rattle.id_table.proofs.Records.{rising_head, rising_tail}
use Rattle.task_block.specs.declared.task.Task.{Task}
use Rattle.wind_base.specs.declared.regs.Regs.{Regs}
use Rattle.id_table.specs.Rows.{ids}
use Rattle.wind_core.specs.State.{IsKern, KernState, task_id, task_of}
use Rattle.wind_core.specs.Moves.{set_regs}
use Rattle.board_changes.specs.Views.{view_of_watchdog}
use Rattle.kernel_world.specs.State.{WorldState}
use Rattle.board_changes.specs.declared.view.TaskView.{TaskView}
use Rattle.board_trace.specs.Snapshots.{snapshot_of, view_in}
use Rattle.board_trace.specs.Views.{SnapshotState}
use Rattle.board_reading.specs.Moved.{IsMoved}

-- views of tasks, which keep their ids
module _ (view : Task → TaskView) (keeps : (t : Task) → (view t).id ≡ t.id) (who : ℕ) (regs : Regs) where
  abbrev with_regs : Task → Task
  with_regs t = record t { regs = regs }

  abbrev changed : List Task → List Task
  changed ts = change task_id ts who with_regs

  -- if no task has the id after the change, none had it before
  none_changed : (ts : List Task) → of_id task_id (changed ts) who ≡ None → changed ts ≡ ts
  none_changed [] e = refl
  none_changed (t ∷ ts) e =
      elim (eqb t.id who) as (λ b. eqb t.id who ≡ b → of_id task_id (cond b (with_regs t) t ∷ changed ts) who ≡ None → cond b (with_regs t) t ∷ changed ts ≡ t ∷ ts) [
        | true ↦ λ b q. absurd (let found : of_id task_id (with_regs t ∷ changed ts) who ≡ Some (with_regs t) = ap (λ c. cond c (Some (with_regs t)) (of_id task_id (changed ts) who)) b in cc)
        | false ↦ λ b q. ap (λ us. t ∷ us) (none_changed ts (sym (ap (λ c. cond c (Some t) (of_id task_id (changed ts) who)) b) ∙ q))
      ] refl e

  abbrev view_id : TaskView → ℕ
  view_id v = v.id

  -- if no view has the id, no task has it
  no_view : (ts : List Task) → of_id view_id (map view ts) who ≡ None → of_id task_id ts who ≡ None
  no_view [] e = refl
  no_view (t ∷ ts) e =
      elim (eqb t.id who) as (λ b. eqb t.id who ≡ b → cond b (Some t) (of_id task_id ts who) ≡ None) [
        | true ↦ λ b. absurd (
            let there : of_id view_id (map view (t ∷ ts)) who ≡ Some (view t) = ap (λ n. cond (eqb n who) (Some (view t)) (of_id view_id (map view ts) who)) (keeps t) ∙ ap (λ c. cond c (Some (view t)) (of_id view_id (map view ts) who)) b in
            cc)
        | false ↦ λ b. no_view ts (sym (ap (λ n. cond (eqb n who) (Some (view t)) (of_id view_id (map view ts) who)) (keeps t) ∙ ap (λ c. cond c (Some (view t)) (of_id view_id (map view ts) who)) b) ∙ e)
      ] refl

  -- a task stands where its view does
  task_there : (ts : List Task) (place : ℕ) → StandsAt view_id (map view ts) who place → StandsAt task_id ts who place
  task_there ts place at = record {
    within = omega (arith, at.within, length-map ts view);
    same = λ d.
        let less : place < length ts = omega (arith, at.within, length-map ts view) in
        sym (keeps (get_or ts place d)) ∙ sym (ap view_id (get_or-map view ts place d (view d) less)) ∙ at.same (view d);
  }

  -- taking the task's view again gives the views as they are now
  put_there : (ts : List Task) (place : ℕ) (now : Task) → Rising task_id ts → StandsAt task_id ts who place → of_id task_id (changed ts) who ≡ Some now
      → slice_set (map view ts) place (view now) ≡ map view (changed ts)
  put_there [] place now up at is = absurd (omega (arith, at.within))
  put_there (t ∷ ts) zero now up at is =
      let here : t.id ≡ who = at.same t in
      let b = eq-eqb t.id who here in
      let none = not_there task_id ts who with_regs (above_none task_id ts who (λ k d hk. let above = rising_head task_id t ts up k d hk in omega arith)) in
      let first : of_id task_id (cond (eqb t.id who) (with_regs t) t ∷ changed ts) who ≡ Some (with_regs t) = ap (λ c. of_id task_id (cond c (with_regs t) t ∷ changed ts) who) b ∙ ap (λ c. cond c (Some (with_regs t)) (of_id task_id (changed ts) who)) b in
      let same : now ≡ with_regs t = cc in
      ap (λ u. view u ∷ map view ts) same ∙ ap (λ us. view (with_regs t) ∷ map view us) (sym none) ∙ ap (λ c. view (cond c (with_regs t) t) ∷ map view (changed ts)) (sym b)
  put_there (t ∷ ts) (suc k) now up at is =
      let within : k < length ts = omega (arith, at.within) in
      let here : (get_or ts k t).id ≡ who = at.same t in
      let above : t.id < (get_or ts k t).id = rising_head task_id t ts up k t within in
      let b : eqb t.id who ≡ false = ne_eqb t.id who (λ q. omega arith) in
      let later : of_id task_id (changed ts) who ≡ Some now = sym (ap (λ c. of_id task_id (cond c (with_regs t) t ∷ changed ts) who) b ∙ ap (λ c. cond c (Some t) (of_id task_id (changed ts) who)) b) ∙ is in
      ap (λ us. view t ∷ us) (put_there ts k now (rising_tail task_id t ts up) (record { within = within; same = λ d. at.same d }) later)
      ∙ ap (λ c. view (cond c (with_regs t) t) ∷ map view (changed ts)) (sym b)

  -- the views after a change of registers, with the one at the place taken again
  pub retaken : (ts : List Task) (place : ℕ) (now : Task) → Rising task_id ts → position (λ v. eqb v.id who) (map view ts) ≡ Some place → of_id task_id (changed ts) who ≡ Some now
      → slice_set (map view ts) place (view now) ≡ map view (changed ts)
  retaken ts place now up found is =
      put_there ts place now up (task_there ts place (subst (λ o. MatchOption o (of_id view_id (map view ts) who ≡ None) (StandsAt view_id (map view ts) who)) found (place_found view_id (map view ts) who))) is

  -- if there is none, no view changes
  pub none_there : (ts : List Task) → position (λ v. eqb v.id who) (map view ts) ≡ None → changed ts ≡ ts
  none_there ts found =
      not_there task_id ts who with_regs
      (no_view ts (subst (λ o. MatchOption o (of_id view_id (map view ts) who ≡ None) (StandsAt view_id (map view ts) who)) found (place_found view_id (map view ts) who)))

  pub none_lives : (ts : List Task) → of_id task_id (changed ts) who ≡ None → changed ts ≡ ts
  none_lives = none_changed

-- ---- a snapshot
module _ (w v : WorldState) (who : ℕ) (is : IsKern w.kern) (moved : IsMoved w v who) where
  -- what a snapshot shows after the change
  shown : (tasks : List TaskView) → tasks ≡ map (view_in w.objects) (change task_id w.kern.tasks who (λ t. record t { regs = moved.regs })) → (record (snapshot_of w) { tasks = tasks }) ≡ snapshot_of v
  shown tasks e =
      ap (λ ts. record (snapshot_of w) { tasks = ts }) e
      ∙ sym (
      ap (λ o. record (snapshot_of v) { tasks = map (view_in o) v.kern.tasks }) moved.objects
      ∙ ap (λ (k : KernState). record (snapshot_of v) { tasks = map (view_in w.objects) k.tasks; last = k.last }) moved.kern
      ∙ ap (λ ds. record { tasks = map (view_in w.objects) (set_regs w.kern who moved.regs).tasks; watchdogs = map view_of_watchdog ds; modules = ids v.modules.rows; last = w.kern.last }) moved.watchdogs
      ∙ ap (λ ms. record { tasks = map (view_in w.objects) (set_regs w.kern who moved.regs).tasks; watchdogs = map view_of_watchdog w.watch.watchdogs; modules = ids ms.rows; last = w.kern.last }) moved.modules
      )

  module _ (s : SnapshotState) (same : s ≡ snapshot_of w) where
    -- no task has changed
    kept : change task_id w.kern.tasks who (λ t. record t { regs = moved.regs }) ≡ w.kern.tasks → s ≡ snapshot_of v
    kept e = same ∙ shown (map (view_in w.objects) w.kern.tasks) (ap (map (view_in w.objects)) (sym e))

    -- the task doesn't live
    pub no_task_shown : None ≡ task_of v.kern.tasks who → s ≡ snapshot_of v
    no_task_shown none = kept (none_lives (view_in w.objects) (λ t. refl) who moved.regs w.kern.tasks (ap (λ (k : KernState). task_of k.tasks who) (sym moved.kern) ∙ sym none))

    -- it has no view
    pub no_view_shown : position (λ t. eqb t.id who) s.tasks ≡ None → s ≡ snapshot_of v
    no_view_shown none = kept (none_there (view_in w.objects) (λ t. refl) who moved.regs w.kern.tasks (ap (λ (x : SnapshotState). position (λ t. eqb t.id who) x.tasks) (sym same) ∙ none))

    -- its view was taken again
    pub view_shown : (place : ℕ) (now : Task) (taken : TaskView) → position (λ t. eqb t.id who) s.tasks ≡ Some place → Some now ≡ task_of v.kern.tasks who → taken ≡ view_in v.objects now
        → record s { tasks = slice_set s.tasks place taken } ≡ snapshot_of v
    view_shown place now taken found there is_view =
        ap (λ (x : SnapshotState). record x { tasks = slice_set x.tasks place taken }) same
        ∙ ap (λ t. record (snapshot_of w) { tasks = slice_set (map (view_in w.objects) w.kern.tasks) place t }) (is_view ∙ ap (λ o. view_in o now) moved.objects)
        ∙ shown (slice_set (map (view_in w.objects) w.kern.tasks) place (view_in w.objects now))
        (retaken (view_in w.objects) (λ t. refl) who moved.regs w.kern.tasks place now is.rising (ap (λ (x : SnapshotState). position (λ t. eqb t.id who) x.tasks) (sym same) ∙ found)
        (ap (λ (k : KernState). task_of k.tasks who) (sym moved.kern) ∙ sym there))
