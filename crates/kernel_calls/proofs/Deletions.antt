-- What a call to delete a task keeps.
use Rattle.std.proofs.Common.{◌≡◌, ℕ, ◌+◌, List, refl, sym, ap, ◌∙◌, subst, arith, inl, inr, ⊎_elim}
use Rattle.wind_base.specs.declared.errno.Errno.{Errno}
use Rattle.wind_base.specs.declared.errno.Errno.TheVariants as errors
use Rattle.task_block.specs.declared.task.Task.{Task as TaskRecord}
use Rattle.wind_core.specs.State.{KernState, task_of}
use Rattle.task_safety.specs.Safety.{safe_of}
use Rattle.task_safety.specs.declared.deleting.Deed.{Deed}
use Rattle.task_safety.specs.declared.deleting.Deed.TheVariants.{Refuses, EndsItself, Removes, Awaits}
use Rattle.task_safety.specs.Deletion.{asked, after, deed_of}
use Rattle.task_safety.specs.Laws.{GoesUnsafe}
use Rattle.task_safety.proofs.Targets.{Says, deed_says}
use Rattle.task_safety.proofs.Going.{who_goes}
use Rattle.call_rows.specs.KernelWorldState.{WorldState}
use Rattle.call_rows.specs.KernelWorldObjects.{IsReady, KeepsObjects}
use Rattle.call_rows.specs.SafetyRows.{deletes, back_at_gate, meant, delete_row}
use Rattle.kernel_calls.specs.Calls.{of_deletion}
use Rattle.call_rows.specs.KernelWorldKept.{IsWorld, Within, call_sinces}
use Rattle.kernel_calls.specs.Laws.{Passes}
use Rattle.call_rows.specs.KernelWorldActor.TheVariants.{Task}
use Rattle.call_rows.proofs.KernelWorldGoes.{goes_further}
use Rattle.call_rows.proofs.SafetyGoes.{refuses_goes, awaits_goes, itself_leaves, removed_leaves}
use Rattle.call_rows.proofs.Deleting.{objects-delete_row}
use Rattle.call_rows.proofs.KernelWorldAdvancing.{of_tasks, keeps_more, within_more}
use Rattle.kernel_calls.proofs.Departing.{Departs, parted, departs}
use Rattle.kernel_calls.proofs.Serves.{Serves, served}

-- the shell's task is never deleted: a call to delete it is refused
not_shell : (ts : List TaskRecord) (caller n : ℕ) (d : Deed) → deed_of ts caller n ≡ d → ((e : Errno) → Refuses e ≡ d → ⊥) → n ≡ 1 → ⊥
not_shell ts caller n d is differs shell = differs errors.InvalidOperation (subst (λ m. deed_of ts caller m ≡ d) shell is)

module _ (w : WorldState) (kept : IsWorld w) (n : ℕ) (within : Within n w) (caller : ℕ) where
  -- a task is taken out that was not safe, or is the caller itself, and that is not the shell's
  taking : (v : WorldState) (who : ℕ) → GoesUnsafe w.kern caller v.kern → (who ≡ 1 → ⊥) → Departs w v who (n + 1) 256 → Passes w v (Task caller) (n + 1) call_sinces 1
  taking v who goes other d = record {
    steps = keeps_more w v (n + 1) (n + 1) 256 call_sinces 0 1 (omega arith) (omega arith) (omega arith) d.steps;
    gone = λ id live dead. ⊎_elim
        (λ (z : safe_of (task_of w.kern.tasks id) ≡ 0). inl z)
        (λ (e : id ≡ caller). inr (ap Task (sym e)))
        (goes id live dead);
    shell = λ live. d.lives 1 (λ e. other (sym e)) live;
  }

  more : Within (n + 1) w
  more = within_more w n (n + 1) (omega arith) within

  by_deed : (id : ℕ) (d : Deed) → deed_of w.kern.tasks caller id ≡ d → Says w.kern.tasks caller id d → GoesUnsafe w.kern caller (after w.kern caller d)
      → KeepsObjects w.board (deletes w.board w.kern w.part caller d).kern w.objects → Serves w (Task caller) (of_deletion w (deletes w.board w.kern w.part caller d)) (n + 1)
  by_deed id (Refuses e) is said goes objects =
      let far = goes_further w.kern (asked w.kern caller) n (n + 1) 0 call_sinces (omega arith) (omega arith) (refuses_goes w.kern n kept.kern within.0 caller e) in
      served w (Task caller) (of_deletion w (deletes w.board w.kern w.part caller (Refuses e))) (n + 1) (of_tasks w kept n within (asked w.kern caller) far objects)
  by_deed id (EndsItself count) is said goes objects =
      let j : KernState = after w.kern caller (EndsItself count) in
      let out = departs w j caller (n + 1) 256 kept (itself_leaves w.kern (n + 1) kept.kern more.0 caller count) objects more.1 in
      let other : caller ≡ 1 → ⊥ = λ e. not_shell w.kern.tasks caller id (EndsItself count) is (λ f x. absurd (cc)) (said.0 ∙ e) in
      record { passes = taking (parted w j caller) caller goes other out; acts = λ stays live. absurd (stays refl) }
  by_deed id (Removes who) is said goes objects =
      let j : KernState = after w.kern caller (Removes who) in
      let out = departs w j who (n + 1) 256 kept (removed_leaves w.kern (n + 1) kept.kern more.0 caller who) objects more.1 in
      let other : who ≡ 1 → ⊥ = λ e. not_shell w.kern.tasks caller id (Removes who) is (λ f x. absurd (cc)) (sym said.0 ∙ e) in
      record { passes = taking (parted w j who) who goes other out; acts = λ stays live. out.lives caller (λ e. said.3 (sym e)) live }
  by_deed id (Awaits who) is said goes objects =
      let j : KernState = back_at_gate w.board (after w.kern caller (Awaits who)) caller in
      let far = goes_further w.kern j n (n + 1) 1 call_sinces (omega arith) (omega arith) (awaits_goes w.kern n kept.kern within.0 w.board caller who) in
      served w (Task caller) (of_deletion w (deletes w.board w.kern w.part caller (Awaits who))) (n + 1) (of_tasks w kept n within j far objects)

  pub delete_serves : (id : ℕ) → IsReady w.kern caller → Serves w (Task caller) (of_deletion w (delete_row w.board w.kern w.part (Task caller) id)) (n + 1)
  delete_serves id ready =
      let named : ℕ = meant caller id in
      by_deed named (deed_of w.kern.tasks caller named) refl (deed_says w.kern.tasks caller named) ((who_goes w.kern).deleting caller named)
      (objects-delete_row w.kern w.objects kept.kern kept.objects w.part (Task caller) id ready)
