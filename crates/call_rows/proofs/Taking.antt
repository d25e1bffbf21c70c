-- The stack of a removed task is that of the task as it was.
use Rattle.std.proofs.Common.{◌≡◌, ℕ, true, false, cond, eqb, List, [], ◌∷◌, map, Option, None, Some, Result, Ok, refl, sym, ap, ◌∙◌}
use Rattle.std.specs.Option.{option_map}
use Rattle.wind_base.specs.declared.board_kind.BoardKind.{BoardKind}
use Rattle.wind_base.specs.declared.errno.Errno.{Errno}
use Rattle.wind_base.specs.declared.regs.Regs.{Regs}
use Rattle.mem_partition.specs.State.{PartState, after_free}
use Rattle.mem_partition.specs.declared.block.Class.TheVariants.{Kernel}
use Rattle.task_block.specs.declared.task.Task.{Task}
use Rattle.id_table.proofs.Records.{change_alike}
use Rattle.wind_core.specs.State.{KernState, IsKern, task_id, task_of}
use Rattle.wind_core.specs.Moves.{remove, set_regs}
use Rattle.wind_core.proofs.Ids.{ids, ids-change}
use Rattle.id_table.proofs.Places.{not_there}
use Rattle.wind_core.proofs.Unwritten.{map-change}
use Rattle.task_safety.specs.declared.deleting.Deed.{Deed}
use Rattle.task_safety.specs.declared.deleting.Deed.TheVariants.{Refuses, EndsItself, Removes, Awaits}
use Rattle.task_safety.specs.declared.deleting.Deleted.{Deleted}
use Rattle.task_safety.specs.declared.deleting.Deleted.TheVariants.{Removed, SelfEnded}
use Rattle.task_safety.specs.Deletion.{deed_of, asked, unguarded as unguarded_by, after, delete, answer_of, delete_answer}
use Rattle.task_safety.specs.Safety.{safe_of, lessen}
use Rattle.task_safety.proofs.Targets.{map-lessen, ids-lessen}
use Rattle.kernel_world.specs.Kept.{Stack, stack_of}
use Rattle.kernel_world.specs.State.{WorldState}
use Rattle.kernel_world.specs.Objects.{deletion_gate}
use Rattle.call_rows.specs.Ending.{without_stack, unguarded, ended}
use Rattle.call_rows.specs.SafetyRows.{deletion, at_deletion, back_at_gate, deletes, meant, delete_row}
use Rattle.kernel_world.specs.declared.actor.Actor.{Actor}
use Rattle.kernel_world.specs.declared.actor.Actor.TheVariants.{Task as ATask}
use Rattle.kernel_world.specs.declared.reply.Reply.{Reply}
use Rattle.kernel_world.specs.declared.reply.Reply.TheVariants.{Answer, Gone}

abbrev pub stacks : List Task → List Stack
stacks ts = map stack_of ts

-- tasks with the same ids on the same stacks
pub without_same : (p : PartState) (ts us : List Task) (who : ℕ) → ids ts ≡ ids us → stacks ts ≡ stacks us → without_stack p (task_of ts who) ≡ without_stack p (task_of us who)
without_same p [] [] who i s = refl
without_same p [] (u ∷ us) who i s = absurd (cc)
without_same p (t ∷ ts) [] who i s = absurd (cc)
without_same p (t ∷ ts) (u ∷ us) who i s =
    let same : t.id ≡ u.id = heads t.id u.id (ids ts) (ids us) i in
    ap (λ n. without_stack p (cond (eqb n who) (Some t) (task_of ts who))) same
    ∙ elim (eqb u.id who) as (λ b. without_stack p (cond b (Some t) (task_of ts who)) ≡ without_stack p (cond b (Some u) (task_of us who))) [
      | true ↦ ap (λ (x : Stack). after_free p x.addr Kernel) (heads (stack_of t) (stack_of u) (stacks ts) (stacks us) s)
      | false ↦ without_same p ts us who (tails t.id u.id (ids ts) (ids us) i) (tails (stack_of t) (stack_of u) (stacks ts) (stacks us) s)
    ]
  where
    heads : {X : Type 0} (a b : X) (xs ys : List X) → a ∷ xs ≡ b ∷ ys → a ≡ b
    heads a b xs ys e = cc

    tails : {X : Type 0} (a b : X) (xs ys : List X) → a ∷ xs ≡ b ∷ ys → xs ≡ ys
    tails a b xs ys e = cc

stacks-lessen : (k : KernState) (who n : ℕ) → stacks (lessen k who n).tasks ≡ stacks k.tasks
stacks-lessen = map-lessen stack_of (λ n t. refl) (λ t. refl) (λ n t. refl)

stacks-asked : (k : KernState) (who : ℕ) → stacks (asked k who).tasks ≡ stacks k.tasks
stacks-asked k who = map-change stack_of k.tasks who (λ t. record t { again = false }) (λ t. refl)

ids-asked : (k : KernState) (who : ℕ) → ids (asked k who).tasks ≡ ids k.tasks
ids-asked k who = ids-change k.tasks who (λ t. record t { again = false }) (λ t. refl)

pub stack-lessen : (p : PartState) (k : KernState) (who n : ℕ) → without_stack p (task_of (lessen k who n).tasks who) ≡ without_stack p (task_of k.tasks who)
stack-lessen p k who n = without_same p (lessen k who n).tasks k.tasks who (ids-lessen k who n) (stacks-lessen k who n)

stack-asked : (p : PartState) (k : KernState) (caller who : ℕ) → without_stack p (task_of (asked k caller).tasks who) ≡ without_stack p (task_of k.tasks who)
stack-asked p k caller who = without_same p (asked k caller).tasks k.tasks who (ids-asked k caller) (stacks-asked k caller)

-- ---- the record that a deletion hands on
abbrev handed : (Task → Deleted) → Task → Result Deleted Errno
handed as_deleted t = Ok (as_deleted t)

handed_same : (as_deleted : Task → Deleted) → ((a b : Task) → Some (handed as_deleted a) ≡ Some (handed as_deleted b) → Some a ≡ Some b)
    → (o : Option Task) (t : Task) → option_map (handed as_deleted) o ≡ Some (handed as_deleted t) → o ≡ Some t
handed_same as_deleted one None t e = absurd (cc)
handed_same as_deleted one (Some u) t e = one u t e

handed_removed : (o : Option Task) (t : Task) → option_map (handed Removed) o ≡ Some (handed Removed t) → o ≡ Some t
handed_removed = handed_same Removed (λ a b h. cc)

handed_ended : (o : Option Task) (t : Task) → option_map (handed SelfEnded) o ≡ Some (handed SelfEnded t) → o ≡ Some t
handed_ended = handed_same SelfEnded (λ a b h. cc)

-- an answer of one kind is none of the other
never_removed : (o : Option Task) (t : Task) → option_map (handed SelfEnded) o ≡ Some (handed Removed t) → ⊥
never_removed None t e = cc
never_removed (Some u) t e = cc

never_ended : (o : Option Task) (t : Task) → option_map (handed Removed) o ≡ Some (handed SelfEnded t) → ⊥
never_ended None t e = cc
never_ended (Some u) t e = cc

module _ (board : BoardKind) (k : KernState) (p : PartState) (caller : ℕ) where
  removed_row : (d : Deed) (t : Task) → answer_of k caller d ≡ Some (handed Removed t) → deletion (after k caller d) (without_stack p (Some t)) (Answer 0) ≡ deletes board k p caller d
  removed_row (Refuses e) t h = absurd (cc)
  removed_row (EndsItself n) t h = absurd (never_removed (task_of (unguarded_by k caller n).tasks caller) t h)
  removed_row (Removes who) t h =
      let same : task_of (asked k caller).tasks who ≡ Some t = handed_removed (task_of (asked k caller).tasks who) t h in
      ap (λ q. deletion (after k caller (Removes who)) q (Answer 0)) (ap (without_stack p) (sym same) ∙ stack-asked p k caller who)
  removed_row (Awaits who) t h = absurd (cc)

  ended_row : (d : Deed) (t : Task) → answer_of k caller d ≡ Some (handed SelfEnded t) → deletion (after k caller d) (without_stack p (Some t)) Gone ≡ deletes board k p caller d
  ended_row (Refuses e) t h = absurd (cc)
  ended_row (EndsItself n) t h =
      let same : task_of (unguarded_by k caller n).tasks caller ≡ Some t = handed_ended (task_of (unguarded_by k caller n).tasks caller) t h in
      ap (λ q. deletion (after k caller (EndsItself n)) q Gone)
      (ap (without_stack p) (sym same) ∙ stack-lessen p (asked k caller) caller n ∙ stack-asked p k caller caller)
  ended_row (Removes who) t h = absurd (never_ended (task_of (asked k caller).tasks who) t h)
  ended_row (Awaits who) t h = absurd (cc)

-- ---- the rows of the deletion, and the end of a task
module _ (board : BoardKind) (k j : KernState) (p q : PartState) (who : Actor) (caller id n : ℕ) (t : Task) (own : who ≡ ATask caller) (named : n ≡ meant caller id) (gone : j ≡ delete k caller n) (freed : q ≡ without_stack p (Some t)) where
  row_by : (r : Reply) → deletion (delete k caller n) (without_stack p (Some t)) r ≡ deletes board k p caller (deed_of k.tasks caller n) → deletion j q r ≡ delete_row board k p who id
  row_by r e =
      ap (λ x. deletion x q r) gone ∙ ap (λ x. deletion (delete k caller n) x r) freed ∙ e
      ∙ ap (λ m. deletes board k p caller (deed_of k.tasks caller m)) named ∙ ap (λ a. delete_row board k p a id) (sym own)

  pub removed_is : delete_answer k caller n ≡ Some (handed Removed t) → deletion j q (Answer 0) ≡ delete_row board k p who id
  removed_is answers = row_by (Answer 0) (removed_row board k p caller (deed_of k.tasks caller n) t answers)

  pub ended_is : delete_answer k caller n ≡ Some (handed SelfEnded t) → deletion j q Gone ≡ delete_row board k p who id
  ended_is answers = row_by Gone (ended_row board k p caller (deed_of k.tasks caller n) t answers)

pub end_is : (w : WorldState) (k j : KernState) (p : PartState) (t : Option Task) (who : ℕ) → k ≡ unguarded w.kern who → j ≡ remove k who → t ≡ task_of k.tasks who → p ≡ without_stack w.part t → record w { kern = j; part = p } ≡ ended w who
end_is w k j p t who eased gone found freed =
    let kern : j ≡ remove (unguarded w.kern who) who = gone ∙ ap (λ s. remove s who) eased in
    let part : p ≡ without_stack w.part (task_of w.kern.tasks who) =
    freed ∙ ap (without_stack w.part) (found ∙ ap (λ s. task_of s.tasks who) eased) ∙ stack-lessen w.part w.kern who (safe_of (task_of w.kern.tasks who)) in
    ap (λ s. record w { kern = s; part = p }) kern ∙ ap (λ x. record w { kern = remove (unguarded w.kern who) who; part = x }) part

-- registers at the gate of a deletion put the task back there
pub at_gate : (board : BoardKind) (k : KernState) (who : ℕ) (t : Task) (regs : Regs) → IsKern k → task_of k.tasks who ≡ Some t → regs ≡ record t.regs { pc = deletion_gate board } → set_regs k who regs ≡ back_at_gate board k who
at_gate board k who t regs is found e =
    ap (λ ts. record k { tasks = ts }) (change_alike task_id k.tasks who t (λ u. record u { regs = regs }) (at_deletion board) is.rising found (ap (λ r. record t { regs = r }) e))

pub nobody_at_gate : (board : BoardKind) (k : KernState) (who : ℕ) → task_of k.tasks who ≡ None → k ≡ back_at_gate board k who
nobody_at_gate board k who none = ap (λ ts. record k { tasks = ts }) (sym (not_there task_id k.tasks who (at_deletion board) none))
