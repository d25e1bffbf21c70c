-- A caller that has left its gate is put back there.
use Rattle.std.proofs.Common.{◌≡◌, ℕ, Bool, true, false, cond, eqb, List, [], ◌∷◌, Option, None, Some, refl, sym, ap, ◌∙◌}
use Rattle.std.specs.Option.{option_map}
use Rattle.wind_base.specs.declared.regs.Regs.{Regs}
use Rattle.id_table.specs.Records.{change}
use Rattle.id_table.proofs.Records.{change_alike}
use Rattle.task_block.specs.declared.task.Task.{Task as TaskRecord}
use Rattle.wind_core.specs.State.{KernState, IsKern, task_id, task_of}
use Rattle.wind_core.specs.Moves.{change_task, set_regs, past_gate, leave_gate}
use Rattle.call_rows.specs.KernelWorldState.{WorldState}
use Rattle.call_rows.specs.KernelWorldActors.{Acts, is_interrupt}
use Rattle.call_rows.specs.KernelWorldReplies.{left_gate}
use Rattle.call_rows.specs.KernelWorldActor.{Actor}
use Rattle.call_rows.specs.KernelWorldActor.TheVariants.{Task, Interrupt}
use Rattle.kernel_calls.specs.Standing.{counter_in, counter_of, with_counter, task_at, standing_at}

-- ---- other registers of a task are another program counter in them
regs_there : (o : Option TaskRecord) (r : Regs) → option_map (λ t. t.regs) o ≡ Some r → (t : TaskRecord) × (o ≡ Some t) × (t.regs ≡ r)
regs_there None r e = absurd (cc)
regs_there (Some t) r e = (t, refl, cc)

set_counter : (k : KernState) (who : ℕ) (r : Regs) (pc : ℕ) → IsKern k → option_map (λ t. t.regs) (task_of k.tasks who) ≡ Some r
    → set_regs k who (with_counter pc r) ≡ change_task k who (task_at pc)
set_counter k who r pc is e =
    let found = regs_there (task_of k.tasks who) r e in
    let t = found.0 in
    ap (λ ts. record k { tasks = ts })
    (change_alike task_id k.tasks who t (λ u. record u { regs = with_counter pc r }) (task_at pc) is.rising found.1 (ap (λ (s : Regs). record t { regs = with_counter pc s }) (sym found.2)))

pub stood : (w : WorldState) (a : Actor) (who : ℕ) (r : Regs) (pc : ℕ) → a ≡ Task who → IsKern w.kern → option_map (λ t. t.regs) (task_of w.kern.tasks who) ≡ Some r
    → record w { kern = set_regs w.kern who (with_counter pc r) } ≡ standing_at w a pc
stood w a who r pc is kern e = ap (λ k. record w { kern = k }) (set_counter w.kern who r pc kern e) ∙ ap (λ b. standing_at w b pc) (sym is)

-- ---- a task that has left its gate
module _ (who : ℕ) (f : TaskRecord → TaskRecord) where
  both : (ts : List TaskRecord) → change task_id (change task_id ts who past_gate) who f ≡ change task_id ts who (λ t. f (past_gate t))
  both [] = refl
  both (t ∷ ts) =
      ap (λ u. u ∷ change task_id (change task_id ts who past_gate) who f) (one (eqb t.id who) refl)
      ∙ ap (λ us. cond (eqb t.id who) (f (past_gate t)) t ∷ us) (both ts)
    where
      one : (b : Bool) → eqb t.id who ≡ b
          → (let u : TaskRecord = cond b (past_gate t) t in cond (eqb u.id who) (f u) u) ≡ cond b (f (past_gate t)) t
      one true e = ap (λ c. cond c (f (past_gate t)) (past_gate t)) e
      one false e = ap (λ c. cond c (f t) t) e

unchanged : (ts : List TaskRecord) (who : ℕ) → change task_id ts who (λ t. t) ≡ ts
unchanged [] who = refl
unchanged (t ∷ ts) who =
    ap (λ u. u ∷ change task_id ts who (λ t. t)) (elim (eqb t.id who) as (λ b. cond b t t ≡ t) [ true ↦ refl | false ↦ refl ])
    ∙ ap (λ us. t ∷ us) (unchanged ts who)

task_again : (k : KernState) (who : ℕ) (t : TaskRecord) → IsKern k → task_of k.tasks who ≡ Some t → change_task (leave_gate k who) who (task_at t.regs.pc) ≡ k
task_again k who t is found =
    ap (λ ts. record k { tasks = ts })
    (both who (task_at t.regs.pc) k.tasks
    ∙ change_alike task_id k.tasks who t (λ u. task_at t.regs.pc (past_gate u)) (λ u. u) is.rising found refl
    ∙ unchanged k.tasks who)

stands_again : (w : WorldState) (a : Actor) → IsKern w.kern → Acts w.kern a → is_interrupt a ≡ false → standing_at (left_gate w a) a (counter_of w a) ≡ w
stands_again w (Task who) is live e = go (task_of w.kern.tasks who) refl live where
  go : (o : Option TaskRecord) → task_of w.kern.tasks who ≡ o → Acts w.kern (Task who) → standing_at (left_gate w (Task who)) (Task who) (counter_in o) ≡ w
  go None found lives = absurd (cc)
  go (Some t) found lives = ap (λ k. record w { kern = k }) (task_again w.kern who t is found)
stands_again w Interrupt is live e = absurd (cc)

-- the world is as it was, if nothing else changed
pub same_again : (w u v x : WorldState) (a : Actor) (pc : ℕ) → IsKern w.kern → Acts w.kern a → is_interrupt a ≡ false
    → pc ≡ counter_of w a → u ≡ left_gate w a → v ≡ u → x ≡ standing_at v a pc → x ≡ w
same_again w u v x a pc is live task counted left same e =
    e
    ∙ ap (λ n. standing_at v a n) counted
    ∙ ap (λ s. standing_at s a (counter_of w a)) (same ∙ left)
    ∙ stands_again w a is live task
