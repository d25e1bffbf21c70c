-- A change of one task.
use Rattle.std.proofs.Common.{◌≡◌, ℕ, cond, eqb, List, Option, None, Some, refl, sym, ap, ◌∙◌}
use Rattle.std.specs.Option.{option_map}
use Rattle.std.proofs.lemmas.Bool.{eq-eqb, ne_eqb}
use Rattle.id_table.specs.Records.{change}
use Rattle.id_table.proofs.Records.{found_id}
use Rattle.task_block.specs.declared.task.Task.{Task}
use Rattle.wind_core.specs.State.{task_id, task_of}
use Rattle.wind_core.proofs.Unwritten.{task_of-change}

module _ (ts : List Task) (who : ℕ) (f : Task → Task) (keeps : (t : Task) → (f t).id ≡ t.id) where
  -- the task itself
  pub changed_task : task_of (change task_id ts who f) who ≡ option_map f (task_of ts who)
  changed_task = task_of-change ts who who f keeps ∙ by (task_of ts who) refl
    where
      by : (o : Option Task) → task_of ts who ≡ o → option_map (λ t. cond (eqb t.id who) (f t) t) o ≡ option_map f o
      by None e = refl
      by (Some t) e = ap (λ b. Some (cond b (f t) t)) (eq-eqb t.id who (found_id task_id ts who t e))

  -- every other task stays
  pub other_task : (id : ℕ) → (id ≡ who → ⊥) → task_of (change task_id ts who f) id ≡ task_of ts id
  other_task id other = task_of-change ts who id f keeps ∙ by (task_of ts id) refl
    where
      by : (o : Option Task) → task_of ts id ≡ o → option_map (λ t. cond (eqb t.id who) (f t) t) o ≡ o
      by None e = refl
      by (Some t) e = ap (λ b. Some (cond b (f t) t)) (ne_eqb t.id who (λ same. other (sym (found_id task_id ts id t e) ∙ same)))
