-- One task is changed, and a property of each task becomes another property.
use Rattle.std.proofs.Common.{◌≡◌, ℕ, ◌<◌, true, false, cond, eqb, List, length, get_or, None, Some, refl, sym, ap, ◌∙◌, subst, arith, ⊎_elim}
use Rattle.std.specs.List.{All, Contains}
use Rattle.std.proofs.lemmas.Bool.{eqb-true, eqb-false, cases_eq}
use Rattle.std.proofs.lemmas.Option.{same_Some}
use Rattle.std.proofs.lemmas.List.{get_or-map, length-map}
use Rattle.std.proofs.lemmas.List.Elements.{All-contains, Contains-get_or}
use Rattle.task_block.specs.declared.task.Task.{Task}
use Rattle.task_block.specs.Standing.{is_ready}
use Rattle.id_table.specs.Records.{change, Rising}
use Rattle.id_table.proofs.Records.{found_at, found_in}
use Rattle.wind_core.specs.State.{KernState, task_id, task_of}
use Rattle.wind_core.specs.Moves.{renewed, settled, move_found, with_pri, has_pri, change_pri}

-- a property of each task, for the task with an id
pub found_all : (P : Task → Type 0) (ts : List Task) (who : ℕ) (t : Task) → All P ts → task_of ts who ≡ Some t → P t
found_all P ts who t all e = All-contains P ts t all (found_at task_id ts who t e)

module _ (P Q : Task → Type 0) where
  -- f turns P of the task with this id into Q, and Q follows for the others
  pub All-change_at : (ts : List Task) (who : ℕ) (f : Task → Task) → ((t : Task) → Contains ts t → t.id ≡ who → P t → Q (f t)) → ((t : Task) → Contains ts t → (t.id ≡ who → ⊥) → P t → Q t)
      → All P ts → All Q (change task_id ts who f)
  All-change_at ts who f here there all k d h =
      let g : Task → Task = λ t. cond (eqb t.id who) (f t) t in
      let within : k < length ts = omega (arith, length-map ts g) in
      let t : Task = get_or ts k d in
      subst Q (sym (get_or-map g ts k d d within))
      (elim (eqb t.id who) as (λ b. eqb t.id who ≡ b → Q (cond b (f t) t)) [
        | true ↦ λ e. here t (Contains-get_or ts k d within) (eqb-true t.id who e) (all k d within)
        | false ↦ λ e. there t (Contains-get_or ts k d within) (eqb-false t.id who e) (all k d within)
      ] refl)

  -- its priority changes, and its order number too if it is ready
  pub All-change_pri : (k : KernState) (who p : ℕ) → Rising task_id k.tasks → ((t : Task) → Contains k.tasks t → t.id ≡ who → P t → Q (with_pri p t)) → ((t : Task) → Contains k.tasks t → (t.id ≡ who → ⊥) → P t → Q t)
      → ((since : ℕ) (t : Task) → Q t → Q (renewed since t)) → All P k.tasks → All Q (change_pri k who p).tasks
  All-change_pri k who p up here there renews all =
      elim (task_of k.tasks who) as (λ o. task_of k.tasks who ≡ o → All Q (cond (has_pri p o) k (move_found k who (with_pri p) o)).tasks) [
        | None ↦ λ e i d hi.
            let t : Task = get_or k.tasks i d in
            let at = Contains-get_or k.tasks i d hi in
            there t at (λ same. let no : None ≡ Some t = sym e ∙ ap (task_of k.tasks) (sym same) ∙ found_in task_id k.tasks t up at in cc) (all i d hi)
        | Some x ↦ λ e.
            elim (eqb x.pri p) as (λ b. eqb x.pri p ≡ b → All Q (cond b k (move_found k who (with_pri p) (Some x))).tasks) [
              | true ↦ λ b i d hi.
                  let t : Task = get_or k.tasks i d in
                  let at = Contains-get_or k.tasks i d hi in
                  ⊎_elim
                  (λ (same : t.id ≡ who).
                  let own : x ≡ t = same_Some x t (sym e ∙ ap (task_of k.tasks) (sym same) ∙ found_in task_id k.tasks t up at) in
                  let stays : p ≡ t.pri = sym (eqb-true x.pri p b) ∙ ap (λ v. v.pri) own in
                  subst (λ q. Q (with_pri q t)) stays (here t at same (all i d hi)))
                  (λ (other : t.id ≡ who → ⊥). there t at other (all i d hi))
                  (cases_eq t.id who)
              | false ↦ λ b. All-change_at k.tasks who (λ u. settled k.next_since (with_pri p u))
                  (λ t at same h. settles t (here t at same h))
                  there all
            ] refl
      ] refl
    where
      settles : (t : Task) → Q (with_pri p t) → Q (settled k.next_since (with_pri p t))
      settles t q = elim (is_ready (with_pri p t)) as (λ b. Q (cond b (renewed k.next_since (with_pri p t)) (with_pri p t))) [ true ↦ renews k.next_since (with_pri p t) q | false ↦ q ]
