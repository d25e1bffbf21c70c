-- Tasks get their goals in order of id.
use Rattle.std.proofs.Common.{◌≡◌, ℕ, ◌+◌, ◌<◌, true, false, cond, List, take, length, get_or, IsSome, refl, sym, ap, ◌∙◌, subst, arith}
use Rattle.std.proofs.lemmas.List.{length-map, get_or-map}
use Rattle.std.proofs.lemmas.List.Sums.{fold_more}
use Rattle.task_block.specs.declared.task.Task.{Task}
use Rattle.wind_core.specs.State.{KernState, task_id, task_of}
use Rattle.wind_core.specs.Moves.{change_pri, has_pri, move_task, with_pri}
use Rattle.wind_core.proofs.Ids.{ids, ids-move, lives_by}
use Rattle.inheritance.specs.Reach.{repried}
use Rattle.inheritance.specs.Goals.{AreGoals}
use Rattle.inheritance.proofs.Lookups.{each_lives}

pub ids-change_pri : (k : KernState) (who p : ℕ) → ids (change_pri k who p).tasks ≡ ids k.tasks
ids-change_pri k who p = elim (has_pri p (task_of k.tasks who)) as (λ b. ids (cond b k (move_task k who (with_pri p))).tasks ≡ ids k.tasks) [ true ↦ refl | false ↦ ids-move k who (with_pri p) (λ u. refl) ]

pub length_alike : (ts us : List Task) → ids ts ≡ ids us → length ts ≡ length us
length_alike ts us e = sym (length-map ts task_id) ∙ ap length e ∙ length-map us task_id

-- the task at a place has the id of the task that was there
pub same_place : (ts us : List Task) (i : ℕ) (t : Task) → ids ts ≡ ids us → i < length us → t ≡ get_or ts i t → t.id ≡ (get_or us i t).id
same_place ts us i t alike h e =
    ap task_id e ∙ sym (get_or-map task_id ts i t 0 (omega (arith, length_alike ts us alike, h))) ∙ ap (λ xs. get_or xs i 0) alike ∙ get_or-map task_id us i t 0 h

pub here_lives : (ts us : List Task) (i : ℕ) (t : Task) → ids ts ≡ ids us → i < length us → t ≡ get_or ts i t → IsSome (task_of ts t.id)
here_lives ts us i t alike h e =
    lives_by ts us t.id alike (subst (λ n. IsSome (task_of us n)) (sym (same_place ts us i t alike h e)) (each_lives us i t h))

-- one more
pub one_more : (k r : KernState) (goals : List ℕ) (i : ℕ) (t : Task) (pri : ℕ) → ids r.tasks ≡ ids k.tasks → i < length k.tasks → t ≡ get_or r.tasks i t → pri ≡ get_or goals i pri
    → (goal : ℕ → ℕ) → AreGoals k.tasks goals goal → r ≡ repried k goal (take i k.tasks) → change_pri r t.id pri ≡ repried k goal (take (i + 1) k.tasks)
one_more k r goals i t pri alike h place is goal are same =
    let id : t.id ≡ (get_or k.tasks i t).id = same_place r.tasks k.tasks i t alike h place in
    ap (change_pri r t.id) (is ∙ are i t pri h)
    ∙ ap (λ n. change_pri r n (goal (get_or k.tasks i t).id)) id
    ∙ ap (λ q. change_pri q (get_or k.tasks i t).id (goal (get_or k.tasks i t).id)) same
    ∙ sym (fold_more (λ q v. change_pri q v.id (goal v.id)) k k.tasks i t h)
