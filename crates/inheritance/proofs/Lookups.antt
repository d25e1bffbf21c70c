-- Tasks by id: what a look-up finds after a change.
use Rattle.std.proofs.Common.{◌≡◌, ℕ, zero, suc, ◌<◌, true, false, cond, ◌||◌, eqb, List, [], ◌∷◌, map, length, get_or, Option, None, Some, is_some, refl, ap, arith}
use Rattle.std.specs.List.{Contains}
use Rattle.std.proofs.lemmas.Bool.{eqb-true, eq-eqb}
use Rattle.task_block.specs.declared.task.Task.{Task}
use Rattle.wind_core.specs.State.{task_id, task_of}
use Rattle.inheritance.specs.Reach.{is_on}

pub live_is : {X : Type 0} (o : Option X) → is_some o ≡ true → (t : X) × (o ≡ Some t)
live_is None e = absurd (cc)
live_is (Some t) e = (t, refl)

-- ---- ids in a list
pub on_ids : (ts : List Task) (id : ℕ) → is_some (task_of ts id) ≡ true → is_on (map task_id ts) id ≡ true
on_ids [] id h = absurd (cc)
on_ids (t ∷ ts) id h =
    elim (eqb t.id id) as (λ b. is_some (cond b (Some t) (task_of ts id)) ≡ true → (b || is_on (map task_id ts) id) ≡ true) [ true ↦ λ q. refl | false ↦ λ q. on_ids ts id q ] h

pub place_on : (ids : List ℕ) (x : ℕ) → is_on ids x ≡ true → Contains ids x
place_on [] x h = absurd (cc)
place_on (y ∷ ys) x h =
    elim (eqb y x) as (λ b. eqb y x ≡ b → (b || is_on ys x) ≡ true → Contains (y ∷ ys) x) [
      | true ↦ λ e q. (0, omega arith, eqb-true y x e)
      | false ↦ λ e q. let ih = place_on ys x q in (suc ih.0, omega (arith, ih.1), ih.2)
    ] refl h

pub each_lives : (ts : List Task) (k : ℕ) (d : Task) → k < length ts → is_some (task_of ts (get_or ts k d).id) ≡ true
each_lives [] k d hk = absurd (omega arith)
each_lives (t ∷ ts) zero d hk = ap (λ b. is_some (cond b (Some t) (task_of ts t.id))) (eq-eqb t.id t.id refl)
each_lives (t ∷ ts) (suc k) d hk =
    let ih = each_lives ts k d (omega arith) in
    elim (eqb t.id (get_or ts k d).id) as (λ b. is_some (cond b (Some t) (task_of ts (get_or ts k d).id)) ≡ true) [ true ↦ refl | false ↦ ih ]
