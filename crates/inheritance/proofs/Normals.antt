-- A change of a priority changes no normal priority.
use Rattle.std.proofs.Common.{◌≡◌, ℕ, true, false, cond, eqb, List, [], ◌∷◌, None, Some, refl, ap, ◌∙◌}
use Rattle.std.specs.Option.{option_map}
use mathlib.Core.Path.{fun_ext}
use Rattle.wind_base.specs.declared.profile.Profile.TheVariants.{Two}
use Rattle.task_block.specs.declared.task.Task.{Task}
use Rattle.task_block.specs.Standing.{is_ready}
use Rattle.wind_core.specs.State.{KernState, task_of}
use Rattle.wind_core.specs.Moves.{renewed, settled, with_pri, has_pri, move_found, change_pri}
use Rattle.wind_core.proofs.Ids.{ids}
use Rattle.inheritance.specs.declared.mutex.Mutex.{Mutex}
use Rattle.inheritance.specs.Reach.{boss, urgency, repried, normal_in, normal_of, lifted}
use Rattle.inheritance.proofs.Raising.{RaisedTo, repri-id, bosses}
use Rattle.wind_core.proofs.Unwritten.{task_of-change}

repri-normal : (n pri : ℕ) (t : Task) → (settled n (with_pri pri t)).normal ≡ t.normal
repri-normal n pri t = elim (is_ready (with_pri pri t)) as (λ b. (cond b (renewed n (with_pri pri t)) (with_pri pri t)).normal ≡ t.normal) [ true ↦ refl | false ↦ refl ]

moved_normal : (r : KernState) (id pri y : ℕ) (t : Task) → normal_of (move_found r id (with_pri pri) (Some t)).tasks y ≡ normal_of r.tasks y
moved_normal r id pri y t =
    let g : Task → Task = λ u. cond (eqb u.id id) (settled r.next_since (with_pri pri u)) u in
    ap normal_in (task_of-change r.tasks id y (λ u. settled r.next_since (with_pri pri u)) (repri-id r.next_since pri))
    ∙ elim (task_of r.tasks y) as (λ o. normal_in (option_map g o) ≡ normal_in o) [
      | None ↦ refl
      | Some u ↦ elim (eqb u.id id) as (λ b. (cond b (settled r.next_since (with_pri pri u)) u).normal ≡ u.normal) [ true ↦ repri-normal r.next_since pri u | false ↦ refl ]
    ]

pub normal-change_pri : (r : KernState) (id pri y : ℕ) → normal_of (change_pri r id pri).tasks y ≡ normal_of r.tasks y
normal-change_pri r id pri y =
    elim (task_of r.tasks id) as (λ o. normal_of (cond (has_pri pri o) r (move_found r id (with_pri pri) o)).tasks y ≡ normal_of r.tasks y) [
      | None ↦ refl
      | Some t ↦ elim (eqb t.pri pri) as (λ b. normal_of (cond b r (move_found r id (with_pri pri) (Some t))).tasks y ≡ normal_of r.tasks y) [ true ↦ refl | false ↦ moved_normal r id pri y t ]
    ]

pub normals_repried : (goal : ℕ → ℕ) (us : List Task) (r : KernState) (y : ℕ) → normal_of (repried r goal us).tasks y ≡ normal_of r.tasks y
normals_repried goal [] r y = refl
normals_repried goal (u ∷ us) r y = normals_repried goal us (change_pri r u.id (goal u.id)) y ∙ normal-change_pri r u.id (goal u.id) y

-- so under profile 2 a task inherits the same, whatever priorities were written meanwhile
pub lifted_again : (k r : KernState) (ms : List (ℕ × Mutex)) (goal : ℕ → ℕ) (some : List ℕ) → RaisedTo k r goal some → ((y : ℕ) → normal_of r.tasks y ≡ normal_of k.tasks y) → (x : ℕ) → lifted Two r ms x ≡ lifted Two k ms x
lifted_again k r ms goal some to same x =
    ap (λ up. urgency up (normal_of r.tasks) 256 (ids r.tasks) x) (bosses k r goal some ms to)
    ∙ ap (λ all. urgency (boss k.tasks ms) (normal_of r.tasks) 256 all x) to.alike
    ∙ ap (λ p. urgency (boss k.tasks ms) p 256 (ids k.tasks) x) (fun_ext same)
