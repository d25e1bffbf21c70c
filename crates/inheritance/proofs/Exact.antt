-- Exact priorities: each task has the most urgent priority that it or a task that reaches it passes on.
use Rattle.std.proofs.Common.{◌≡◌, ℕ, zero, suc, true, cond, List, map, get_or, Option, Some, is_some, sym, ap, ◌∙◌, subst, arith, ⊎_elim}
use Rattle.std.specs.List.{filter, All, Contains}
use Rattle.std.proofs.lemmas.List.Elements.{Contains-get_or}
use Rattle.wind_base.specs.declared.profile.Profile.{Profile}
use Rattle.wind_base.specs.declared.profile.Profile.TheVariants.{One, Two}
use Rattle.task_block.specs.declared.task.Task.{Task}
use Rattle.id_table.specs.Records.{Rising}
use Rattle.id_table.proofs.Records.{found_in}
use Rattle.wind_core.specs.State.{KernState, IsKern, task_id, task_of}
use Rattle.wind_core.proofs.Ids.{ids, lives_by}
use Rattle.inheritance.specs.declared.mutex.Mutex.{Mutex}
use Rattle.inheritance.specs.Reach.{boss, wait_of, owner_at, pri_of, normal_of, normal_in, is_on, path, reaches, urgency, lifted, raised_kern}
use Rattle.inheritance.specs.Laws.{ExactLaw, ExactNormalLaw}
use Rattle.inheritance.proofs.Lookups.{each_lives, on_ids}
use Rattle.inheritance.proofs.Walk.{path_cases, most_own, most_least}
use Rattle.inheritance.proofs.Raising.{raised_to, boss_urgent}
use Rattle.inheritance.proofs.Same.{pri_is, boss_owner, urgent_from, repried_keeps, one_exact}
use Rattle.inheritance.proofs.Normals.{normals_repried, lifted_again}

-- ---- a task that no task waits for
module _ (up : ℕ → Option ℕ) (pri : ℕ → ℕ) (x : ℕ) (nobody : (z : ℕ) → up z ≡ Some x → ⊥) where
  never_on : (n y : ℕ) → is_on (path up n y) x ≡ true → ⊥
  never_on zero y h = absurd (cc)
  never_on (suc n) y h =
      let s = path_cases up n y x h in
      ⊎_elim (λ (e : s.0 ≡ x). nobody y (s.1 ∙ ap Some e)) (λ (r : is_on (path up n s.0) x ≡ true). never_on n s.0 r) s.2

  pub urgency_alone : (n : ℕ) (all : List ℕ) → urgency up pri n all x ≡ pri x
  urgency_alone n all =
      let low = most_own pri (pri x) (map pri (filter (λ y. reaches up n y x) all)) in
      let high = most_least pri (pri x) (pri x) (λ y. reaches up n y x) all (omega arith) (λ y r. absurd (never_on n y r)) in
      omega (arith, low, high)

-- ---- after raising
two_exact : (k : KernState) (ms : List (ℕ × Mutex)) → IsKern k → All (λ t. t.pri ≡ lifted Two (raised_kern Two k ms) ms t.id) (raised_kern Two k ms).tasks
two_exact k ms is i d hi =
    let r : KernState = raised_kern Two k ms in
    let to = raised_to Two k ms in
    let t : Task = get_or r.tasks i d in
    let live : is_some (task_of k.tasks t.id) ≡ true = lives_by k.tasks r.tasks t.id (sym to.alike) (each_lives r.tasks i d hi) in
    sym (pri_is r.tasks t (repried_keeps (lifted Two k ms) k.tasks k is).rising (Contains-get_or r.tasks i d hi))
    ∙ to.pris t.id
    ∙ ap (λ b. cond b (lifted Two k ms t.id) (pri_of k.tasks t.id)) (on_ids k.tasks t.id live)
    ∙ sym (lifted_again k r ms (lifted Two k ms) (ids k.tasks) to (normals_repried (lifted Two k ms) k.tasks k) t.id)

one_raised : (k : KernState) (ms : List (ℕ × Mutex)) → IsKern k → All (λ t. t.pri ≡ lifted One (raised_kern One k ms) ms t.id) (raised_kern One k ms).tasks
one_raised k ms is =
    let r : KernState = raised_kern One k ms in
    let kept : IsKern r = repried_keeps (lifted One k ms) k.tasks k is in
    one_exact r ms kept (urgent_from r.tasks ms kept.rising (boss_urgent One k ms is.few))

exact_by : (p : Profile) (k : KernState) (ms : List (ℕ × Mutex)) → IsKern k → All (λ t. t.pri ≡ lifted p (raised_kern p k ms) ms t.id) (raised_kern p k ms).tasks
exact_by One = one_raised
exact_by Two = two_exact

pub exact_law : ExactLaw
exact_law s is = exact_by s.profile s.kern s.mutexes is

-- ---- under profile 2
pub normal_is : (ts : List Task) (x : Task) → Rising task_id ts → Contains ts x → normal_of ts x.id ≡ x.normal
normal_is ts x up at = ap normal_in (found_in task_id ts x up at)

pub exact_normal : ExactNormalLaw
exact_normal s two is holds exact =
    let ts = s.kern.tasks in
    let ms = s.mutexes in
    let up : ℕ → Option ℕ = boss ts ms in
    let has : All (λ t. t.pri ≡ lifted Two s.kern ms t.id) ts = subst (λ p. All (λ t. t.pri ≡ lifted p s.kern ms t.id) ts) two exact in
    record {
      raised = λ i d hi.
          let t : Task = get_or ts i d in
          let low = most_own (normal_of ts) (normal_of ts t.id) (map (normal_of ts) (filter (λ y. reaches up 256 y t.id) (ids ts))) in
          omega (arith, has i d hi, low, normal_is ts t is.rising (Contains-get_or ts i d hi));
      normal = λ i d hi z.
          let t : Task = get_or ts i d in
          has i d hi
          ∙ urgency_alone up (normal_of ts) t.id (λ y e. holds i d hi z (wait_of (task_of ts y)) (boss_owner ts (owner_at ms (wait_of (task_of ts y))) t.id e)) 256 (ids ts)
          ∙ normal_is ts t is.rising (Contains-get_or ts i d hi);
    }
