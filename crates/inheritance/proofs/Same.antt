-- The laws of raising, for the tasks as the list has them.
use Rattle.std.proofs.Common.{◌≡◌, ℕ, zero, suc, ◌≤◌, true, false, cond, List, [], ◌∷◌, map, get_or, Option, None, Some, is_some, refl, sym, ap, ◌∙◌, subst, arith, ⊎_elim}
use Rattle.std.specs.List.{filter, All, Contains}
use Rattle.std.proofs.lemmas.Bool.{eq-eqb}
use Rattle.std.proofs.lemmas.List.Elements.{All-contains, All-head, All-tail, Contains-get_or}
use Rattle.wind_base.specs.declared.profile.Profile.TheVariants.{One}
use Rattle.task_block.specs.declared.task.Task.{Task}
use Rattle.id_table.specs.Records.{Rising}
use Rattle.id_table.proofs.Records.{found_in, found_at, found_id}
use Rattle.wind_core.specs.State.{KernState, IsKern, task_id, task_of}
use Rattle.wind_core.specs.Moves.{change_pri, has_pri, move_task, with_pri}
use Rattle.wind_core.specs.Move.{ChangePri}
use Rattle.wind_core.proofs.Moving.{move_keeps}
use Rattle.wind_core.proofs.Ids.{ids}
use Rattle.inheritance.specs.declared.mutex.Mutex.{Mutex}
use Rattle.inheritance.specs.Mutexes.{MutexState}
use Rattle.inheritance.specs.Reach.{boss, live_one, wait_of, owner_at, pri_of, pri_in, is_on, path, reaches, urgency, lifted, repried, raised, IsExact}
use Rattle.inheritance.specs.Laws.{GoodBut, OwnersUrgent, OwnersUrgentBut, RaisedLaw, SameLaw, ExactSameLaw, ExactUrgentLaw}
use Rattle.inheritance.proofs.Lookups.{live_is}
use Rattle.inheritance.proofs.Walk.{path_cases, most_own, most_least}
use Rattle.inheritance.proofs.Raising.{boss_urgent, boss_lives}

-- ---- a task that passes its priority on, and its boss
pub boss_is : (ts : List Task) (ms : List (ℕ × Mutex)) (y x : Task) → Rising task_id ts → Contains ts y → Contains ts x → owner_at ms y.wait ≡ Some x.id → boss ts ms y.id ≡ Some x.id
boss_is ts ms y x up at_y at_x e =
    ap (λ o. live_one ts (owner_at ms (wait_of o))) (found_in task_id ts y up at_y)
    ∙ ap (live_one ts) e
    ∙ ap (λ o. cond (is_some o) (Some x.id) None) (found_in task_id ts x up at_x)

pub pri_is : (ts : List Task) (x : Task) → Rising task_id ts → Contains ts x → pri_of ts x.id ≡ x.pri
pri_is ts x up at = ap pri_in (found_in task_id ts x up at)

-- by look-ups, and by the list
pub urgent_from : (ts : List Task) (ms : List (ℕ × Mutex)) → Rising task_id ts → ((y x : ℕ) → boss ts ms y ≡ Some x → pri_of ts x ≤ pri_of ts y) → OwnersUrgent ms ts
urgent_from ts ms up h i c hi j d hj e =
    let y = get_or ts i c in
    let x = get_or ts j d in
    let at_y = Contains-get_or ts i c hi in
    let at_x = Contains-get_or ts j d hj in
    let law = h y.id x.id (boss_is ts ms y x up at_y at_x e) in
    omega (arith, law, pri_is ts y up at_y, pri_is ts x up at_x)

pub boss_owner : (ts : List Task) (o : Option ℕ) (x : ℕ) → live_one ts o ≡ Some x → o ≡ Some x
boss_owner ts None x e = absurd (cc)
boss_owner ts (Some id) x e = elim (is_some (task_of ts id)) as (λ b. cond b (Some id) None ≡ Some x → Some id ≡ Some x) [ true ↦ λ q. q | false ↦ λ q. absurd (cc) ] e

pub urgent_but : (w : ℕ) (ts : List Task) (ms : List (ℕ × Mutex)) → OwnersUrgentBut w ms ts → GoodBut (boss ts ms) (pri_of ts) w
urgent_but w ts ms urgent y x other e =
    let live = boss_lives ts ms y x e in
    let t = live_is (task_of ts y) live.0 in
    let u = live_is (task_of ts x) live.1 in
    let own : t.0.id ≡ y = found_id task_id ts y t.0 t.1 in
    let owner : owner_at ms t.0.wait ≡ Some u.0.id =
    sym (ap (λ o. owner_at ms (wait_of o)) t.1) ∙ boss_owner ts (owner_at ms (wait_of (task_of ts y))) x e ∙ ap Some (sym (found_id task_id ts x u.0 u.1)) in
    let pair = All-contains (λ v. owner_at ms t.0.wait ≡ Some v.id → v.pri ≤ t.0.pri) ts u.0
    (All-contains (λ v. (v.id ≡ w → ⊥) → All (λ q. owner_at ms v.wait ≡ Some q.id → q.pri ≤ v.pri) ts) ts t.0 urgent (found_at task_id ts y t.0 t.1) (λ q. other (sym own ∙ q)))
    (found_at task_id ts x u.0 u.1) owner in
    omega (arith, pair, ap pri_in t.1, ap pri_in u.1)

pub urgent_at : (ts : List Task) (ms : List (ℕ × Mutex)) → OwnersUrgent ms ts → (y x : ℕ) → boss ts ms y ≡ Some x → pri_of ts x ≤ pri_of ts y
urgent_at ts ms urgent y x e = urgent_but (suc y) ts ms (λ i d hi other. urgent i d hi) y x (λ q. omega (arith, q)) e

-- ---- raising keeps the kernel's invariant
pub repried_keeps : (goal : ℕ → ℕ) (us : List Task) (r : KernState) → IsKern r → IsKern (repried r goal us)
repried_keeps goal [] r is = is
repried_keeps goal (u ∷ us) r is = repried_keeps goal us (change_pri r u.id (goal u.id)) (move_keeps r (ChangePri u.id (goal u.id)) is tt)

pub raised_law : RaisedLaw
raised_law s is =
    urgent_from (raised s).kern.tasks s.mutexes (repried_keeps (lifted s.profile s.kern s.mutexes) s.kern.tasks s.kern is).rising (boss_urgent s.profile s.kern s.mutexes is.few)

-- ---- each owner is as urgent already
module _ (up : ℕ → Option ℕ) (pri : ℕ → ℕ) (good : (y x : ℕ) → up y ≡ Some x → pri x ≤ pri y) where
  reached : (n y x : ℕ) → is_on (path up n y) x ≡ true → pri x ≤ pri y
  reached zero y x h = absurd (cc)
  reached (suc n) y x h =
      let s = path_cases up n y x h in
      let step = good y s.0 s.1 in
      ⊎_elim
      (λ (e : s.0 ≡ x). subst (λ v. pri v ≤ pri y) e step)
      (λ (r : is_on (path up n s.0) x ≡ true). let ih = reached n s.0 x r in omega (arith, ih, step))
      s.2

  pub urgency_same : (n : ℕ) (all : List ℕ) (x : ℕ) → urgency up pri n all x ≡ pri x
  urgency_same n all x =
      let low = most_own pri (pri x) (map pri (filter (λ y. reaches up n y x) all)) in
      let high = most_least pri (pri x) (pri x) (λ y. reaches up n y x) all (omega arith) (λ y r. reached n y x r) in
      omega (arith, low, high)

-- no priority changes
pub repried_same : (k : KernState) (goal : ℕ → ℕ) (us : List Task) → All (λ u. (task_of k.tasks u.id ≡ Some u) × (goal u.id ≡ u.pri)) us → repried k goal us ≡ k
repried_same k goal [] same = refl
repried_same k goal (u ∷ us) same =
    let here = All-head (λ v. (task_of k.tasks v.id ≡ Some v) × (goal v.id ≡ v.pri)) u us same in
    let step : change_pri k u.id (goal u.id) ≡ k =
    ap (λ o. cond (has_pri (goal u.id) o) k (move_task k u.id (with_pri (goal u.id)))) here.0
    ∙ ap (λ b. cond b k (move_task k u.id (with_pri (goal u.id)))) (eq-eqb u.pri (goal u.id) (sym here.1)) in
    ap (λ r. repried r goal us) step ∙ repried_same k goal us (All-tail (λ v. (task_of k.tasks v.id ≡ Some v) × (goal v.id ≡ v.pri)) u us same)

-- if priorities are exact, raising changes nothing, and each owner is as urgent as its waiters
pub exact_same : ExactSameLaw
exact_same s is exact =
    ap (λ k. record s { kern = k })
    (repried_same s.kern (lifted s.profile s.kern s.mutexes) s.kern.tasks
    (λ i d hi. (found_in task_id s.kern.tasks (get_or s.kern.tasks i d) is.rising (Contains-get_or s.kern.tasks i d hi), sym (exact i d hi))))

pub exact_urgent : ExactUrgentLaw
exact_urgent s is exact = subst (λ (r : MutexState). OwnersUrgent s.mutexes r.kern.tasks) (exact_same s is exact) (raised_law s is)

-- under profile 1 priorities are exact if each owner is as urgent as its waiters
pub one_exact : (k : KernState) (ms : List (ℕ × Mutex)) → IsKern k → OwnersUrgent ms k.tasks → All (λ t. t.pri ≡ lifted One k ms t.id) k.tasks
one_exact k ms is urgent i d hi =
    let t : Task = get_or k.tasks i d in
    let at = Contains-get_or k.tasks i d hi in
    sym (urgency_same (boss k.tasks ms) (pri_of k.tasks) (urgent_at k.tasks ms urgent) 256 (ids k.tasks) t.id ∙ pri_is k.tasks t is.rising at)

pub exact_by_owners : (s : MutexState) → s.profile ≡ One → IsKern s.kern → OwnersUrgent s.mutexes s.kern.tasks → IsExact s
exact_by_owners s one is urgent = subst (λ p. All (λ t. t.pri ≡ lifted p s.kern s.mutexes t.id) s.kern.tasks) (sym one) (one_exact s.kern s.mutexes is urgent)

pub same_law : SameLaw
same_law s one is urgent = exact_same s is (exact_by_owners s one is urgent)
