-- Raising keeps the mutexes' invariant.
use Rattle.std.proofs.Common.{◌≡◌, ℕ, ◌<◌, ◌≤◌, true, false, cond, List, [], ◌∷◌, map, Option, None, Some, IsSome, IfSome, refl, sym, ap, ◌∙◌, subst, arith, ◌⊎◌, inl, inr, ⊎_elim}
use Rattle.std.specs.List.{All, Contains, filter}
use Rattle.std.proofs.lemmas.List.Elements.{All-contains, All-contains_itself, All-weaker}
use Rattle.id_table.specs.declared.ident.Place.{Place}
use Rattle.wind_base.specs.declared.profile.Profile.{Profile}
use Rattle.wind_base.specs.declared.profile.Profile.TheVariants.{One}
use Rattle.task_block.specs.declared.task.Task.{Task}
use Rattle.wind_core.specs.State.{KernState, IsKern, task_of}
use Rattle.wind_core.specs.Moves.{move_found, with_pri, has_pri, change_pri}
use Rattle.wind_core.specs.Move.{ChangePri}
use Rattle.wind_core.proofs.Moving.{move_keeps}
use Rattle.wind_core.proofs.Ids.{ids}
use Rattle.inheritance.specs.declared.mutex.Mutex.{Mutex}
use Rattle.inheritance.specs.Mutexes.{MutexState, held_count}
use Rattle.inheritance.specs.Reach.{mutex_at, owner_at, boss, wait_of, pri_of, reaches, lifted, repried, raised_kern, raised}
use Rattle.sem_mutex.specs.Kept.{MutexKept, TaskKept, Holds, KeepsMutexes}
use Rattle.inheritance.proofs.Walk.{most_own}
use Rattle.inheritance.proofs.Exact.{urgency_alone}
use Rattle.inheritance.proofs.Same.{pri_is, boss_owner, raised_law}
use Rattle.sem_mutex.proofs.Counting.{no_lender}
use Rattle.sem_mutex.proofs.Owning.{From}
use Rattle.wind_core.proofs.Becoming.{All-change_pri}

-- u is t, except for its priority and order number
pub record Drifts (goal : ℕ → ℕ) (t u : Task) : Type 0 where
  pub id : u.id ≡ t.id
  pub normal : u.normal ≡ t.normal
  pub held : u.held ≡ t.held
  pub wait : u.wait ≡ t.wait
  pub fifo : u.fifo ≡ t.fifo
  pub pri : (u.pri ≡ t.pri) ⊎ (u.pri ≡ goal t.id)

pub next-change_pri : (r : KernState) (who p : ℕ) → (change_pri r who p).next_id ≡ r.next_id
next-change_pri r who p =
    elim (has_pri p (task_of r.tasks who)) as (λ b. (cond b r (move_found r who (with_pri p) (task_of r.tasks who))).next_id ≡ r.next_id) [
      | true ↦ refl
      | false ↦ elim (task_of r.tasks who) as (λ o. (move_found r who (with_pri p) o).next_id ≡ r.next_id) [ None ↦ refl | Some t ↦ refl ]
    ]

pub next-repried : (r : KernState) (goal : ℕ → ℕ) (us : List Task) → (repried r goal us).next_id ≡ r.next_id
next-repried r goal [] = refl
next-repried r goal (u ∷ us) = next-repried (change_pri r u.id (goal u.id)) goal us ∙ next-change_pri r u.id (goal u.id)

drift_all : (ts : List Task) (goal : ℕ → ℕ) (us : List Task) (r : KernState) → IsKern r → All (From (Drifts goal) ts) r.tasks → All (From (Drifts goal) ts) (repried r goal us).tasks
drift_all ts goal [] r is all = all
drift_all ts goal (u ∷ us) r is all =
    drift_all ts goal us (change_pri r u.id (goal u.id)) (move_keeps r (ChangePri u.id (goal u.id)) is tt)
    (All-change_pri (From (Drifts goal) ts) (From (Drifts goal) ts) r u.id (goal u.id) is.rising
    (λ t at same f. (f.0, f.1, record { id = f.2.id; normal = f.2.normal; held = f.2.held; wait = f.2.wait; fifo = f.2.fifo; pri = inr (ap goal (sym same ∙ f.2.id)) }))
    (λ t at other f. f)
    (λ since t f. (f.0, f.1, record { id = f.2.id; normal = f.2.normal; held = f.2.held; wait = f.2.wait; fifo = f.2.fifo; pri = f.2.pri }))
    all)

-- ---- the invariant
module _ (p : Profile) (count : ℕ → ℕ) (ms : List (ℕ × Mutex)) (k : KernState) (is : IsKern k) (free : (i : ℕ) → count i ≡ 0 → (w : Option Place) → owner_at ms w ≡ Some i → ⊥) (h : Holds p count ms k) where
  lifted_kept : (u : Task) → From (Drifts (lifted p k ms)) k.tasks u → TaskKept p ms count k.next_id u
  lifted_kept u f =
      let t = f.0 in
      let d = f.2 in
      let kept = All-contains (TaskKept p ms count k.next_id) k.tasks t h.tasks f.1 in
      let own = pri_is k.tasks t is.rising f.1 in
      let less : p ≡ One → lifted p k ms t.id ≤ pri_of k.tasks t.id =
      λ one. subst (λ q. lifted q k ms t.id ≤ pri_of k.tasks t.id) (sym one) (most_own (pri_of k.tasks) (pri_of k.tasks t.id) (map (pri_of k.tasks) (filter (λ y. reaches (boss k.tasks ms) 256 y t.id) (ids k.tasks)))) in
      record {
        raised = λ one.
            let was = kept.raised one in
            let low = less one in
            ⊎_elim (λ (q : u.pri ≡ t.pri). omega (arith, d.normal, was, q)) (λ (q : u.pri ≡ lifted p k ms t.id). omega (arith, d.normal, was, q, low, own)) d.pri;
        held = d.held ∙ kept.held ∙ ap count (sym d.id);
        normal = λ one z.
            let none : count t.id ≡ 0 = sym kept.held ∙ sym d.held ∙ z in
            let alone : lifted p k ms t.id ≡ pri_of k.tasks t.id = subst (λ q. lifted q k ms t.id ≡ pri_of k.tasks t.id) (sym one)
            (urgency_alone (boss k.tasks ms) (pri_of k.tasks) t.id (λ y e. free t.id none (wait_of (task_of k.tasks y)) (boss_owner k.tasks (owner_at ms (wait_of (task_of k.tasks y))) t.id e)) 256 (ids k.tasks)) in
            ⊎_elim (λ (q : u.pri ≡ t.pri). q) (λ (q : u.pri ≡ lifted p k ms t.id). q ∙ alone ∙ own) d.pri ∙ kept.normal one (sym d.held ∙ z) ∙ sym d.normal;
        made = subst (λ w. IfSome w (λ p. p.id < k.next_id)) (sym d.wait) kept.made;
        owned = subst (λ w. IfSome (mutex_at ms w) (λ m. IsSome m.owner × (m.inversion_safe ≡ true → u.fifo ≡ false))) (sym d.wait)
            (subst (λ f. IfSome (mutex_at ms t.wait) (λ m. IsSome m.owner × (m.inversion_safe ≡ true → f ≡ false))) (sym d.fifo) kept.owned);
      }

  pub holds_raised : Holds p count ms (raised_kern p k ms)
  holds_raised =
      let same = next-repried k (lifted p k ms) k.tasks in
      record {
        tasks = subst (λ n. All (TaskKept p ms count n) (raised_kern p k ms).tasks) (sym same)
            (All-weaker (From (Drifts (lifted p k ms)) k.tasks) (TaskKept p ms count k.next_id) lifted_kept (raised_kern p k ms).tasks
            (drift_all k.tasks (lifted p k ms) k.tasks k is
            (All-weaker (Contains k.tasks) (From (Drifts (lifted p k ms)) k.tasks) (λ t at. (t, at, record { id = refl; normal = refl; held = refl; wait = refl; fifo = refl; pri = inl refl })) k.tasks (All-contains_itself k.tasks))));
        mutexes = subst (λ n. All (MutexKept n) ms) (sym same) h.mutexes;
      }

-- after raising, the invariant holds, even if owners weren't as urgent as their waiters before
pub raised_keeps : (s : MutexState) → IsKern s.kern → Holds s.profile (held_count s.mutexes) s.mutexes s.kern → KeepsMutexes (raised s)
raised_keeps s is h = record {
  holds = holds_raised s.profile (held_count s.mutexes) s.mutexes s.kern is (λ i z w e. no_lender s.mutexes i z w e) h;
  urgent = λ one. raised_law s is;
}
