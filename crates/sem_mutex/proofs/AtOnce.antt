-- Under profile 1 a call raises priorities at once; under profile 2 it leaves them as they are.
use Rattle.std.proofs.Common.{◌≡◌, ℕ, List, refl, sym, ap, ◌∙◌}
use Rattle.wind_base.specs.declared.profile.Profile.{Profile}
use Rattle.wind_base.specs.declared.profile.Profile.TheVariants.{One, Two}
use Rattle.wind_core.specs.State.{KernState, IsKern}
use Rattle.inheritance.specs.declared.mutex.Mutex.{Mutex}
use Rattle.inheritance.specs.Mutexes.{MutexState, held_count}
use Rattle.inheritance.specs.Reach.{lifted, raised}
use Rattle.inheritance.specs.Laws.{OwnersUrgent, OwnersHold}
use Rattle.inheritance.proofs.Same.{repried_keeps, same_law, exact_same, exact_urgent, exact_by_owners}
use Rattle.inheritance.proofs.Exact.{exact_law, exact_normal}
use Rattle.sem_mutex.specs.Calls.{at_once, raised_at_once}
use Rattle.sem_mutex.specs.Kept.{Holds, KeepsMutexes, IsSettled}
use Rattle.sem_mutex.specs.Laws.{IdleLaw, SettleLaw, SettledLaw}
use Rattle.sem_mutex.proofs.Counting.{no_lender}
use Rattle.sem_mutex.proofs.Lifting.{raised_keeps}

pub not_one : Two ≡ One → ⊥
not_one e = absurd (cc)

-- ---- after a call
pub at_once_keeps : (p : Profile) (k : KernState) (ms : List (ℕ × Mutex)) → IsKern k → Holds p (held_count ms) ms k → KeepsMutexes (record { kern = at_once p k ms; profile = p; mutexes = ms })
at_once_keeps One k ms is h = raised_keeps (record { kern = k; profile = One; mutexes = ms }) is h
at_once_keeps Two k ms is h = record { holds = h; urgent = λ one. absurd (not_one one) }

at_once_kern : (p : Profile) (k : KernState) (ms : List (ℕ × Mutex)) → IsKern k → (p ≡ One → OwnersUrgent ms k.tasks) → at_once p k ms ≡ k
at_once_kern One k ms is urgent = ap (λ (s : MutexState). s.kern) (same_law (record { kern = k; profile = One; mutexes = ms }) refl is (urgent refl))
at_once_kern Two k ms is urgent = refl

-- if each owner is as urgent as its waiters already, nothing changes
pub at_once_same : (s : MutexState) → IsKern s.kern → (s.profile ≡ One → OwnersUrgent s.mutexes s.kern.tasks) → raised_at_once s ≡ s
at_once_same s is urgent = ap (λ k. record s { kern = k }) (at_once_kern s.profile s.kern s.mutexes is urgent)

-- ---- at the end of a step
pub owners_hold : (s : MutexState) → KeepsMutexes s → OwnersHold s.mutexes s.kern.tasks
owners_hold s kept i d hi z w e =
    let h = (kept.holds.tasks i d hi).held in
    no_lender s.mutexes _ (sym h ∙ z) w e

pub settled_law : SettledLaw
settled_law s is kept exact =
    elim s.profile as (λ p. s.profile ≡ p → IsSettled s) [
      | One ↦ λ one. record {
        exact = exact_by_owners s one is (kept.urgent one);
        urgent = kept.urgent one;
        raised = λ i d hi. (kept.holds.tasks i d hi).raised one;
        normal = λ i d hi. (kept.holds.tasks i d hi).normal one;
      }
      | Two ↦ λ two.
          let n = exact_normal s two is (owners_hold s kept) (exact two) in
          record { exact = exact two; urgent = exact_urgent s is (exact two); raised = n.raised; normal = n.normal }
    ] refl

pub idle_law : IdleLaw
idle_law s is kept exact = exact_same s is (settled_law s is kept exact).exact

pub settle_law : SettleLaw
settle_law s is kept = record { keeps = raised_keeps s is kept.holds; exact = exact_law s is }

-- so after raising all of it is true
pub all_settled : (s : MutexState) → IsKern s.kern → KeepsMutexes s → IsSettled (raised s)
all_settled s is kept =
    let law = settle_law s is kept in
    settled_law (raised s) (repried_keeps (lifted s.profile s.kern s.mutexes) s.kern.tasks s.kern is) law.keeps (λ two. law.exact)
