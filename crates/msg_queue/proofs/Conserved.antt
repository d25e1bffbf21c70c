-- The law of conservation.
use Rattle.std.proofs.Common.{◌≡◌, ℕ, zero, suc, List, [], Option, None, Some, refl, arith}
use Rattle.msg_queue.specs.State.{Scene}
use Rattle.msg_queue.specs.Kept.{IsKept}
use Rattle.msg_queue.specs.Machine.{Parcel, Event, IsAllowed, after_next, accepted_next, taken_next, after, accepted, taken_in}
use Rattle.msg_queue.specs.Laws.{ConservationLaw, IsPlan, IsBalanced}
use Rattle.msg_queue.proofs.Running.{IsConserving, conserving_none, conserving_more}
use Rattle.msg_queue.proofs.Traffic.{stock, balanced, balanced_still}
use Rattle.msg_queue.proofs.Events.{keeps}

-- one step of the machine
pub record Steps (s t : Scene) (accepts : ℕ → List Parcel) (takes : ℕ → List (List ℕ)) : Type 0 where
  pub kept : IsKept t
  pub balanced : IsBalanced (stock s) (stock t) accepts takes

step : (s : Scene) (o : Option Event) → IsKept s → ((e : Event) → o ≡ Some e → IsAllowed s e) → Steps s (after_next s o) (accepted_next s o) (taken_next s o)
step s None kept may = record { kept = kept; balanced = balanced_still (stock s) (stock s) (λ q. []) (λ q. []) (λ q. refl) (λ q. refl) refl (omega arith) }
step s (Some e) kept may = record { kept = keeps s e kept (may e refl); balanced = balanced s e kept (may e refl) }

module _ (next : Scene → Option Event) (s : Scene) (plan : IsPlan next) where
  kept_after : IsKept s → (k : ℕ) → IsKept (after next s k)
  kept_after kept zero = kept
  kept_after kept (suc k) = (step (after next s k) (next (after next s k)) (kept_after kept k) (λ e. plan (after next s k) e (kept_after kept k))).kept

  conserving : IsKept s → s.queues.queues ≡ [] → (k : ℕ) → IsConserving (stock (after next s k)) (λ q. accepted next s q k) (λ q. taken_in next s q k)
  conserving kept none zero = conserving_none (stock s) none
  conserving kept none (suc k) =
      let here = after next s k in
      let kept_here = kept_after kept k in
      let one = step here (next here) kept_here (λ e. plan here e kept_here) in
      conserving_more (stock here) (stock (after_next here (next here))) (accepted_next here (next here)) (λ q. accepted next s q k) (taken_next here (next here)) (λ q. taken_in next s q k)
      kept_here.ids one.balanced (conserving kept none k)

pub conserved : ConservationLaw
conserved next s plan kept none k q y here = (conserving next s plan kept none k).live q y here
