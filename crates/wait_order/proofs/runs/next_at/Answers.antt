use Rattle.std.proofs.Common.{◌≡◌, ℕ, Bool, true, false, List, Option, ap, ◌∙◌, sym, cond, Some, None}
use Rattle.linked_lists.specs.IdTablePlace.{Place}
use Rattle.wait_order.specs.declared.waits.Waiter.{Waiter}
use Rattle.wait_order.specs.Line.{stands_at, waiter_of}
use Rattle.wait_order.specs.Inside.{waiters_in, next_there, if_there}
use Rattle.wait_order.proofs.Standing.{own_value}
use Rattle.wait_order.proofs.runs.next_at.Goals as goal

-- the next waiter, if the test of its place is b
next_told : (ws : List Waiter) (next : Option ℕ) (place : Place) (id : ℕ) (w : Waiter) (b : Bool) → next ≡ Some id → waiter_of ws id ≡ Some w → b ≡ stands_at place w
    → cond b (Some id) None ≡ next_there ws next place
next_told ws next place id w b is found test = ap (λ t. cond t (Some id) None) test ∙ sym (ap (λ o. next_there ws o place) is ∙ ap (if_there place id) found)

pub returns-then-stands_at : goal.returns-then-stands_at
returns-then-stands_at c =
    next_told (waiters_in c.args.waiters.now.chains) c.args.next c.args.place.now c.in_ok-id.id c.value.result.now true c.in_ok-id.was
    (sym (own_value c.args.waiters.now.chains c.requires.own c.in_ok-id.id) ∙ c.value.ensures) c.if-stands_at.ensures

pub returns-else-stands_at : goal.returns-else-stands_at
returns-else-stands_at c =
    next_told (waiters_in c.args.waiters.now.chains) c.args.next c.args.place.now c.in_ok-id.id c.value.result.now false c.in_ok-id.was
    (sym (own_value c.args.waiters.now.chains c.requires.own c.in_ok-id.id) ∙ c.value.ensures) c.if-stands_at.ensures
