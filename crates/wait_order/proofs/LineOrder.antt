-- The order of waiters, and what follows from it.
use Rattle.std.proofs.Common.{◌≡◌, ℕ, true, List, Option, None, Some, refl}
use Rattle.std.specs.List.{filter, Contains}
use Rattle.std.specs.Option.{option_map}
use Rattle.std.specs.Cmp.{IsStrictWeakOrder}
use Rattle.std.specs.Cmp.Lexicographic.{nat_list_cmp_total}
use Rattle.std.proofs.lemmas.List.MinMax.{ranks_by}
use Rattle.std.proofs.lemmas.List.Elements.{All-contains, All-contains_itself, All-filter}
use Rattle.linked_lists.specs.IdTablePlace.{Place}
use Rattle.linked_lists.specs.IdTableSorting.{first}
use Rattle.linked_lists.proofs.IdTableOrders.{first_least}
use Rattle.linked_lists.proofs.IdTablePassing.{contains_filter, front_passes, none_passes}
use Rattle.linked_lists.proofs.IdTablePlaces.{gone, of_id-with_record, of_id-without}
use Rattle.wait_order.specs.declared.waits.Waiter.{Waiter}
use Rattle.wait_order.specs.Line.{Line, waiter_id, waiter_of, without_waiter, key, stands_before, stands_at, line_at}
use Rattle.wait_order.specs.Laws.{FirstLaw, NobodyLaw, PutLaw, TakeLaw}

pub stands_before-order : IsStrictWeakOrder stands_before
stands_before-order = ranks_by nat_list_cmp_total key

-- ---- the first
pub named : (o : Option Waiter) (who : ℕ) → option_map waiter_id o ≡ Some who → (w : Waiter) × (o ≡ Some w) × (w.who ≡ who)
named None who e = absurd (cc)
named (Some w) who e = (w, refl, cc)

unnamed : (o : Option Waiter) → option_map waiter_id o ≡ None → o ≡ None
unnamed None e = refl
unnamed (Some w) e = absurd (cc)

among : (ws : List Waiter) (place : Place) (w : Waiter) → Contains (filter (stands_at place) ws) w → Contains ws w
among ws place w at = All-contains (Contains ws) (filter (stands_at place) ws) w (All-filter (stands_at place) (Contains ws) ws (All-contains_itself ws)) at

pub first_is_least : FirstLaw
first_is_least ws place who e =
    let found = named (first (line_at ws place)) who e in
    let least = first_least stands_before stands_before-order (filter (stands_at place) ws) found.0 found.1 in
    record {
      waiter = found.0;
      own = found.2;
      waits = among ws place found.0 least.0;
      here = front_passes waiter_id stands_before stands_before-order (stands_at place) ws found.0 found.1;
      least = λ w at here. least.1 w (All-contains (λ v. stands_at place v ≡ true → Contains (filter (stands_at place) ws) v) ws w (contains_filter (stands_at place) ws) at here);
    }

pub nobody_waits : NobodyLaw
nobody_waits ws place e = none_passes waiter_id stands_before stands_before-order (stands_at place) ws (unnamed (first (line_at ws place)) e)

-- ---- waiters are added and removed
pub put_in : PutLaw
put_in l w id none = of_id-with_record waiter_id l.waiters w id none

pub taken_out : TakeLaw
taken_out l who id = of_id-without waiter_id l.waiters who id

-- two lines with the same waiters
pub line_alike : (ws us : List Waiter) (n : ℕ) → ws ≡ us → ◌≡◌ {A = Line} (record { waiters = ws; room = n }) (record { waiters = us; room = n })
line_alike ws us n e = λ i. record { waiters = e i; room = n }

-- a removed task doesn't wait
pub taken_absent : (l : Line) (who : ℕ) → waiter_of (without_waiter l who).waiters who ≡ None
taken_absent l who = gone waiter_id l.waiters who
