-- The orders of tasks.
use Rattle.std.proofs.Common.{◌≡◌, ℕ, false, List, sym, ap, ◌∙◌}
use Rattle.std.specs.Cmp.{IsStrictWeakOrder}
use Rattle.std.specs.Cmp.Lexicographic.{slice_cmp, nat_list_cmp_total}
use Rattle.std.specs.Ordering.{is_lt, nat_cmp, ordering_reverse}
use Rattle.std.specs.declared.cmp.Ordering.TheVariants.{Less, Equal, Greater}
use Rattle.std.proofs.lemmas.List.MinMax.{ranks_by}
use Rattle.std.proofs.lemmas.Map.Lookups.{exact_bytes}
use Rattle.wind_core.specs.Orders.{is_less, urgency, arrival, wait_key, wake_key, is_before, waits_before, arrives_before, wakes_before}

-- two lists of numbers are equal if neither is before the other
pub neither : (a b : List ℕ) → is_less a b ≡ false → is_less b a ≡ false → a ≡ b
neither a b left right =
    elim (slice_cmp nat_cmp b a) as (λ r. slice_cmp nat_cmp a b ≡ ordering_reverse r → is_lt r ≡ false → a ≡ b) [
      | Less ↦ λ e q. absurd (cc)
      | Equal ↦ λ e q. exact_bytes a b e
      | Greater ↦ λ e q. let less = sym (ap is_lt e) ∙ left in absurd (cc)
    ] (nat_list_cmp_total.antisymm a b) right

pub is_before-order : IsStrictWeakOrder is_before
is_before-order = ranks_by nat_list_cmp_total urgency

pub waits_before-order : IsStrictWeakOrder waits_before
waits_before-order = ranks_by nat_list_cmp_total wait_key

pub arrives_before-order : IsStrictWeakOrder arrives_before
arrives_before-order = ranks_by nat_list_cmp_total arrival

pub wakes_before-order : IsStrictWeakOrder wakes_before
wakes_before-order = ranks_by nat_list_cmp_total wake_key
