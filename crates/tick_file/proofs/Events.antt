-- The events of rules, in order.
use Rattle.std.proofs.Common.{◌≡◌, ℕ, suc, zero, ◌+◌, ◌*◌, ◌≤◌, false, List, [], ◌∷◌, ◌++◌, map, refl, sym, ap, ◌∙◌, arith}
use Rattle.std.specs.Cmp.{IsStrictWeakOrder}
use Rattle.std.specs.Cmp.Lexicographic.{slice_cmp}
use Rattle.std.specs.Ordering.{is_lt, nat_cmp, ordering_reverse}
use Rattle.std.specs.FinMap.{slice_cmp-IsAntisymmetric, nat_cmp-IsAntisymmetric}
use Rattle.std.specs.declared.cmp.Ordering.{Ordering}
use Rattle.std.specs.declared.cmp.Ordering.TheVariants.{Less, Equal, Greater}
use Rattle.std.specs.List.{AllByRecursion, All, Contains, flat_map, count_by}
use Rattle.std.specs.List.Sorted.{IsPermutation, ties}
use Rattle.std.proofs.lemmas.Cmp.{nat_list_cmp_total}
use Rattle.std.proofs.lemmas.Bool.Decides.{nat_tests}
use Rattle.std.proofs.lemmas.List.MinMax.{ranks_by}
use Rattle.std.proofs.lemmas.List.Sorted.{IsPermutation-sym, Contains-permutation, sum_by-IsPermutation}
use Rattle.std.proofs.lemmas.List.Elements.{All-contains}
use Rattle.std.specs.declared.cmp.Reverse.{Reverse}
use Rattle.id_table.specs.Sorting.{sorted}
use Rattle.tick_file.specs.declared.event.Event.{Event}
use Rattle.tick_file.specs.declared.event.Rule.{Rule}
use Rattle.tick_file.specs.declared.event.Rule.TheVariants.{At, Every}
use Rattle.tick_file.specs.declared.pending.Pending.{Pending}
use Rattle.tick_file.specs.Lines.{Numbered}
use Rattle.tick_file.specs.Schedule.{Timed, events_from, events_at, events_of, place_of, before}
use Rattle.tick_file.specs.Inside.{coming, next_of, upcoming, pending_at, pending_of, waiting_of, events_in, Agree}
use Rattle.tick_file.proofs.Merging.{all_weaker, all_both, count-flat_map, sorted_alike}

pub order : IsStrictWeakOrder before
unfolding before
order = ranks_by nat_list_cmp_total place_of

-- neither of two orderings is `Less`, and each is the reverse of the other
tied_places : (xs ys : List ℕ) → is_lt (slice_cmp nat_cmp xs ys) ≡ false → is_lt (slice_cmp nat_cmp ys xs) ≡ false → xs ≡ ys
tied_places xs ys p q = slice_cmp-IsAntisymmetric nat_cmp-IsAntisymmetric xs ys (neither (slice_cmp nat_cmp xs ys) (slice_cmp nat_cmp ys xs) p q (nat_list_cmp_total.antisymm xs ys))
  where
    neither : (r s : Ordering) → is_lt r ≡ false → is_lt s ≡ false → r ≡ ordering_reverse s → r ≡ Equal
    neither Less s p q e = absurd (cc)
    neither Equal s p q e = refl
    neither Greater Less p q e = absurd (cc)
    neither Greater Equal p q e = absurd (cc)
    neither Greater Greater p q e = absurd (cc)

-- two events, neither of which is before the other, are at the same place
pub one_place : (a b : Timed) → before a b ≡ false → before b a ≡ false → place_of a ≡ place_of b
unfolding before
one_place a b p q = tied_places (place_of a) (place_of b) p q

-- an event later in the same line is not before
pub not_before : (t l n u m : ℕ) (e f : Event) → t ≤ u → n ≤ m → before (record { time = u; line = l; number = m; event = f }) (record { time = t; line = l; number = n; event = e }) ≡ false
unfolding before
not_before t l n u m e f h k = grind (arith, nat_tests)

-- ---- the events of one rule
-- none of them is before the first
pub coming_late : (period : ℕ) (t : Timed) (left : ℕ) → AllByRecursion (λ e. before e t ≡ false) (coming period t left)
coming_late period t zero = tt
coming_late period t (suc left) =
    let after : Timed = record t { time = t.time + period; number = suc t.number } in (
      not_before t.time t.line t.number t.time t.number t.event t.event (omega arith) (omega arith),
      all_weaker (λ e. before e after ≡ false) (λ e. before e t ≡ false)
          (λ e h. order.chain e after t h (not_before t.time t.line t.number after.time after.number t.event t.event (omega arith) (omega arith)))
          (coming period after left) (coming_late period after left),
    )

-- each has the line and the event of the first
abbrev pub IsLike : ℕ → Event → Timed → Type 0
IsLike line event e = (e.line ≡ line) × (e.event ≡ event)

pub coming_alike : (period : ℕ) (t : Timed) (left : ℕ) → AllByRecursion (IsLike t.line t.event) (coming period t left)
coming_alike period t zero = tt
coming_alike period t (suc left) = ((refl, refl), coming_alike period (record t { time = t.time + period; number = suc t.number }) left)

-- the events from number k on are one period apart
pub events_coming : (n period : ℕ) (event : Event) (k count : ℕ) → events_from n period event k count ≡ coming period (record { time = k * period; line = n; number = k; event = event }) count
events_coming n period event k zero = refl
events_coming n period event k (suc count) =
    let e : suc k * period ≡ k * period + period = omega arith in
    ap (λ es. record { time = k * period; line = n; number = k; event = event } ∷ es)
    (events_coming n period event (suc k) count ∙ ap (λ t. coming period (record { time = t; line = n; number = suc k; event = event }) count) e)

-- before its first event, a rule has all its events left
pub all_to_come : (r : Numbered) → upcoming (pending_of r) ≡ events_of r
all_to_come r = by r.line r.rule
  where
    by : (n : ℕ) (rule : Rule) → upcoming (pending_at n rule) ≡ events_at n rule
    by n (At time event) = refl
    by n (Every period count event) =
        let e : 1 * period ≡ period = omega arith in
        sym (events_coming n period event 1 count ∙ ap (λ t. coming period (record { time = t; line = n; number = 1; event = event }) count) e)

-- ---- the events of several rules
pub events_waiting : (rs : List Numbered) → events_in (map waiting_of rs) ≡ flat_map events_of rs
events_waiting [] = refl
events_waiting (r ∷ rs) = ap (λ es. es ++ events_in (map waiting_of rs)) (all_to_come r) ∙ ap (λ es. events_of r ++ es) (events_waiting rs)

-- if no rule's next event is before an event, none of their events is
pub all_late : (t : Timed) (ps : List (Reverse Pending)) → AllByRecursion (λ p. before (next_of p.0) t ≡ false) ps → AllByRecursion (λ e. before e t ≡ false) (events_in ps)
all_late t [] h = tt
all_late t (p ∷ ps) h =
    all_both (λ e. before e t ≡ false) (upcoming p.0) (events_in ps)
    (all_weaker (λ e. before e (next_of p.0) ≡ false) (λ e. before e t ≡ false) (λ e q. order.chain e (next_of p.0) t q h.0) (upcoming p.0) (coming_late p.0.period (next_of p.0) p.0.left))
    (all_late t ps h.1)

-- an event has the line and the event of one of some rules
abbrev pub IsOfOne : List (Reverse Pending) → Timed → Type 0
IsOfOne ps e = (p : Reverse Pending) × Contains ps p × (e.line ≡ p.0.line) × (e.event ≡ p.0.event)

pub of_some : (all ps : List (Reverse Pending)) → ((p : Reverse Pending) → Contains ps p → Contains all p) → AllByRecursion (IsOfOne all) (events_in ps)
of_some all [] h = tt
of_some all (p ∷ ps) h =
    all_both (IsOfOne all) (upcoming p.0) (events_in ps)
    (all_weaker (IsLike p.0.line p.0.event) (IsOfOne all) (λ e k. (p, h p (0, omega arith, refl), k.0, k.1)) (upcoming p.0) (coming_alike p.0.period (next_of p.0) p.0.left))
    (of_some all ps (λ q k. h q (suc k.0, omega (arith, k.1), k.2)))

-- two events of rules that agree, neither of which is before the other, are the same
same_event : (ps : List (Reverse Pending)) → All (λ p. All (λ q. Agree p.0 q.0) ps) ps → (a b : Timed) → IsOfOne ps a → IsOfOne ps b → before a b ≡ false → before b a ≡ false → a ≡ b
same_event ps agree a b p q h k =
    let place = one_place a b h k in
    let line : a.line ≡ b.line = cc in
    let agrees : Agree p.0.0 q.0.0 = All-contains (λ r. Agree p.0.0 r.0) ps q.0 (All-contains (λ r. All (λ s. Agree r.0 s.0) ps) ps p.0 agree p.1) q.1 in
    let event : a.event ≡ b.event = p.3 ∙ agrees (sym p.2 ∙ line ∙ q.2) ∙ sym q.3 in
    let time : a.time ≡ b.time = cc in
    let number : a.number ≡ b.number = cc in
    λ i. record { time = time i; line = line i; number = number i; event = event i }

-- rules that agree have the same events in order, in whatever order the rules are
pub same_events : (ps qs : List (Reverse Pending)) → All (λ p. All (λ q. Agree p.0 q.0) ps) ps → IsPermutation ps qs → sorted before (events_in ps) ≡ sorted before (events_in qs)
same_events ps qs agree moved =
    sorted_alike before order (IsOfOne ps) (same_event ps agree) (events_in ps) (events_in qs)
    (of_some ps ps (λ p k. k))
    (of_some ps qs (λ p k. Contains-permutation qs ps p (IsPermutation-sym ps qs moved) k))
    (λ z.
    count-flat_map (ties before z) (λ p. upcoming p.0) ps
    ∙ sym (sum_by-IsPermutation (λ p. count_by (ties before z) (upcoming p.0)) ps qs moved)
    ∙ sym (count-flat_map (ties before z) (λ p. upcoming p.0) qs))
