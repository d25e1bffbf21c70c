-- The rules in a heap, as its top moves on or leaves.
use Rattle.std.proofs.Common.{◌≡◌, ℕ, zero, suc, ◌+◌, ◌-◌, ◌<◌, ◌≤◌, false, List, [], ◌∷◌, ◌++◌, length, get_or, drop, Some, refl, sym, ap, ◌∙◌, subst, arith}
use Rattle.std.specs.BinaryHeap.{IsHeap, IsUpperBound}
use Rattle.std.specs.List.{AllByRecursion, All, remove}
use Rattle.std.specs.List.Sorted.{IsPermutation}
use Rattle.std.specs.Ordering.{is_lt, nat_cmp, ordering_then}
use Rattle.std.specs.declared.cmp.Ordering.{Ordering}
use Rattle.std.specs.declared.cmp.Ordering.TheVariants.{Less, Equal, Greater}
use Rattle.std.specs.declared.cmp.Reverse.{Reverse}
use Rattle.std.proofs.lemmas.List.Sorted.{All-permutation, IsPermutation-remove}
use Rattle.std.proofs.lemmas.List.Elements.{All-cons, All-head, All-tail, All-from_recursion, recursion_from_All}
use Rattle.id_table.specs.Sorting.{sorted, first}
use Rattle.tick_file.specs.declared.pending.Pending.{Pending}
use Rattle.tick_file.specs.Schedule.{Timed, before}
use Rattle.tick_file.specs.Inside.{coming, next_of, upcoming, moved_on, IsSound, Agree, by_next, IsKept, events_in, waiting}
use Rattle.tick_file.proofs.Merging.{sorted_head}
use Rattle.tick_file.proofs.Events.{all_late, same_events}

-- ---- the first of the future events
coming_next : (period : ℕ) (t : Timed) (left : ℕ) → 0 < left → coming period t left ≡ t ∷ coming period (record t { time = t.time + period; number = t.number + 1 }) (left - 1)
coming_next period t zero h = absurd (omega arith)
coming_next period t (suc left) h =
    let n : suc t.number ≡ t.number + 1 = omega arith in
    let l : left ≡ suc left - 1 = omega arith in
    ap (λ k. t ∷ coming period (record t { time = t.time + period; number = k }) left) n
    ∙ ap (λ k. t ∷ coming period (record t { time = t.time + period; number = t.number + 1 }) k) l

pub upcoming_next : (p : Pending) → 0 < p.left → upcoming p ≡ next_of p ∷ upcoming (moved_on p)
upcoming_next p h = coming_next p.period (next_of p) p.left h

then_equal : (r : Ordering) → ordering_then r Equal ≡ r
then_equal Less = refl
then_equal Equal = refl
then_equal Greater = refl

-- the heap's order is that of the next events
by_next_before : (p q : Reverse Pending) → before (next_of q.0) (next_of p.0) ≡ is_lt (by_next p q)
unfolding before
by_next_before p q = ap (λ r. is_lt (ordering_then (nat_cmp q.0.time p.0.time) (ordering_then (nat_cmp q.0.line p.0.line) r))) (then_equal (nat_cmp q.0.number p.0.number))

late_rules : (top : Reverse Pending) (ps : List (Reverse Pending)) → IsUpperBound by_next top ps → AllByRecursion (λ p. before (next_of p.0) (next_of top.0) ≡ false) ps
late_rules top [] h = tt
late_rules top (p ∷ ps) h = (by_next_before top p ∙ h.0, late_rules top ps h.1)

-- ---- rules that agree
abbrev pub AllAgree : List (Reverse Pending) → Type 0
AllAgree ps = All (λ p. All (λ q. Agree p.0 q.0) ps) ps

pub agree_moved : (ps qs : List (Reverse Pending)) → IsPermutation ps qs → AllAgree ps → AllAgree qs
agree_moved ps qs moved agree =
    All-permutation (λ p. All (λ q. Agree p.0 q.0) qs) ps qs moved (λ k d h. All-permutation (λ q. Agree (get_or ps k d).0 q.0) ps qs moved (agree k d h))

agree_rest : (top : Reverse Pending) (rest : List (Reverse Pending)) → AllAgree (top ∷ rest) → AllAgree rest
agree_rest top rest agree k d h =
    All-tail (λ q. Agree (get_or rest k d).0 q.0) top rest (All-tail (λ p. All (λ q. Agree p.0 q.0) (top ∷ rest)) top rest agree k d h)

agree_other : (top x : Reverse Pending) (rest : List (Reverse Pending)) → x.0.line ≡ top.0.line → x.0.event ≡ top.0.event → AllAgree (top ∷ rest) → AllAgree (x ∷ rest)
agree_other top x rest line event agree =
    let own = All-tail (λ q. Agree top.0 q.0) top rest (All-head (λ p. All (λ q. Agree p.0 q.0) (top ∷ rest)) top rest agree) in
    let others = All-tail (λ p. All (λ q. Agree p.0 q.0) (top ∷ rest)) top rest agree in
    All-cons (λ p. All (λ q. Agree p.0 q.0) (x ∷ rest)) x rest
    (All-cons (λ q. Agree x.0 q.0) x rest (λ e. refl) (λ k d h e. event ∙ own k d h (sym line ∙ e)))
    (λ k d h.
    All-cons (λ q. Agree (get_or rest k d).0 q.0) x rest
    (λ e. All-head (λ q. Agree (get_or rest k d).0 q.0) top rest (others k d h) (e ∙ line) ∙ sym event)
    (All-tail (λ q. Agree (get_or rest k d).0 q.0) top rest (others k d h)))

-- ---- the top of a heap
module _ (ps rest : List (Reverse Pending)) (top : Reverse Pending) (kept : IsKept ps) (moved : IsPermutation ps (top ∷ rest)) (least : IsUpperBound by_next top ps) where
  own_sound : IsSound top.0
  own_sound = All-head (λ p. IsSound p.0) top rest (All-permutation (λ p. IsSound p.0) ps (top ∷ rest) moved kept.sound)

  rest_sound : All (λ p. IsSound p.0) rest
  rest_sound = All-tail (λ p. IsSound p.0) top rest (All-permutation (λ p. IsSound p.0) ps (top ∷ rest) moved kept.sound)

  all_agree : AllAgree (top ∷ rest)
  all_agree = agree_moved ps (top ∷ rest) moved kept.agree

  late : AllByRecursion (λ e. before e (next_of top.0) ≡ false) (upcoming (moved_on top.0) ++ events_in rest)
  late =
      let rules = recursion_from_All (λ p. before (next_of p.0) (next_of top.0) ≡ false) (top ∷ rest)
      (All-permutation (λ p. before (next_of p.0) (next_of top.0) ≡ false) ps (top ∷ rest) moved (All-from_recursion (λ p. before (next_of p.0) (next_of top.0) ≡ false) ps (late_rules top ps least))) in
      (subst (λ es. AllByRecursion (λ e. before e (next_of top.0) ≡ false) (es ++ events_in rest)) (upcoming_next top.0 own_sound.some) (all_late (next_of top.0) (top ∷ rest) rules)).1

  -- its event is the first in order, and the others are the future events once it has moved on
  pub top_waits : waiting ps ≡ next_of top.0 ∷ sorted before (upcoming (moved_on top.0) ++ events_in rest)
  top_waits =
      same_events ps (top ∷ rest) kept.agree moved
      ∙ ap (λ es. sorted before (es ++ events_in rest)) (upcoming_next top.0 own_sound.some)
      ∙ sorted_head before (next_of top.0) (upcoming (moved_on top.0) ++ events_in rest) late

  -- after it has moved on
  pub moved_kept : (x : Reverse Pending) (new : List (Reverse Pending)) → 1 < top.0.left → x.0 ≡ moved_on top.0 → IsPermutation (x ∷ rest) new → IsHeap by_next new → IsKept new × (waiting new ≡ drop 1 (waiting ps))
  moved_kept x new more is put heap =
      let agree = agree_other top x rest (ap (λ p. p.line) is) (ap (λ p. p.event) is) all_agree in
      let some = own_sound in
      let sound : IsSound (moved_on top.0) = record { some = omega arith; numbers = omega arith; apart = some.apart; times = omega arith } in (
        record {
          heap = heap;
          sound = All-permutation (λ p. IsSound p.0) (x ∷ rest) new put (All-cons (λ p. IsSound p.0) x rest (subst IsSound (sym is) sound) rest_sound);
          agree = agree_moved (x ∷ rest) new put agree;
        },
        sym (same_events (x ∷ rest) new agree put) ∙ ap (λ p. sorted before (upcoming p ++ events_in rest)) is ∙ ap (drop 1) (sym top_waits),
      )

  -- after it has left with its last event
  pub last_kept : (new : List (Reverse Pending)) → top.0.left ≤ 1 → IsPermutation rest new → IsHeap by_next new → IsKept new × (waiting new ≡ drop 1 (waiting ps))
  last_kept new last put heap =
      let agree = agree_rest top rest all_agree in
      let some = own_sound in
      let none : 0 ≡ top.0.left - 1 = omega arith in (
        record {
          heap = heap;
          sound = All-permutation (λ p. IsSound p.0) rest new put rest_sound;
          agree = agree_moved rest new put agree;
        },
        sym (same_events rest new agree put)
            ∙ ap (λ n. sorted before (coming top.0.period (next_of (moved_on top.0)) n ++ events_in rest)) none
            ∙ ap (drop 1) (sym top_waits),
      )

-- the event of the rule at the top is the first in order
pub top_first : (ps : List (Reverse Pending)) (top : Reverse Pending) → IsKept ps → 0 < length ps → top ≡ get_or ps 0 top → IsUpperBound by_next top ps → first (waiting ps) ≡ Some (next_of top.0)
top_first ps top kept some is least = ap first (top_waits ps (remove ps 0) top kept (IsPermutation-remove ps 0 top some is) least)
