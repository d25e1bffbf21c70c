-- One more rule, of one event that comes last.
use Rattle.std.proofs.Common.{◌≡◌, ℕ, ◌^◌, ◌-◌, ◌<◌, ◌≤◌, Bool, true, cond, List, [], ◌∷◌, ◌++◌, get_or, refl, sym, ap, ◌∙◌, subst, arith}
use Rattle.std.specs.BinaryHeap.{IsHeap}
use Rattle.std.specs.List.{AllByRecursion, All}
use Rattle.std.specs.List.Sorted.{IsPermutation}
use Rattle.std.specs.declared.cmp.Reverse.{Reverse}
use Rattle.std.proofs.lemmas.Bool.Decides.{nat_tests}
use Rattle.std.proofs.lemmas.List.Sorted.{All-permutation, IsPermutation-sym}
use Rattle.std.proofs.lemmas.List.Elements.{All-cons, All-head, All-tail, All-from_recursion, recursion_from_All}
use Rattle.id_table.specs.Sorting.{insert_sorted}
use Rattle.id_table.proofs.Orders.{IsPermutation-sorted}
use Rattle.tick_file.specs.declared.event.Event.{Event}
use Rattle.tick_file.specs.declared.event.Rule.TheVariants.{At}
use Rattle.tick_file.specs.declared.pending.Pending.{Pending}
use Rattle.tick_file.specs.Schedule.{Timed, before}
use Rattle.tick_file.specs.Inside.{next_of, upcoming, pending_at, IsSound, Agree, by_next, IsKept, events_in, waiting}
use Rattle.tick_file.proofs.Events.{same_events}
use Rattle.tick_file.proofs.Heaps.{AllAgree, agree_moved, upcoming_next}

-- another event comes at the same time or later, and a later line asks for it
abbrev IsBefore : ℕ → ℕ → Timed → Type 0
IsBefore time line e = (e.time ≤ time) × (e.line < line)

before_it : (time line : ℕ) (event : Event) (e : Timed) → IsBefore time line e → before e (record { time = time; line = line; number = 1; event = event }) ≡ true
unfolding before
before_it time line event e h = grind (arith, nat_tests, h)

module _ {X : Type 0} where
  insert_last : (lt : X → X → Bool) (x : X) (ys : List X) → AllByRecursion (λ y. lt y x ≡ true) ys → insert_sorted lt x ys ≡ ys ++ x ∷ []
  insert_last lt x [] h = refl
  insert_last lt x (y ∷ ys) h = ap (λ b. cond b (y ∷ insert_sorted lt x ys) (x ∷ y ∷ ys)) h.0 ∙ ap (λ zs. y ∷ zs) (insert_last lt x ys h.1)

  right_all : (P : X → Type 0) (xs ys : List X) → AllByRecursion P (xs ++ ys) → AllByRecursion P ys
  right_all P [] ys h = h
  right_all P (x ∷ xs) ys h = right_all P xs ys h.1

-- the line of each rule is that of an event to come
lines_less : (line : ℕ) (ps : List (Reverse Pending)) → All (λ p. IsSound p.0) ps → AllByRecursion (λ (e : Timed). e.line < line) (events_in ps) → AllByRecursion (λ (p : Reverse Pending). p.0.line < line) ps
lines_less line [] sound h = tt
lines_less line (p ∷ ps) sound h =
    let some = (All-head (λ (p : Reverse Pending). IsSound p.0) p ps sound).some in (
      (subst (λ es. AllByRecursion (λ (e : Timed). e.line < line) (es ++ events_in ps)) (upcoming_next p.0 some) h).0,
      lines_less line ps (All-tail (λ (p : Reverse Pending). IsSound p.0) p ps sound) (right_all (λ (e : Timed). e.line < line) (upcoming p.0) (events_in ps) h),
    )

module _ (ps : List (Reverse Pending)) (kept : IsKept ps) (time line : ℕ) (event : Event) (small : time ≤ 2 ^ 32 - 1) (last : All (IsBefore time line) (waiting ps)) where
  abbrev added : Reverse Pending
  added = record { 0 = pending_at line (At time event) }

  others : All (λ (p : Reverse Pending). p.0.line < line) ps
  others =
      All-from_recursion (λ (p : Reverse Pending). p.0.line < line) ps
      (lines_less line ps kept.sound
      (recursion_from_All (λ (e : Timed). e.line < line) (events_in ps)
      (All-permutation (λ (e : Timed). e.line < line) (waiting ps) (events_in ps) (IsPermutation-sym (events_in ps) (waiting ps) (IsPermutation-sorted before (events_in ps))) (λ k d h. (last k d h).1))))

  agree : AllAgree (added ∷ ps)
  agree =
      All-cons (λ p. All (λ q. Agree p.0 q.0) (added ∷ ps)) added ps
      (All-cons (λ q. Agree added.0 q.0) added ps (λ e. refl) (λ k d h e. absurd (omega (arith, others k d h, e))))
      (λ k d h. All-cons (λ q. Agree (get_or ps k d).0 q.0) added ps (λ e. absurd (omega (arith, others k d h, e))) (kept.agree k d h))

  sound : IsSound added.0
  sound = record { some = omega arith; numbers = omega arith; apart = omega arith; times = omega (arith, small) }

  pub added_kept : (new : List (Reverse Pending)) → IsPermutation (added ∷ ps) new → IsHeap by_next new → IsKept new × (waiting new ≡ waiting ps ++ record { time = time; line = line; number = 1; event = event } ∷ [])
  added_kept new moved heap = (
    record {
      heap = heap;
      sound = All-permutation (λ (p : Reverse Pending). IsSound p.0) (added ∷ ps) new moved (All-cons (λ (p : Reverse Pending). IsSound p.0) added ps sound kept.sound);
      agree = agree_moved (added ∷ ps) new moved agree;
    },
    sym (same_events (added ∷ ps) new agree moved)
        ∙ insert_last before (next_of added.0) (waiting ps)
        (recursion_from_All (λ e. before e (next_of added.0) ≡ true) (waiting ps) (λ k d h. before_it time line event (get_or (waiting ps) k d) (last k d h))),
  )
