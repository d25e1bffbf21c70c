-- The next delivery is the least.
use Rattle.std.proofs.Common.{◌≡◌, ℕ, zero, suc, ◌+◌, ◌<◌, ◌≤◌, Bool, true, false, cond, List, [], ◌∷◌, length, get_or, Option, None, Some, refl, sym, ap, ◌∙◌, arith}
use Rattle.std.specs.Prelude.{◌&&◌, ◌||◌, nat_lt}
use Rattle.std.specs.List.{position_from, zip, list_any}
use Rattle.std.proofs.lemmas.Bool.Decides.{nat_tests}
use Rattle.std.proofs.lemmas.List.{get_or_default, get_or_past}
use Rattle.std.proofs.lemmas.Option.{same_Some}
use Rattle.std.proofs.lemmas.Iterator.Adapters.{position_from-zero}
use Rattle.dev_irq.specs.declared.line.Line.{Line}
use Rattle.dev_irq.specs.State.{idle_line, line_of, is_waiting, is_deliverable, next}
use Rattle.dev_irq.specs.Laws.{can_deliver, NextLaw}

-- ---- from some slot on
abbrev next_from : ℕ → List Bool → List Line → Option ℕ
next_from n full lines = position_from is_deliverable n (zip full lines)

abbrev NoneBelow : List Bool → List Line → ℕ → Type 0
NoneBelow full lines i = (j : ℕ) → j < i → can_deliver full lines j ≡ false

and_false : (b : Bool) → (b && false) ≡ false
and_false true = refl
and_false false = refl

none_below : (f : Bool) (l : Line) (full : List Bool) (lines : List Line) (i : ℕ) → (f && is_waiting l) ≡ false → NoneBelow full lines i → NoneBelow (f ∷ full) (l ∷ lines) (suc i)
none_below f l full lines i here later zero h = here
none_below f l full lines i here later (suc j) h = later j (omega arith)

found_from : (n : ℕ) (full : List Bool) (lines : List Line) (m : ℕ) → next_from n full lines ≡ Some m → (i : ℕ) × (m ≡ n + i) × (can_deliver full lines i ≡ true) × NoneBelow full lines i
found_from n [] lines m e = absurd (cc)
found_from n (f ∷ full) [] m e = absurd (cc)
found_from n (f ∷ full) (l ∷ lines) m e =
    elim (f && is_waiting l) as (λ b. (f && is_waiting l) ≡ b → cond b (Some n) (next_from (n + 1) full lines) ≡ Some m → (i : ℕ) × (m ≡ n + i) × (can_deliver (f ∷ full) (l ∷ lines) i ≡ true) × NoneBelow (f ∷ full) (l ∷ lines) i) [
      | true ↦ λ here is. let at : n ≡ m = same_Some n m is in (0, omega (arith, at), here, (λ j h. absurd (omega arith)))
      | false ↦ λ here is.
          let r = found_from (n + 1) full lines m is in
          (suc r.0, omega (arith, r.1), r.2, none_below f l full lines r.0 here r.3)
    ] refl e

none_here : (b : Bool) (n : ℕ) (rest : Option ℕ) → cond b (Some n) rest ≡ None → (b ≡ false) × (rest ≡ None)
none_here true n rest e = absurd (cc)
none_here false n rest e = (refl, e)

missed_from : (n : ℕ) (full : List Bool) (lines : List Line) → next_from n full lines ≡ None → (j : ℕ) → can_deliver full lines j ≡ false
missed_from n [] lines e j = refl
missed_from n (f ∷ full) [] e j = and_false (get_or (f ∷ full) j false)
missed_from n (f ∷ full) (l ∷ lines) e zero = (none_here (f && is_waiting l) n (next_from (n + 1) full lines) e).0
missed_from n (f ∷ full) (l ∷ lines) e (suc j) = missed_from (n + 1) full lines (none_here (f && is_waiting l) n (next_from (n + 1) full lines) e).1 j

absent_from : (n : ℕ) (full : List Bool) (lines : List Line) → ((j : ℕ) → can_deliver full lines j ≡ false) → next_from n full lines ≡ None
absent_from n [] lines h = refl
absent_from n (f ∷ full) [] h = refl
absent_from n (f ∷ full) (l ∷ lines) h = ap (λ b. cond b (Some n) (next_from (n + 1) full lines)) (h 0) ∙ absent_from (n + 1) full lines (λ j. h (suc j))

present_from : (n : ℕ) (full : List Bool) (lines : List Line) (i : ℕ) → can_deliver full lines i ≡ true → NoneBelow full lines i → next_from n full lines ≡ Some (n + i)
present_from n [] lines i here below = absurd (cc)
present_from n (f ∷ full) [] i here below = let none = and_false (get_or (f ∷ full) i false) in absurd (cc)
present_from n (f ∷ full) (l ∷ lines) zero here below =
    let at : n ≡ n + 0 = omega arith in
    ap (λ b. cond b (Some n) (next_from (n + 1) full lines)) here ∙ ap Some at
present_from n (f ∷ full) (l ∷ lines) (suc i) here below =
    let at : n + 1 + i ≡ n + suc i = omega arith in
    ap (λ b. cond b (Some n) (next_from (n + 1) full lines)) (below 0 (omega arith))
    ∙ present_from (n + 1) full lines i here (λ j h. below (suc j) (omega arith))
    ∙ ap Some at

-- ---- from the first slot on
from_first : (full : List Bool) (lines : List Line) → next full lines ≡ next_from 0 full lines
unfolding next
from_first full lines = position_from-zero is_deliverable (zip full lines)

-- the slot that can be delivered before all others
pub next_is : (full : List Bool) (lines : List Line) (i : ℕ) → can_deliver full lines i ≡ true → NoneBelow full lines i → next full lines ≡ Some i
next_is full lines i here below =
    let at : 0 + i ≡ i = omega arith in
    from_first full lines ∙ present_from 0 full lines i here below ∙ ap Some at

pub next_none : (full : List Bool) (lines : List Line) → ((j : ℕ) → can_deliver full lines j ≡ false) → next full lines ≡ None
next_none full lines none = from_first full lines ∙ absent_from 0 full lines none

-- ---- slot by slot
pub delivers_at : (full : List Bool) (lines : List Line) (i : ℕ) (d : Line) → i < length lines → get_or full i false ≡ true → is_waiting (get_or lines i d) ≡ true → can_deliver full lines i ≡ true
delivers_at full lines i d within there waits =
    ap (λ b. b && is_waiting (line_of lines i)) there ∙ ap is_waiting (get_or_default lines i idle_line d within) ∙ waits

pub empty_at : (full : List Bool) (lines : List Line) (i : ℕ) → get_or full i false ≡ false → can_deliver full lines i ≡ false
empty_at full lines i empty = ap (λ b. b && is_waiting (line_of lines i)) empty

pub quiet_at : (full : List Bool) (lines : List Line) (i : ℕ) (d : Line) → i < length lines → is_waiting (get_or lines i d) ≡ false → can_deliver full lines i ≡ false
quiet_at full lines i d within quiet =
    ap (λ b. get_or full i false && b) (ap is_waiting (get_or_default lines i idle_line d within) ∙ quiet) ∙ and_false (get_or full i false)

-- there is no line after the last
pub none_at_all : (full : List Bool) (lines : List Line) (n : ℕ) → length lines ≤ n → ((j : ℕ) → j < n → can_deliver full lines j ≡ false) → next full lines ≡ None
none_at_all full lines n few below = next_none full lines (λ j. by j (nat_lt j n) refl)
  where
    by : (j : ℕ) (b : Bool) → nat_lt j n ≡ b → can_deliver full lines j ≡ false
    by j true e = let inside : j < n = grind (arith, nat_tests) in below j inside
    by j false e =
        let outside : length lines ≤ j = grind (arith, nat_tests) in
        ap (λ l. get_or full j false && is_waiting l) (get_or_past lines j idle_line outside) ∙ and_false (get_or full j false)

-- ---- no line is waiting
or_false : (a b : Bool) → (a || b) ≡ false → (a ≡ false) × (b ≡ false)
or_false true b e = absurd (cc)
or_false false b e = (refl, e)

none_waits : (lines : List Line) (j : ℕ) → list_any is_waiting lines ≡ false → is_waiting (line_of lines j) ≡ false
none_waits [] j e = refl
none_waits (l ∷ lines) zero e = (or_false (is_waiting l) (list_any is_waiting lines) e).0
none_waits (l ∷ lines) (suc j) e = none_waits lines j (or_false (is_waiting l) (list_any is_waiting lines) e).1

pub nexts : NextLaw
nexts full lines = record {
  found = λ i e.
      let r = found_from 0 full lines i (sym (from_first full lines) ∙ e) in
      let at : r.0 ≡ i = omega (arith, r.1) in
      (ap (can_deliver full lines) (sym at) ∙ r.2, (λ j h. r.3 j (omega arith)));
  missed = λ e. missed_from 0 full lines (sym (from_first full lines) ∙ e);
  absent = λ none. next_none full lines none;
  idle = λ e. next_none full lines (λ j. ap (λ b. get_or full j false && b) (none_waits lines j e) ∙ and_false (get_or full j false));
}
