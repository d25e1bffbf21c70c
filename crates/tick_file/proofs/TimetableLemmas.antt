-- The pieces of a text, and the events of its timetable.
use Rattle.std.proofs.Common.{◌≡◌, ◌≢◌, ℕ, zero, suc, ◌+◌, ◌*◌, ◌<◌, ◌≤◌, Bool, true, false, cond, not, List, [], ◌∷◌, length, get_or, refl, sym, ap, ◌∙◌, subst, arith}
use Rattle.std.specs.Prelude.{◌&&◌, ◌==◌, ◌⊎◌}
use mathlib.Core.Logic.{inl, inr, ⊎_elim}
use Rattle.std.specs.List.{AllByRecursion, AllPairs, Contains, flat_map, count_by, list_all}
use Rattle.std.specs.List.Sorted.{ties}
use Rattle.std.proofs.lemmas.Bool.{cases_eq}
use Rattle.std.proofs.lemmas.Bool.Decides.{nat_tests}
use Rattle.std.proofs.lemmas.List.Sorted.{IsPermutation-sym, Contains-permutation, sum_by-IsPermutation}
use Rattle.std.proofs.lemmas.List.Elements.{All-from_recursion, Contains-append_left, Contains-append_right, Contains-append_cases}
use Rattle.std.proofs.lemmas.List.Kept.{AllPairs-cons}
use Rattle.std.proofs.lemmas.List.Sums.{sum_by-cons, sum_by-append}
use Rattle.std.proofs.lemmas.Grind.{flat_map-append}
use Rattle.id_table.specs.Sorting.{sorted}
use Rattle.id_table.proofs.Sorting.{InOrder, in_order_sorted}
use Rattle.id_table.proofs.Orders.{IsPermutation-sorted, not_before_itself}
use Rattle.tick_file.specs.declared.event.Event.{Event}
use Rattle.tick_file.specs.declared.event.Rule.{Rule}
use Rattle.tick_file.specs.declared.event.Rule.TheVariants.{At, Every}
use Rattle.tick_file.specs.declared.event.Said.{Said}
use Rattle.tick_file.specs.declared.event.Said.TheVariants.{Nothing, Says, Outside}
use Rattle.tick_file.specs.Grammar.{said}
use Rattle.tick_file.specs.Lines.{rule_at, rules_from, tick_lines, rules_of}
use Rattle.tick_file.specs.Schedule.{Timed, events_from, events_at, events_of, place_of, before, timetable_of}
use Rattle.tick_file.specs.Laws.{joined, HasNoEnd, PiecesLaw, AsksAt, TimetableLaw}
use Rattle.source_text.specs.Lines.{pieces, onto_first}
use Rattle.source_text.proofs.Cutting.{first_piece, pieces_end, pieces_on}
use Rattle.tick_file.proofs.Events.{order, one_place}

-- ---- the pieces of a text
joined_end : (bs : List ℕ) → joined ([] ∷ pieces bs) ≡ 10 ∷ joined (pieces bs)
joined_end bs = let k = first_piece bs in ap (λ ps. joined ([] ∷ ps)) k.2 ∙ ap (λ ps. 10 ∷ joined ps) (sym k.2)

joined_first : (b : ℕ) (piece : List ℕ) (more : List (List ℕ)) → joined ((b ∷ piece) ∷ more) ≡ b ∷ joined (piece ∷ more)
joined_first b piece [] = refl
joined_first b piece (next ∷ more) = refl

joined_on : (b : ℕ) (bs : List ℕ) → joined (onto_first b (pieces bs)) ≡ b ∷ joined (pieces bs)
joined_on b bs = let k = first_piece bs in ap (λ ps. joined (onto_first b ps)) k.2 ∙ joined_first b k.0 k.1 ∙ ap (λ ps. b ∷ joined ps) (sym k.2)

pieces_join : (bs : List ℕ) → joined (pieces bs) ≡ bs
pieces_join [] = refl
pieces_join (b ∷ bs) =
    ⊎_elim
    (λ e. ap joined (pieces_end b bs e) ∙ joined_end bs ∙ ap (λ (xs : List ℕ). 10 ∷ xs) (pieces_join bs) ∙ ap (λ x. x ∷ bs) (sym e))
    (λ e. ap joined (pieces_on b bs e) ∙ joined_on b bs ∙ ap (λ (xs : List ℕ). b ∷ xs) (pieces_join bs))
    (cases_eq b 10)

no_end_on : (b : ℕ) (ps : List (List ℕ)) → (not (b == 10)) ≡ true → AllByRecursion HasNoEnd ps → AllByRecursion HasNoEnd (onto_first b ps)
no_end_on b [] e h = (ap (λ c. c && true) e, tt)
no_end_on b (p ∷ ps) e h = (ap (λ c. c && list_all (λ x. not (x == 10)) p) e ∙ h.0, h.1)

no_ends : (bs : List ℕ) → AllByRecursion HasNoEnd (pieces bs)
no_ends [] = (refl, tt)
no_ends (b ∷ bs) =
    ⊎_elim
    (λ e. subst (AllByRecursion HasNoEnd) (sym (pieces_end b bs e)) (refl, no_ends bs))
    (λ e. let other : not (b == 10) ≡ true = grind (arith, nat_tests) in subst (AllByRecursion HasNoEnd) (sym (pieces_on b bs e)) (no_end_on b (pieces bs) other (no_ends bs)))
    (cases_eq b 10)

pub all_pieces : PiecesLaw
all_pieces text = (pieces_join text, All-from_recursion HasNoEnd (pieces text) (no_ends text))

-- ---- which events there are
module _ {X : Type 0} where
  pub split_at : (x : X) (xs : List X) (e : X) (k : ℕ) → k < suc (length xs) → get_or (x ∷ xs) k e ≡ e → (x ≡ e) ⊎ Contains xs e
  split_at x xs e zero l q = inl q
  split_at x xs e (suc k) l q = inr (k, omega arith, q)

  module _ {Y : Type 0} (f : Y → List X) (e : X) where
    of_one : (ys : List Y) → Contains (flat_map f ys) e → (y : Y) × Contains ys y × Contains (f y) e
    of_one [] h = absurd (omega (arith, h.1))
    of_one (y ∷ ys) h =
        ⊎_elim
        (λ k. (y, (0, omega arith, refl), k))
        (λ k. let r = of_one ys k in (r.0, (suc r.1.0, omega (arith, r.1.1), r.1.2), r.2))
        (Contains-append_cases (f y) (flat_map f ys) e h)

    in_all : (ys : List Y) (y : Y) (k : ℕ) → k < length ys → get_or ys k y ≡ y → Contains (f y) e → Contains (flat_map f ys) e
    in_all [] y k l q h = absurd (omega arith)
    in_all (z ∷ ys) y zero l q h = Contains-append_left (f z) (flat_map f ys) e (subst (λ x. Contains (f x) e) (sym q) h)
    in_all (z ∷ ys) y (suc k) l q h = Contains-append_right (f z) (flat_map f ys) e (in_all ys y k (omega arith) q h)

module _ (n period : ℕ) (event : Event) where
  abbrev nth : ℕ → Timed
  nth k = record { time = k * period; line = n; number = k; event = event }

  events_are : (k count : ℕ) (e : Timed) → Contains (events_from n period event k count) e → (m : ℕ) × (k ≤ m) × (m < k + count) × (e ≡ nth m)
  events_are k zero e h = absurd (omega (arith, h.1))
  events_are k (suc count) e h =
      ⊎_elim
      (λ q. (k, omega arith, omega arith, sym q))
      (λ r. let m = events_are (suc k) count e r in (m.0, omega (arith, m.1), omega (arith, m.2), m.3))
      (split_at (nth k) (events_from n period event (suc k) count) e h.0 h.1 h.2)

  events_have : (k count m : ℕ) → k ≤ m → m < k + count → Contains (events_from n period event k count) (nth m)
  events_have k zero m l h = absurd (omega arith)
  events_have k (suc count) m l h =
      ⊎_elim
      (λ q. (0, omega arith, ap nth q))
      (λ q. let r = events_have (suc k) count m (omega arith) (omega arith) in (suc r.0, omega (arith, r.1), r.2))
      (cases_eq k m)

asked_at : (n : ℕ) (rule : Rule) (e : Timed) → Contains (events_at n rule) e → AsksAt n rule e
asked_at n (At time event) e h = ⊎_elim (λ q. sym q) (λ r. absurd (omega (arith, r.1))) (split_at (record { time = time; line = n; number = 1; event = event }) [] e h.0 h.1 h.2)
asked_at n (Every period count event) e h = let m = events_are n period event 1 count e h in (m.0, m.1, omega (arith, m.2), m.3)

given_at : (n : ℕ) (rule : Rule) (e : Timed) → AsksAt n rule e → Contains (events_at n rule) e
given_at n (At time event) e h = (0, omega arith, sym h)
given_at n (Every period count event) e h = subst (Contains (events_from n period event 1 count)) (sym h.3) (events_have n period event 1 count h.0 h.1 (omega (arith, h.2)))

-- ---- no two at one place
tie_none : (z e : Timed) → (place_of z ≡ place_of e → ⊥) → ties before z e ≡ false
tie_none z e apart =
    elim (ties before z e) as (λ b. ties before z e ≡ b → b ≡ false) [
      | true ↦ λ t. absurd (apart (one_place z e (grind arith) (grind arith)))
      | false ↦ λ t. refl
    ] refl

count-cons : (z x : Timed) (xs : List Timed) → count_by (ties before z) (x ∷ xs) ≡ cond (ties before z x) 1 0 + count_by (ties before z) xs
count-cons z x xs = sum_by-cons (λ y. cond (ties before z y) 1 0) x xs

at_most_one : (b : Bool) → cond b 1 0 ≤ 1
at_most_one true = omega arith
at_most_one false = omega arith

module _ (z : Timed) (n period : ℕ) (event : Event) where
  -- events after a number
  later_events : (k count : ℕ) → z.number < k → count_by (ties before z) (events_from n period event k count) ≡ 0
  later_events k zero h = refl
  later_events k (suc count) h =
      count-cons z (nth n period event k) (events_from n period event (suc k) count)
      ∙ ap (λ b. cond b 1 0 + count_by (ties before z) (events_from n period event (suc k) count)) (tie_none z (nth n period event k) (λ q. let e : z.number ≡ k = cc in omega arith))
      ∙ ap (λ m. 0 + m) (later_events (suc k) count (omega arith))

  other_events : (k count : ℕ) → z.line ≢ n → count_by (ties before z) (events_from n period event k count) ≡ 0
  other_events k zero h = refl
  other_events k (suc count) h =
      count-cons z (nth n period event k) (events_from n period event (suc k) count)
      ∙ ap (λ b. cond b 1 0 + count_by (ties before z) (events_from n period event (suc k) count)) (tie_none z (nth n period event k) (λ q. let e : z.line ≡ n = cc in h e))
      ∙ ap (λ m. 0 + m) (other_events (suc k) count h)

  at_most_once : (k count : ℕ) → count_by (ties before z) (events_from n period event k count) ≤ 1
  at_most_once k zero = omega arith
  at_most_once k (suc count) =
      ⊎_elim
      (λ q. omega (arith, count-cons z (nth n period event k) (events_from n period event (suc k) count), at_most_one (ties before z (nth n period event k)), later_events (suc k) count (omega arith)))
      (λ q. omega (arith, count-cons z (nth n period event k) (events_from n period event (suc k) count), ap {B = ℕ} (λ b. cond b 1 0) (tie_none z (nth n period event k) (λ p. let e : z.number ≡ k = cc in q e)), at_most_once (suc k) count))
      (cases_eq z.number k)

other_line : (z : Timed) (n : ℕ) (rule : Rule) → z.line ≢ n → count_by (ties before z) (events_at n rule) ≡ 0
other_line z n (At time event) h =
    let x : Timed = record { time = time; line = n; number = 1; event = event } in
    count-cons z x [] ∙ ap (λ b. cond b 1 0 + 0) (tie_none z x (λ q. let e : z.line ≡ n = cc in h e))
other_line z n (Every period count event) h = other_events z n period event 1 count h

one_event : (z : Timed) (n : ℕ) (rule : Rule) → count_by (ties before z) (events_at n rule) ≤ 1
one_event z n (At time event) =
    let x : Timed = record { time = time; line = n; number = 1; event = event } in omega (arith, count-cons z x [], at_most_one (ties before z x))
one_event z n (Every period count event) = at_most_once z n period event 1 count

-- how many events of line n are at a place
abbrev in_line : Timed → ℕ → Said → ℕ
in_line z n s = count_by (ties before z) (flat_map events_of (rule_at n s))

in_line_other : (z : Timed) (n : ℕ) (s : Said) → z.line ≢ n → in_line z n s ≡ 0
in_line_other z n Nothing h = refl
in_line_other z n (Says rule) h = sum_by-append (λ e. cond (ties before z e) 1 0) (events_at n rule) [] ∙ ap (λ m. m + 0) (other_line z n rule h)
in_line_other z n Outside h = refl

in_line_one : (z : Timed) (n : ℕ) (s : Said) → in_line z n s ≤ 1
in_line_one z n Nothing = omega arith
in_line_one z n (Says rule) = let k : in_line z n (Says rule) ≡ count_by (ties before z) (events_at n rule) + 0 = sum_by-append (λ e. cond (ties before z e) 1 0) (events_at n rule) [] in omega (arith, one_event z n rule)
in_line_one z n Outside = omega arith

-- and of the lines from n on
abbrev in_lines : Timed → ℕ → List (List ℕ) → ℕ
in_lines z n lines = count_by (ties before z) (flat_map events_of (rules_from n lines))

in_lines-cons : (z : Timed) (n : ℕ) (line : List ℕ) (lines : List (List ℕ)) → in_lines z n (line ∷ lines) ≡ in_line z n (said line) + in_lines z (n + 1) lines
in_lines-cons z n line lines =
    ap (λ es. count_by (ties before z) es) (flat_map-append events_of (rule_at n (said line)) (rules_from (n + 1) lines))
    ∙ sum_by-append (λ e. cond (ties before z e) 1 0) (flat_map events_of (rule_at n (said line))) (flat_map events_of (rules_from (n + 1) lines))

none_before : (z : Timed) (n : ℕ) (lines : List (List ℕ)) → z.line < n → in_lines z n lines ≡ 0
none_before z n [] h = refl
none_before z n (line ∷ lines) h = omega (arith, in_lines-cons z n line lines, in_line_other z n (said line) (λ e. omega arith), none_before z (n + 1) lines (omega arith))

one_in_lines : (z : Timed) (n : ℕ) (lines : List (List ℕ)) → in_lines z n lines ≤ 1
one_in_lines z n [] = omega arith
one_in_lines z n (line ∷ lines) =
    ⊎_elim
    (λ q. omega (arith, in_lines-cons z n line lines, in_line_one z n (said line), none_before z (n + 1) lines (omega arith)))
    (λ q. omega (arith, in_lines-cons z n line lines, in_line_other z n (said line) q, one_in_lines z (n + 1) lines))
    (cases_eq z.line n)

-- ---- so each is before all that follow
none_ties : (z : Timed) (es : List Timed) → count_by (ties before z) es ≤ 0 → AllByRecursion (λ e. ties before z e ≡ false) es
none_ties z [] h = tt
none_ties z (e ∷ es) h =
    elim (ties before z e) as (λ b. cond b 1 0 + count_by (ties before z) es ≤ 0 → (b ≡ false) × AllByRecursion (λ x. ties before z x ≡ false) es) [
      | true ↦ λ l. absurd (omega (arith, l))
      | false ↦ λ l. (refl, none_ties z es (omega (arith, l)))
    ] (subst (λ m. m ≤ 0) (count-cons z e es) h)

all_before : (z : Timed) (es : List Timed) → AllByRecursion (λ e. before e z ≡ false) es → AllByRecursion (λ e. ties before z e ≡ false) es → AllByRecursion (λ e. before z e ≡ true) es
all_before z [] h k = tt
all_before z (e ∷ es) h k = (by (before z e) (before e z) h.0 k.0, all_before z es h.1 k.1)
  where
    by : (a b : Bool) → b ≡ false → (not a && not b) ≡ false → a ≡ true
    by true b p q = refl
    by false true p q = absurd (cc)
    by false false p q = absurd (cc)

ties_itself : (z : Timed) → ties before z z ≡ true
ties_itself z = rw (not_before_itself before order z) refl

rising : (es : List Timed) → InOrder before es → ((z : Timed) → count_by (ties before z) es ≤ 1) → AllPairs (λ a b. before a b ≡ true) es
rising [] o few = λ i j d hij hj. absurd (omega arith)
rising (e ∷ es) o few =
    let own : 1 + count_by (ties before e) es ≤ 1 = subst (λ b. cond b 1 0 + count_by (ties before e) es ≤ 1) (ties_itself e) (subst (λ m. m ≤ 1) (count-cons e e es) (few e)) in
    AllPairs-cons (λ a b. before a b ≡ true) e es
    (All-from_recursion (λ x. before e x ≡ true) es (all_before e es o.0 (none_ties e es (omega (arith, own)))))
    (rising es o.1 (λ z. let k = few z in omega (arith, count-cons z e es, k)))

pub timetable : TimetableLaw
unfolding timetable_of rules_of
timetable text =
    let rs = rules_from 1 (tick_lines text) in
    let es = flat_map events_of rs in
    let moved = IsPermutation-sorted before es in (
      rising (sorted before es) (in_order_sorted before order es)
          (λ z. subst (λ m. m ≤ 1) (sym (sum_by-IsPermutation (λ e. cond (ties before z e) 1 0) es (sorted before es) moved)) (one_in_lines z 1 (tick_lines text))),
      λ e. (
        (λ h. let k = of_one events_of e rs (Contains-permutation (sorted before es) es e (IsPermutation-sym es (sorted before es) moved) h) in (k.0, k.1, asked_at k.0.line k.0.rule e k.2)),
        λ h. Contains-permutation es (sorted before es) e moved (in_all events_of e rs h.0 h.1.0 h.1.1 h.1.2 (given_at h.0.line h.0.rule e h.2)),
      ),
    )
