-- A plain tick file is a family of one.
use Rattle.std.proofs.Common.{◌≡◌, ℕ, zero, suc, ◌+◌, ◌*◌, ◌/◌, ◌%◌, ◌<◌, ◌≤◌, Bool, true, false, cond, List, [], ◌∷◌, ◌++◌, map, None, refl, sym, ap, ◌∙◌, arith}
use Rattle.std.specs.Prelude.{not, ◌&&◌, ◌⊎◌, Result, Ok, Err}
use mathlib.Core.Logic.{inl, inr, ⊎_elim}
use Rattle.std.specs.List.{AllByRecursion, list_all, flat_map}
use Rattle.std.proofs.lemmas.Bool.Decides.{nat_tests}
use Rattle.std.proofs.lemmas.List.{map-append}
use Rattle.id_table.specs.Sorting.{insert_sorted, sorted}
use Rattle.id_table.proofs.Sorting.{seen_by, seen_sorted}
use Rattle.tick_file.specs.declared.event.Event.{Event}
use Rattle.tick_file.specs.declared.event.Event.TheVariants.{Tick, Rx, Irq}
use Rattle.tick_file.specs.declared.event.Rule.{Rule}
use Rattle.tick_file.specs.declared.event.Rule.TheVariants as rules
use Rattle.tick_file.specs.declared.event.Said.{Said}
use Rattle.tick_file.specs.declared.event.Said.TheVariants as said_of
use Rattle.tick_file.specs.Grammar.{said}
use Rattle.tick_file.specs.Forms.{IsLineOf}
use Rattle.tick_file.specs.Lines.{tick_lines, Numbered, rule_at, rules_from, rules_of, bad_or, bad_from, first_bad_line}
use Rattle.tick_file.specs.Schedule.{Timed, Timetable, events_from, events_of, before, event_of, brings_bytes, at, timetable_of}
use Rattle.tick_file.specs.Writing.{bring_no_bytes}
use Rattle.tick_file.proofs.FormLemmas.{grammar}
use Rattle.tick_file.proofs.Merging.{all_both, all_weaker, all_sorted}
use Rattle.tick_family.specs.declared.fault.Fault.{Fault}
use Rattle.tick_family.specs.declared.entry.Entry.{Entry}
use Rattle.tick_family.specs.declared.extent.Extent.{Extent}
use Rattle.tick_family.specs.Entries.{plain, content_by, content_of}
use Rattle.tick_family.specs.Members.{choices, members_of, choice_of, shift_below, periodic, entry_events, chosen_events, earlier, member_events}
use Rattle.tick_family.specs.Reading.{start, grown, after_entry, after_content, read_from, family_of}
use Rattle.tick_family.specs.Laws.{PlainLaw}
use Rattle.tick_family.proofs.ReadingLemmas.{Read, onto_is, family_good}
use Rattle.tick_family.proofs.MemberLemmas.{is_tick_file}

-- ---- the entries are those of the rules
abbrev plain_of : Numbered → Entry
plain_of r = plain r.rule

abbrev entries_from : ℕ → List (List ℕ) → List Entry
entries_from m lines = map plain_of (rules_from m lines)

after_plain : (n m : ℕ) (rule : Rule) (lines : List (List ℕ)) (r : Result Extent Fault) (more : Extent → Read) (xs : List Entry)
    → ((next : Extent) (ys : List Entry) → more next ≡ Ok ys → ys ≡ entries_from (m + 1) lines)
    → after_entry n (plain rule) r more ≡ Ok xs → xs ≡ plain rule ∷ entries_from (m + 1) lines
after_plain n m rule lines (Ok next) more xs rest e =
    let k = onto_is (plain rule) (more next) xs e in k.2 ∙ ap (λ ys. plain rule ∷ ys) (rest next k.0 k.1)
after_plain n m rule lines (Err fault) more xs rest e = absurd (cc)

by_plain : (n m : ℕ) (extent : Extent) (line : List ℕ) (lines : List (List ℕ)) (xs : List Entry) (s : Said)
    → (bad_from (m + 1) lines ≡ None → (next : Extent) (ys : List Entry) → read_from (n + 1) next lines ≡ Ok ys → ys ≡ entries_from (m + 1) lines)
    → bad_or m (bad_from (m + 1) lines) s ≡ None → after_content n extent (content_by line s) (λ next. read_from (n + 1) next lines) ≡ Ok xs
    → xs ≡ map plain_of (rule_at m s ++ rules_from (m + 1) lines)
by_plain n m extent line lines xs said_of.Nothing rest good e = rest good extent xs e
by_plain n m extent line lines xs (said_of.Says rule) rest good e = after_plain n m rule lines (grown extent (plain rule)) (λ next. read_from (n + 1) next lines) xs (rest good) e
by_plain n m extent line lines xs said_of.Outside rest good e = absurd (cc)

read_plain : (n m : ℕ) (extent : Extent) (lines : List (List ℕ)) (xs : List Entry) → bad_from m lines ≡ None → read_from n extent lines ≡ Ok xs → xs ≡ entries_from m lines
unfolding content_of
read_plain n m extent [] xs good e = cc
read_plain n m extent (line ∷ lines) xs good e = by_plain n m extent line lines xs (said line) (λ h next ys k. read_plain (n + 1) (m + 1) next lines ys h k) good e

-- ---- they have one member
one_choice : (rule : Rule) → choices (plain rule) ≡ 1
one_choice (rules.At time event) = refl
one_choice (rules.Every period count event) = refl

one_of : (rs : List Numbered) → members_of (map plain_of rs) ≡ 1
one_of [] = refl
one_of (r ∷ rs) = omega (arith, one_choice r.rule, one_of rs, ap (λ n. n * members_of (map plain_of rs)) (one_choice r.rule))

periodic_plain : (n period : ℕ) (event : Event) (k count : ℕ) → periodic 0 period event k count ≡ map at (events_from n period event k count)
periodic_plain n period event k zero = refl
periodic_plain n period event k (suc count) =
    let same : k * period + 0 ≡ k * period = omega arith in
    ap (λ t. (t, event) ∷ periodic 0 period event (suc k) count) same ∙ ap (λ es. (k * period, event) ∷ es) (periodic_plain n period event (suc k) count)

rule_events : (n : ℕ) (rule : Rule) → entry_events 0 (plain rule) 0 ≡ map at (events_of (record { line = n; rule = rule }))
rule_events n (rules.At time event) = let same : time + 0 * 1 + 0 ≡ time = omega arith in ap (λ t. (t, event) ∷ []) same
rule_events n (rules.Every period count event) = periodic_plain n period event 1 count

no_shift : (rule : Rule) → shift_below 0 (plain rule) 0 ≡ 0
no_shift (rules.At time event) = refl
no_shift (rules.Every period count event) = refl

first_choice : (r : Numbered) (rs : List Numbered) → choice_of (plain_of r ∷ map plain_of rs) 0 ≡ 0 ∷ choice_of (map plain_of rs) 0
first_choice r rs = ap (λ m. 0 / m ∷ choice_of (map plain_of rs) (0 % m)) (one_of rs)

events_are : (rs : List Numbered) → chosen_events 0 (map plain_of rs) (choice_of (map plain_of rs) 0) ≡ map at (flat_map events_of rs)
events_are [] = refl
events_are (r ∷ rs) =
    ap (chosen_events 0 (plain_of r ∷ map plain_of rs)) (first_choice r rs)
    ∙ ap (λ es. es ++ chosen_events (shift_below 0 (plain_of r) 0) (map plain_of rs) (choice_of (map plain_of rs) 0)) (rule_events r.line r.rule)
    ∙ ap (λ s. map at (events_of r) ++ chosen_events s (map plain_of rs) (choice_of (map plain_of rs) 0)) (no_shift r.rule)
    ∙ ap (λ es. map at (events_of r) ++ es) (events_are rs)
    ∙ sym (map-append at (events_of r) (flat_map events_of rs))

-- ---- their order
-- a is in an earlier line than b, or earlier in the same line
abbrev IsAhead : Timed → Timed → Type 0
IsAhead a b = (a.line < b.line) ⊎ ((a.line ≡ b.line) × (a.number < b.number))

abbrev AreRising : List Timed → Type 0
AreRising [] = Unit {0}
AreRising (t ∷ ts) = AllByRecursion (IsAhead t) ts × AreRising ts

rising_both : (ps qs : List Timed) → AreRising ps → AreRising qs → AllByRecursion (λ a. AllByRecursion (IsAhead a) qs) ps → AreRising (ps ++ qs)
rising_both [] qs p q h = q
rising_both (a ∷ ps) qs p q h = (all_both (IsAhead a) ps qs p.0 h.0, rising_both ps qs p.1 q h.1)

abbrev IsFrom : ℕ → ℕ → Timed → Type 0
IsFrom n k t = (t.line ≡ n) × (k ≤ t.number)

from_line : (n period : ℕ) (event : Event) (k count : ℕ) → AllByRecursion (IsFrom n k) (events_from n period event k count)
from_line n period event k zero = tt
from_line n period event k (suc count) =
    ((refl, omega arith), all_weaker (IsFrom n (suc k)) (IsFrom n k) (λ t h. (h.0, omega (arith, h.1))) (events_from n period event (suc k) count) (from_line n period event (suc k) count))

rising_from : (n period : ℕ) (event : Event) (k count : ℕ) → AreRising (events_from n period event k count)
rising_from n period event k zero = tt
rising_from n period event k (suc count) = (
  all_weaker (IsFrom n (suc k)) (IsAhead (record { time = k * period; line = n; number = k; event = event })) (λ t h. inr (sym h.0, omega (arith, h.1)))
      (events_from n period event (suc k) count) (from_line n period event (suc k) count),
  rising_from n period event (suc k) count,
)

rule_from : (n : ℕ) (rule : Rule) → AllByRecursion (λ t. t.line ≡ n) (events_of (record { line = n; rule = rule }))
rule_from n (rules.At time event) = (refl, tt)
rule_from n (rules.Every period count event) = all_weaker (IsFrom n 1) (λ t. t.line ≡ n) (λ t h. h.0) (events_from n period event 1 count) (from_line n period event 1 count)

rule_rising : (n : ℕ) (rule : Rule) → AreRising (events_of (record { line = n; rule = rule }))
rule_rising n (rules.At time event) = (tt, tt)
rule_rising n (rules.Every period count event) = rising_from n period event 1 count

abbrev LinesAbove : ℕ → List Timed → Type 0
LinesAbove n ts = AllByRecursion (λ t. n ≤ t.line) ts

above_by : (n : ℕ) (s : Said) (rs : List Numbered) → LinesAbove (n + 1) (flat_map events_of rs) → LinesAbove n (flat_map events_of (rule_at n s ++ rs))
above_by n said_of.Nothing rs h = all_weaker (λ t. n + 1 ≤ t.line) (λ t. n ≤ t.line) (λ t k. omega (arith, k)) (flat_map events_of rs) h
above_by n said_of.Outside rs h = all_weaker (λ t. n + 1 ≤ t.line) (λ t. n ≤ t.line) (λ t k. omega (arith, k)) (flat_map events_of rs) h
above_by n (said_of.Says rule) rs h =
    all_both (λ t. n ≤ t.line) (events_of (record { line = n; rule = rule })) (flat_map events_of rs)
    (all_weaker (λ t. t.line ≡ n) (λ t. n ≤ t.line) (λ t k. omega (arith, k)) (events_of (record { line = n; rule = rule })) (rule_from n rule))
    (all_weaker (λ t. n + 1 ≤ t.line) (λ t. n ≤ t.line) (λ t k. omega (arith, k)) (flat_map events_of rs) h)

lines_above : (n : ℕ) (lines : List (List ℕ)) → LinesAbove n (flat_map events_of (rules_from n lines))
lines_above n [] = tt
lines_above n (line ∷ lines) = above_by n (said line) (rules_from (n + 1) lines) (lines_above (n + 1) lines)

rising_by : (n : ℕ) (s : Said) (rs : List Numbered) → LinesAbove (n + 1) (flat_map events_of rs) → AreRising (flat_map events_of rs) → AreRising (flat_map events_of (rule_at n s ++ rs))
rising_by n said_of.Nothing rs h r = r
rising_by n said_of.Outside rs h r = r
rising_by n (said_of.Says rule) rs h r =
    let own = events_of (record { line = n; rule = rule }) in
    rising_both own (flat_map events_of rs) (rule_rising n rule) r
    (all_weaker (λ t. t.line ≡ n) (λ t. AllByRecursion (IsAhead t) (flat_map events_of rs))
    (λ t k. all_weaker (λ u. n + 1 ≤ u.line) (IsAhead t) (λ u l. inl (omega (arith, k, l))) (flat_map events_of rs) h) own (rule_from n rule))

lines_rising : (n : ℕ) (lines : List (List ℕ)) → AreRising (flat_map events_of (rules_from n lines))
lines_rising n [] = tt
lines_rising n (line ∷ lines) = rising_by n (said line) (rules_from (n + 1) lines) (lines_above (n + 1) lines) (lines_rising (n + 1) lines)

-- an event before another in the file is before it in the timetable exactly if it is earlier
alike_line : (a b : Timed) → a.line < b.line → earlier (at b) (at a) ≡ before b a
unfolding before
alike_line a b h = grind (arith, nat_tests)

alike_number : (a b : Timed) → a.line ≡ b.line → a.number < b.number → earlier (at b) (at a) ≡ before b a
unfolding before
alike_number a b e h = grind (arith, nat_tests)

alike : (a b : Timed) → IsAhead a b → earlier (at b) (at a) ≡ before b a
alike a b h = ⊎_elim (λ k. alike_line a b k) (λ k. alike_number a b k.0 k.1) h

module _ {X : Type 0} (lt lt' : X → X → Bool) where
  insert_alike : (x : X) (ys : List X) → AllByRecursion (λ y. lt y x ≡ lt' y x) ys → insert_sorted lt x ys ≡ insert_sorted lt' x ys
  insert_alike x [] h = refl
  insert_alike x (y ∷ ys) h = ap (λ b. cond b (y ∷ insert_sorted lt x ys) (x ∷ y ∷ ys)) h.0 ∙ ap (λ zs. cond (lt' y x) (y ∷ zs) (x ∷ y ∷ ys)) (insert_alike x ys h.1)

sorted_by_time : (ts : List Timed) → AreRising ts → sorted (seen_by at earlier) ts ≡ sorted before ts
sorted_by_time [] h = refl
sorted_by_time (t ∷ ts) h =
    ap (insert_sorted (seen_by at earlier) t) (sorted_by_time ts h.1)
    ∙ insert_alike (seen_by at earlier) before t (sorted before ts)
    (all_sorted before (λ u. earlier (at u) (at t) ≡ before u t) ts (all_weaker (IsAhead t) (λ u. earlier (at u) (at t) ≡ before u t) (λ u k. alike t u k) ts h.0))

by_time : (ts : List Timed) → AreRising ts → sorted earlier (map at ts) ≡ map at (sorted before ts)
by_time ts h = sym (seen_sorted at earlier ts) ∙ ap (map at) (sorted_by_time ts h)

-- ---- input on demand
abbrev is_quiet : ℕ × Event → Bool
is_quiet x = not (brings_bytes x.1)

and_turned : (a b c : Bool) → (a && (b && c)) ≡ (b && (a && c))
and_turned true b c = refl
and_turned false true c = refl
and_turned false false c = refl

quiet_insert : (x : ℕ × Event) (ys : List (ℕ × Event)) → list_all is_quiet (insert_sorted earlier x ys) ≡ (is_quiet x && list_all is_quiet ys)
quiet_insert x [] = refl
quiet_insert x (y ∷ ys) =
    elim (earlier y x) as (λ b. list_all is_quiet (cond b (y ∷ insert_sorted earlier x ys) (x ∷ y ∷ ys)) ≡ (is_quiet x && (is_quiet y && list_all is_quiet ys))) [
      | true ↦ ap (λ b. is_quiet y && b) (quiet_insert x ys) ∙ and_turned (is_quiet y) (is_quiet x) (list_all is_quiet ys)
      | false ↦ refl
    ]

quiet_sorted : (xs : List (ℕ × Event)) → list_all is_quiet (sorted earlier xs) ≡ list_all is_quiet xs
quiet_sorted [] = refl
quiet_sorted (x ∷ xs) = quiet_insert x (sorted earlier xs) ∙ ap (λ b. is_quiet x && b) (quiet_sorted xs)

abbrev is_quiet_rule : Numbered → Bool
is_quiet_rule r = not (brings_bytes (event_of r.rule))

and_true : (b : Bool) → (b && true) ≡ b
and_true true = refl
and_true false = refl

quiet_periodic : (n period : ℕ) (event : Event) (k count : ℕ) → not (brings_bytes event) ≡ true → list_all is_quiet (map at (events_from n period event k count)) ≡ true
quiet_periodic n period event k zero h = refl
quiet_periodic n period event k (suc count) h = ap (λ b. b && list_all is_quiet (map at (events_from n period event (suc k) count))) h ∙ quiet_periodic n period event (suc k) count h

quiet_rule : (n : ℕ) (rule : Rule) (line : List ℕ) → IsLineOf rule line → list_all is_quiet (map at (events_of (record { line = n; rule = rule }))) ≡ not (brings_bytes (event_of rule))
quiet_rule n (rules.At time event) line h = and_true (not (brings_bytes event))
quiet_rule n (rules.Every period count Tick) line h = quiet_periodic n period Tick 1 count refl
quiet_rule n (rules.Every period count (Rx bytes)) line h = absurd h
quiet_rule n (rules.Every period count (Irq slot)) line h = quiet_periodic n period (Irq slot) 1 count refl

all_append : (xs ys : List (ℕ × Event)) → list_all is_quiet (xs ++ ys) ≡ (list_all is_quiet xs && list_all is_quiet ys)
all_append [] ys = refl
all_append (x ∷ xs) ys = ap (λ b. is_quiet x && b) (all_append xs ys) ∙ and_both (is_quiet x) (list_all is_quiet xs) (list_all is_quiet ys)
  where
    and_both : (a b c : Bool) → (a && (b && c)) ≡ ((a && b) && c)
    and_both true b c = refl
    and_both false b c = refl

quiet_by : (n : ℕ) (line : List ℕ) (s : Said) (rs : List Numbered) → said line ≡ s → list_all is_quiet (map at (flat_map events_of rs)) ≡ list_all is_quiet_rule rs
    → list_all is_quiet (map at (flat_map events_of (rule_at n s ++ rs))) ≡ list_all is_quiet_rule (rule_at n s ++ rs)
quiet_by n line said_of.Nothing rs says h = h
quiet_by n line said_of.Outside rs says h = h
quiet_by n line (said_of.Says rule) rs says h =
    let own = events_of (record { line = n; rule = rule }) in
    ap (list_all is_quiet) (map-append at own (flat_map events_of rs))
    ∙ all_append (map at own) (map at (flat_map events_of rs))
    ∙ ap (λ b. b && list_all is_quiet (map at (flat_map events_of rs))) (quiet_rule n rule line (((grammar line).0 rule).0 says))
    ∙ ap (λ b. not (brings_bytes (event_of rule)) && b) h

quiet_lines : (n : ℕ) (lines : List (List ℕ)) → list_all is_quiet (map at (flat_map events_of (rules_from n lines))) ≡ list_all is_quiet_rule (rules_from n lines)
quiet_lines n [] = refl
quiet_lines n (line ∷ lines) = quiet_by n line (said line) (rules_from (n + 1) lines) refl (quiet_lines (n + 1) lines)

-- ---- the law
entries_are : (text : List ℕ) (xs : List Entry) → first_bad_line text ≡ None → family_of text ≡ Ok xs → xs ≡ map plain_of (rules_of text)
unfolding family_of first_bad_line rules_of
entries_are text xs good e = read_plain 1 1 start (tick_lines text) xs good e

events_same : (text : List ℕ) → member_events (map plain_of (rules_of text)) 0 ≡ map at (timetable_of text).events
unfolding member_events timetable_of rules_of
events_same text =
    let rs = rules_from 1 (tick_lines text) in ap (sorted earlier) (events_are rs) ∙ by_time (flat_map events_of rs) (lines_rising 1 (tick_lines text))

demand_same : (text : List ℕ) → bring_no_bytes (member_events (map plain_of (rules_of text)) 0) ≡ (timetable_of text).on_demand
unfolding member_events timetable_of rules_of
demand_same text =
    let rs = rules_from 1 (tick_lines text) in
    quiet_sorted (chosen_events 0 (map plain_of rs) (choice_of (map plain_of rs) 0)) ∙ ap (list_all is_quiet) (events_are rs) ∙ quiet_lines 1 (tick_lines text)

pub all_plain : PlainLaw
all_plain text xs good e =
    let same = entries_are text xs good e in
    let one : members_of xs ≡ 1 = ap members_of same ∙ one_of (rules_of text) in
    let kept = family_good text xs e in
    let file = is_tick_file xs 0 kept.0 kept.1 (omega (arith, one)) in
    record {
      one = one;
      events = ap (λ ys. member_events ys 0) same ∙ events_same text;
      demand = ap {A = Timetable} {B = Bool} (λ t. t.on_demand) file.events ∙ ap (λ ys. bring_no_bytes (member_events ys 0)) same ∙ demand_same text;
    }
