-- The timetable of a written list of events.
use Rattle.std.proofs.Common.{◌≡◌, ◌≢◌, ℕ, zero, suc, ◌+◌, ◌-◌, ◌<◌, ◌≤◌, ◌^◌, Bool, true, false, cond, List, [], ◌∷◌, ◌++◌, length, take, None, refl, sym, ap, ◌∙◌, arith}
use Rattle.std.specs.Prelude.{◌==◌, ◌&&◌, not, slice_index, codes}
use Rattle.std.specs.List.{AllByRecursion, list_all, flat_map}
use Rattle.std.specs.Fmt.{decimal}
use Rattle.std.specs.Char.{is_ascii_digit}
use Rattle.std.specs.Str.{all_ascii_digits}
use Rattle.std.specs.Str.Parse.{digits_value}
use Rattle.std.proofs.lemmas.Bool.Decides.{nat_tests}
use Rattle.std.proofs.lemmas.List.{append_assoc}
use Rattle.std.proofs.lemmas.Fmt.{digits_decimal, decimal_is_IsNumeral, decimal_nonempty, length-decimal-le}
use Rattle.std.proofs.lemmas.Str.Parse.{IsNumeralModel, numerals_by_value, tells_all_ascii_digits}
use Rattle.id_table.specs.Sorting.{sorted}
use Rattle.wind_base.specs.Limits.{greatest_word}
use Rattle.tick_file.specs.declared.event.Event.{Event}
use Rattle.tick_file.specs.declared.event.Event.TheVariants.{Tick, Rx, Irq}
use Rattle.tick_file.specs.declared.event.Rule.TheVariants.{At}
use Rattle.tick_file.specs.declared.event.Said.TheVariants.{Says}
use Rattle.tick_file.specs.Grammar.{said}
use Rattle.tick_file.specs.Forms.{IsNumber, HasTwo, IsLineOf}
use Rattle.tick_file.specs.Lines.{lines_of, tick_lines, Numbered, rule_at, rules_from, bad_or, bad_from, rules_of, first_bad_line}
use Rattle.tick_file.specs.Schedule.{Timed, Timetable, events_of, before, brings_bytes, event_of, in_order, timetable_of}
use Rattle.tick_file.specs.Writing.{event_line, recorded, numbered, IsInRange, AreRecordable, bring_no_bytes, WritingLaw, MoreLaw, LongerLaw}
use Rattle.tick_file.proofs.FormLemmas.{grammar}
use Rattle.source_text.specs.Lines.{pieces, onto_first}
use Rattle.source_text.proofs.Cutting.{pieces_on}
use Rattle.tick_file.proofs.LineLemmas.{lines_more, rules_done, bad_done}
use Rattle.tick_file.proofs.Merging.{all_both, sorted_head}

-- ---- numbers
all_digits : (ds : List ℕ) → list_all is_ascii_digit ds ≡ all_ascii_digits ds
all_digits [] = refl
all_digits (d ∷ ds) = ap (λ b. is_ascii_digit d && b) (all_digits ds)

own : IsNumeralModel (λ ds. all_ascii_digits ds ≡ true) (digits_value 10)
own = numerals_by_value _ tells_all_ascii_digits

pub decimal_digits : (n : ℕ) → n < 2 ^ 64 → list_all is_ascii_digit (decimal n) ≡ true
decimal_digits n h = all_digits (decimal n) ∙ digits_decimal own n h

pub number : (n : ℕ) → n ≤ greatest_word → IsNumber n (decimal n)
number n h = record {
  some = decimal_nonempty n (omega (arith, h));
  few = omega (arith, length-decimal-le 10 n (omega arith) (omega (arith, h)) (omega (arith, h)));
  decimal = decimal_digits n (omega (arith, h));
  value = (decimal_is_IsNumeral n (omega (arith, h))).1;
  small = h;
}

-- ---- one line
two_numbers : (word : List ℕ) (n m : ℕ) → n ≤ greatest_word → m ≤ greatest_word → HasTwo word n m (word ++ (32 ∷ decimal n ++ 32 ∷ decimal m))
two_numbers word n m h k = record {
  gap = 32 ∷ [];
  digits = decimal n;
  apart = record { some = omega arith; blank = refl };
  number = number n h;
  next_gap = 32 ∷ [];
  next_digits = decimal m;
  next_apart = record { some = omega arith; blank = refl };
  next_number = number m k;
  is = refl;
}

is_line : (time : ℕ) (e : Event) → time ≤ greatest_word → IsInRange e → IsLineOf (At time e) (event_line time e)
is_line time Tick h count = record { gap = 32 ∷ []; digits = decimal time; apart = record { some = omega arith; blank = refl }; number = number time h; is = refl }
is_line time (Rx n) h count = (two_numbers (codes "rx") time n h (omega (arith, count.1)), count.0, count.1)
is_line time (Irq slot) h inside = (two_numbers (codes "irq") time slot h (omega (arith, inside)), inside)

says : (time : ℕ) (e : Event) → time ≤ greatest_word → IsInRange e → said (event_line time e) ≡ Says (At time e)
says time e h count = ((grammar (event_line time e)).0 (At time e)).1 (is_line time e h count)

-- its bytes are no control bytes
both_hold : (a b : Bool) → (a && b) ≡ true → (a ≡ true) × (b ≡ true)
both_hold true b e = (refl, e)
both_hold false b e = absurd (cc)

abbrev IsPlain : ℕ → Type 0
IsPlain b = 32 ≤ b

digit_plain : (b : ℕ) → is_ascii_digit b ≡ true → 32 ≤ b
digit_plain b e = grind (arith, nat_tests)

digits_plain : (ds : List ℕ) → list_all is_ascii_digit ds ≡ true → AllByRecursion IsPlain ds
digits_plain [] e = tt
digits_plain (d ∷ ds) e = let k = both_hold (is_ascii_digit d) (list_all is_ascii_digit ds) e in (digit_plain d k.0, digits_plain ds k.1)

decimal_plain : (n : ℕ) → n ≤ greatest_word → AllByRecursion IsPlain (decimal n)
decimal_plain n h = digits_plain (decimal n) (decimal_digits n (omega (arith, h)))

line_plain : (time : ℕ) (e : Event) → time ≤ greatest_word → IsInRange e → AllByRecursion IsPlain (event_line time e)
line_plain time Tick h count = all_both IsPlain (codes "tick ") (decimal time) (omega arith, (omega arith, (omega arith, (omega arith, (omega arith, tt))))) (decimal_plain time h)
line_plain time (Rx n) h count =
    all_both IsPlain (codes "rx ") (decimal time ++ 32 ∷ decimal n) (omega arith, (omega arith, (omega arith, tt)))
    (all_both IsPlain (decimal time) (32 ∷ decimal n) (decimal_plain time h) (omega arith, decimal_plain n (omega (arith, count.1))))
line_plain time (Irq slot) h inside =
    all_both IsPlain (codes "irq ") (decimal time ++ 32 ∷ decimal slot) (omega arith, (omega arith, (omega arith, (omega arith, tt))))
    (all_both IsPlain (decimal time) (32 ∷ decimal slot) (decimal_plain time h) (omega arith, decimal_plain slot (omega (arith, inside))))

-- so it is one piece, and a line as it stands
piece : (line rest : List ℕ) → AllByRecursion IsPlain line → pieces (line ++ 10 ∷ rest) ≡ line ∷ pieces rest
piece [] rest h = refl
piece (b ∷ line) rest h = let other : b ≢ 10 = λ e. absurd (omega (arith, h.0, e)) in pieces_on b (line ++ 10 ∷ rest) other ∙ ap (onto_first b) (piece line rest h.1)

other_byte : (b : ℕ) → 32 ≤ b → (b == 13) ≡ false
other_byte b h = grind (arith, nat_tests)

no_return : (line : List ℕ) → AllByRecursion IsPlain line → (i : ℕ) → (slice_index line i == 13) ≡ false
no_return [] h i = refl
no_return (b ∷ line) h zero = other_byte b h.0
no_return (b ∷ line) h (suc i) = no_return line h.1 i

line_step : (line rest : List ℕ) → AllByRecursion IsPlain line → tick_lines (line ++ 10 ∷ rest) ≡ line ∷ tick_lines rest
unfolding tick_lines
line_step line rest h =
    ap lines_of (piece line rest h)
    ∙ lines_more line rest
    ∙ ap (λ b. cond b (take (length line - 1) line) line ∷ lines_of (pieces rest)) (no_return line h (length line - 1))

-- ---- all lines
abbrev record_rules : ℕ → List (ℕ × Event) → List Numbered
record_rules n [] = []
record_rules n (x ∷ xs) = record { line = n; rule = At x.0 x.1 } ∷ record_rules (n + 1) xs

rules_are : (n least : ℕ) (xs : List (ℕ × Event)) → AreRecordable least xs → rules_from n (tick_lines (recorded xs)) ≡ record_rules n xs
rules_are n least [] h = rules_done n
rules_are n least (x ∷ xs) h =
    ap (rules_from n) (line_step (event_line x.0 x.1) (recorded xs) (line_plain x.0 x.1 h.1 h.2))
    ∙ ap (λ s. rule_at n s ++ rules_from (n + 1) (tick_lines (recorded xs))) (says x.0 x.1 h.1 h.2)
    ∙ ap (λ rs. record { line = n; rule = At x.0 x.1 } ∷ rs) (rules_are (n + 1) x.0 xs h.3)

none_bad : (n least : ℕ) (xs : List (ℕ × Event)) → AreRecordable least xs → bad_from n (tick_lines (recorded xs)) ≡ None
none_bad n least [] h = bad_done n
none_bad n least (x ∷ xs) h =
    ap (bad_from n) (line_step (event_line x.0 x.1) (recorded xs) (line_plain x.0 x.1 h.1 h.2))
    ∙ ap (λ s. bad_or n (bad_from (n + 1) (tick_lines (recorded xs))) s) (says x.0 x.1 h.1 h.2)
    ∙ none_bad (n + 1) x.0 xs h.3

events_are : (n : ℕ) (xs : List (ℕ × Event)) → flat_map events_of (record_rules n xs) ≡ numbered n xs
events_are n [] = refl
events_are n (x ∷ xs) = ap (λ es. record { time = x.0; line = n; number = 1; event = x.1 } ∷ es) (events_are (n + 1) xs)

demand_is : (n : ℕ) (xs : List (ℕ × Event)) → list_all (λ r. not (brings_bytes (event_of r.rule))) (record_rules n xs) ≡ bring_no_bytes xs
demand_is n [] = refl
demand_is n (x ∷ xs) = ap (λ b. not (brings_bytes x.1) && b) (demand_is (n + 1) xs)

-- none of the events in the lines after is before it
not_before : (t l u k : ℕ) (e f : Event) → t ≤ u → l < k → before (record { time = u; line = k; number = 1; event = f }) (record { time = t; line = l; number = 1; event = e }) ≡ false
unfolding before
not_before t l u k e f h less = grind (arith, nat_tests)

later_lines : (t l : ℕ) (e : Event) (n least : ℕ) (xs : List (ℕ × Event)) → t ≤ least → l < n → AreRecordable least xs
    → AllByRecursion (λ y. before y (record { time = t; line = l; number = 1; event = e }) ≡ false) (numbered n xs)
later_lines t l e n least [] h less rest = tt
later_lines t l e n least (x ∷ xs) h less rest = (
  not_before t l x.0 n e x.1 (omega (arith, h, rest.0)) less,
  later_lines t l e (n + 1) x.0 xs (omega (arith, h, rest.0)) (omega (arith, less)) rest.3,
)

stand : (n least : ℕ) (xs : List (ℕ × Event)) → AreRecordable least xs → sorted before (numbered n xs) ≡ numbered n xs
stand n least [] h = refl
stand n least (x ∷ xs) h =
    let e : Timed = record { time = x.0; line = n; number = 1; event = x.1 } in
    sorted_head before e (numbered (n + 1) xs) (later_lines x.0 n x.1 (n + 1) x.0 xs (omega arith) (omega arith) h.3)
    ∙ ap (λ es. e ∷ es) (stand (n + 1) x.0 xs h.3)

pub written : WritingLaw
unfolding timetable_of rules_of first_bad_line
written xs h =
    let rules : rules_from 1 (tick_lines (recorded xs)) ≡ record_rules 1 xs = rules_are 1 0 xs h in (
      ap {B = Timetable} (λ rs. record { events = in_order rs; on_demand = list_all (λ r. not (brings_bytes (event_of r.rule))) rs }) rules
          ∙ ap {B = Timetable} (λ es. record { events = sorted before es; on_demand = list_all (λ r. not (brings_bytes (event_of r.rule))) (record_rules 1 xs) }) (events_are 1 xs)
          ∙ ap {B = Timetable} (λ es. record { events = es; on_demand = list_all (λ r. not (brings_bytes (event_of r.rule))) (record_rules 1 xs) }) (stand 1 0 xs h)
          ∙ ap {B = Timetable} (λ b. record { events = numbered 1 xs; on_demand = b }) (demand_is 1 xs),
      none_bad 1 0 xs h,
    )

more_events : (n : ℕ) (xs ys : List (ℕ × Event)) → numbered n (xs ++ ys) ≡ numbered n xs ++ numbered (n + length xs) ys
more_events n [] ys = let e : n ≡ n + 0 = omega arith in ap (λ k. numbered k ys) e
more_events n (x ∷ xs) ys =
    let e : n + 1 + length xs ≡ n + suc (length xs) = omega arith in
    ap (λ es. record { time = x.0; line = n; number = 1; event = x.1 } ∷ es) (more_events (n + 1) xs ys ∙ ap (λ k. numbered (n + 1) xs ++ numbered k ys) e)

more_text : (xs ys : List (ℕ × Event)) → recorded (xs ++ ys) ≡ recorded xs ++ recorded ys
more_text [] ys = refl
more_text (x ∷ xs) ys = ap (λ t. event_line x.0 x.1 ++ 10 ∷ t) (more_text xs ys) ∙ sym (append_assoc (event_line x.0 x.1) (10 ∷ recorded xs) (recorded ys))

pub more : MoreLaw
more n xs ys = (more_events n xs ys, more_text xs ys)

-- ---- one line more
prefix_recordable : (least : ℕ) (xs ys : List (ℕ × Event)) → AreRecordable least (xs ++ ys) → AreRecordable least xs
prefix_recordable least [] ys h = tt
prefix_recordable least (x ∷ xs) ys h = (h.0, h.1, h.2, prefix_recordable x.0 xs ys h.3)

and_true : (b : Bool) → (b && true) ≡ b
and_true true = refl
and_true false = refl

and_both : (a b c : Bool) → (a && (b && c)) ≡ ((a && b) && c)
and_both true b c = refl
and_both false b c = refl

all_more : (xs : List (ℕ × Event)) (x : ℕ × Event) → bring_no_bytes (xs ++ x ∷ []) ≡ (bring_no_bytes xs && not (brings_bytes x.1))
all_more [] x = and_true (not (brings_bytes x.1))
all_more (y ∷ ys) x = ap (λ b. not (brings_bytes y.1) && b) (all_more ys x) ∙ and_both (not (brings_bytes y.1)) (bring_no_bytes ys) (not (brings_bytes x.1))

pub one_more : LongerLaw
one_more xs time event h =
    let x : ℕ × Event = (time, event) in
    let last : List Timed = record { time = time; line = 1 + length xs; number = 1; event = event } ∷ [] in
    ap timetable_of (sym (more_text xs (x ∷ [])))
    ∙ (written (xs ++ x ∷ []) h).0
    ∙ ap {B = Timetable} (λ es. record { events = es; on_demand = bring_no_bytes (xs ++ x ∷ []) }) (more_events 1 xs (x ∷ []))
    ∙ ap {B = Timetable} (λ b. record { events = numbered 1 xs ++ last; on_demand = b }) (all_more xs x)
    ∙ sym (ap {B = Timetable} (λ (t : Timetable). record { events = t.events ++ last; on_demand = t.on_demand && not (brings_bytes event) }) (written xs (prefix_recordable 0 xs (x ∷ []) h)).0)
