-- What holds of an entry that a line has.
use Rattle.std.proofs.Common.{◌≡◌, ℕ, ◌+◌, ◌-◌, ◌*◌, ◌/◌, ◌<◌, ◌≤◌, Bool, true, false, cond, List, [], ◌∷◌, length, Option, None, Some, refl, subst, arith}
use Rattle.std.specs.Prelude.{nat_le, nat_lt, ◌==◌, ◌&&◌, Result, Ok, Err, codes}
use Rattle.std.specs.Str.{bytes_eq}
use Rattle.std.specs.Str.Parse.{digits_value}
use Rattle.std.proofs.Math.Nat.{div-mul-le_self, mul-le-mul_right}
use Rattle.std.proofs.lemmas.Bool.Decides.{nat_tests}
use Rattle.wind_base.specs.Decimal.{decimal_value, number_within, is_numeral}
use Rattle.wind_base.specs.Limits.{greatest_word, longest_chunk, most_slots}
use Rattle.tick_file.specs.declared.event.Event.{Event}
use Rattle.tick_file.specs.declared.event.Event.TheVariants.{Tick, Rx, Irq}
use Rattle.tick_file.specs.declared.event.Rule.{Rule}
use Rattle.tick_file.specs.declared.event.Rule.TheVariants as rules
use Rattle.tick_file.specs.declared.event.Said.{Said}
use Rattle.tick_file.specs.declared.event.Said.TheVariants as said_of
use Rattle.tick_file.specs.Grammar.{word_number, first_word, after_word, said}
use Rattle.tick_file.specs.Forms.{IsLineOf}
use Rattle.tick_file.proofs.FormLemmas.{grammar}
use Rattle.tick_family.specs.declared.times.Times.{Times}
use Rattle.tick_family.specs.declared.fault.Fault.{Fault}
use Rattle.tick_family.specs.declared.fault.Fault.TheVariants.{NotUnderstood, EndsEarly, StepOfZero}
use Rattle.tick_family.specs.declared.entry.Entry.{Entry}
use Rattle.tick_family.specs.declared.entry.Entry.TheVariants.{Once, Every, Shift}
use Rattle.tick_family.specs.declared.entry.Content.{Content}
use Rattle.tick_family.specs.declared.entry.Content.TheVariants.{Asks}
use Rattle.tick_family.specs.Times.{one_time, range_of, before_byte, from_byte, single, range_in, step_in, range_to, times_from, times_of}
use Rattle.tick_family.specs.Entries.{plain, with_first, ranged, shifting, beyond, content_by, content_of}
use Rattle.tick_family.specs.Inside.{IsTimes, in_range, IsEntry, IsSmall}

-- ---- numbers
small_within : (b : Bool) (n m : ℕ) → (b ≡ true → m ≤ greatest_word) → cond b (Some m) None ≡ Some n → n ≤ greatest_word
small_within true n m h e = let same : m ≡ n = cc in omega (arith, h refl)
small_within false n m h e = absurd (cc)

small_cond : (b : Bool) (o : Option ℕ) (n : ℕ) → (o ≡ Some n → n ≤ greatest_word) → cond b o None ≡ Some n → n ≤ greatest_word
small_cond true o n h e = h e
small_cond false o n h e = absurd (cc)

pub number_small : (text : List ℕ) (n : ℕ) → word_number text ≡ Some n → n ≤ greatest_word
unfolding decimal_value
number_small text n e =
    small_cond (nat_le (length text) 10) (decimal_value greatest_word text) n
    (small_cond (is_numeral text) (number_within greatest_word text) n
    (small_within (nat_le (digits_value 10 text) greatest_word) n (digits_value 10 text) (λ t. grind (arith, nat_tests)))) e

small_option : (o : Option ℕ) → ((n : ℕ) → o ≡ Some n → n ≤ greatest_word) → IsSmall o
small_option None h = tt
small_option (Some n) h = h n refl

pub word_small : (text : List ℕ) → IsSmall (word_number text)
word_small text = small_option (word_number text) (number_small text)

-- ---- times
one_fits : (n : ℕ) → n ≤ greatest_word → IsTimes (one_time n)
one_fits n h = record { some = omega arith; fits = omega (arith, h) }

abbrev refused : Fault → Result Times Fault
refused fault = Err fault

quotient_fits : (first last step : ℕ) → first ≤ last → 0 < step → first + (last - first) / step * step ≤ last
quotient_fits first last step h s = omega (arith, h, div-mul-le_self (last - first) step)

range_step : (b : Bool) (first last step : ℕ) (t : Times) → (b ≡ false → 0 < step) → first ≤ last → last ≤ greatest_word
    → cond b (refused StepOfZero) (Ok (record { first = first; step = step; count = (last - first) / step + 1 })) ≡ Ok t → IsTimes t
range_step true first last step t pos order small e = absurd (cc)
range_step false first last step t pos order small e =
    let x : Times = record { first = first; step = step; count = (last - first) / step + 1 } in
    let same : x ≡ t = cc in
    let q = quotient_fits first last step order (pos refl) in
    let one : (last - first) / step + 1 - 1 ≡ (last - first) / step = omega arith in
    subst IsTimes same (record { some = omega arith; fits = rw one (omega (arith, q, small)) })

range_first : (b : Bool) (first last step : ℕ) (t : Times) → (b ≡ false → first ≤ last) → last ≤ greatest_word
    → cond b (refused EndsEarly) (cond (step == 0) (Err StepOfZero) (Ok (record { first = first; step = step; count = (last - first) / step + 1 }))) ≡ Ok t → IsTimes t
range_first true first last step t order small e = absurd (cc)
range_first false first last step t order small e = range_step (step == 0) first last step t (λ z. grind (arith, nat_tests)) (order refl) small e

range_fits : (first last step : ℕ) (t : Times) → last ≤ greatest_word → range_of first last step ≡ Ok t → IsTimes t
range_fits first last step t small e = range_first (nat_lt last first) first last step t (λ z. grind (arith, nat_tests)) small e

single_fits : (o : Option ℕ) (t : Times) → IsSmall o → single o ≡ Ok t → IsTimes t
single_fits (Some n) t h e = let same : one_time n ≡ t = cc in subst IsTimes same (one_fits n h)
single_fits None t h e = absurd (cc)

in_fits : (a b c : Option ℕ) (t : Times) → IsSmall b → range_in a b c ≡ Ok t → IsTimes t
in_fits (Some first) (Some last) (Some step) t h e = range_fits first last step t h e
in_fits (Some first) (Some last) None t h e = absurd (cc)
in_fits (Some first) None c t h e = absurd (cc)
in_fits None b c t h e = absurd (cc)

dots_fit : (b : Bool) (r : Result Times Fault) (t : Times) → (r ≡ Ok t → IsTimes t) → cond b r (Err NotUnderstood) ≡ Ok t → IsTimes t
dots_fit true r t h e = h e
dots_fit false r t h e = absurd (cc)

from_fits : (first : Option ℕ) (rest : List ℕ) (t : Times) → IsSmall first → times_from first rest ≡ Ok t → IsTimes t
from_fits first [] t h e = single_fits first t h e
from_fits first (b ∷ []) t h e = absurd (cc)
from_fits first (b ∷ c ∷ text) t h e =
    dots_fit (b == 46 && c == 46) (range_to first text) t (in_fits first (word_number (before_byte 47 text)) (step_in (from_byte 47 text)) t (word_small (before_byte 47 text))) e

times_fit : (word : List ℕ) (t : Times) → times_of word ≡ Ok t → IsTimes t
unfolding times_of
times_fit word t e = from_fits (word_number (before_byte 46 word)) (from_byte 46 word) t (word_small (before_byte 46 word)) e

-- each of the times fits
pub time_fits : (t : Times) (k : ℕ) → IsTimes t → k < t.count → t.first + k * t.step ≤ greatest_word
time_fits t k h inside = omega (arith, h.fits, mul-le-mul_right {m = k} {n = t.count - 1} t.step (omega (arith, inside)))

-- ---- entries
one_entry : (time : ℕ) (event : Event) → time ≤ greatest_word → in_range event ≡ true → IsEntry (Once (one_time time) event)
one_entry time event h r = record { some = omega arith; fits = omega (arith, h); event = r }

every_entry : (period count : ℕ) (event : Event) → period ≤ greatest_word → count ≤ greatest_word → in_range event ≡ true → IsEntry (Every period count event)
every_entry period count event p c r = record { some = omega arith; fits = omega (arith, p, c); event = r }

once_entry : (t : Times) (event : Event) → IsTimes t → in_range event ≡ true → IsEntry (Once t event)
once_entry t event h r = record { some = h.some; fits = h.fits; event = r }

shift_entry : (t : Times) → IsTimes t → IsEntry (Shift t)
shift_entry t h = record { some = h.some; fits = h.fits; event = refl }

rx_range : (n : ℕ) → 1 ≤ n → n ≤ longest_chunk → in_range (Rx n) ≡ true
rx_range n h k = grind (arith, nat_tests)

irq_range : (n : ℕ) → n < most_slots → in_range (Irq n) ≡ true
irq_range n h = grind (arith, nat_tests)

rule_fits : (rule : Rule) (line : List ℕ) → IsLineOf rule line → IsEntry (plain rule)
rule_fits (rules.At time Tick) line h = one_entry time Tick h.number.small refl
rule_fits (rules.At time (Rx n)) line h = one_entry time (Rx n) h.0.number.small (rx_range n h.1 h.2)
rule_fits (rules.At time (Irq slot)) line h = one_entry time (Irq slot) h.0.number.small (irq_range slot h.1)
rule_fits (rules.Every period count Tick) line h = every_entry period count Tick h.0.number.small h.0.next_number.small refl
rule_fits (rules.Every period count (Rx n)) line h = absurd h
rule_fits (rules.Every period count (Irq slot)) line h = every_entry period count (Irq slot) h.0.number.small h.0.others.number.small (irq_range slot h.3)

said_fits : (line : List ℕ) (rule : Rule) → said line ≡ said_of.Says rule → IsEntry (plain rule)
said_fits line rule e = rule_fits rule line (((grammar line).0 rule).0 e)

plain_range : (time : ℕ) (event : Event) → IsEntry (plain (rules.At time event)) → in_range event ≡ true
plain_range time event h = h.event

ranged_fits : (line : List ℕ) (s : Said) (r : Result Times Fault) (x : Entry) → said line ≡ s → ((t : Times) → r ≡ Ok t → IsTimes t) → ranged s r ≡ Asks x → IsEntry x
ranged_fits line (said_of.Says (rules.At time event)) (Ok t) x says fits e =
    let same : Once t event ≡ x = cc in
    subst IsEntry same (once_entry t event (fits t refl) (plain_range time event (said_fits line (rules.At time event) says)))
ranged_fits line (said_of.Says (rules.At time event)) (Err fault) x says fits e = absurd (cc)
ranged_fits line (said_of.Says (rules.Every period count event)) r x says fits e = absurd (cc)
ranged_fits line said_of.Nothing r x says fits e = absurd (cc)
ranged_fits line said_of.Outside r x says fits e = absurd (cc)

shifting_fits : (r : Result Times Fault) (x : Entry) → ((t : Times) → r ≡ Ok t → IsTimes t) → shifting r ≡ Asks x → IsEntry x
shifting_fits (Ok t) x fits e = let same : Shift t ≡ x = cc in subst IsEntry same (shift_entry t (fits t refl))
shifting_fits (Err fault) x fits e = absurd (cc)

either_fits : (b : Bool) (c d : Content) (x : Entry) → (c ≡ Asks x → IsEntry x) → (d ≡ Asks x → IsEntry x) → cond b c d ≡ Asks x → IsEntry x
either_fits true c d x p q e = p e
either_fits false c d x p q e = q e

beyond_fits : (line : List ℕ) (x : Entry) → beyond line ≡ Asks x → IsEntry x
beyond_fits line x e =
    either_fits (bytes_eq (first_word line) (codes "shift")) (shifting (times_of (after_word line))) (ranged (said (with_first line)) (times_of (first_word (after_word line)))) x
    (shifting_fits (times_of (after_word line)) x (times_fit (after_word line)))
    (ranged_fits (with_first line) (said (with_first line)) (times_of (first_word (after_word line))) x refl (times_fit (first_word (after_word line)))) e

by_fits : (line : List ℕ) (s : Said) (x : Entry) → said line ≡ s → content_by line s ≡ Asks x → IsEntry x
by_fits line said_of.Nothing x says e = absurd (cc)
by_fits line (said_of.Says rule) x says e = let same : plain rule ≡ x = cc in subst IsEntry same (said_fits line rule says)
by_fits line said_of.Outside x says e = beyond_fits line x e

-- a line has only entries whose numbers fit
pub content_fits : (line : List ℕ) (x : Entry) → content_of line ≡ Asks x → IsEntry x
unfolding content_of
content_fits line x e = by_fits line (said line) x refl e
