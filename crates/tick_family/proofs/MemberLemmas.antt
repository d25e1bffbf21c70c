-- Each member of a family is a tick file.
use Rattle.std.proofs.Common.{◌≡◌, ℕ, zero, suc, ◌+◌, ◌-◌, ◌*◌, ◌<◌, ◌≤◌, Bool, true, false, cond, List, [], ◌∷◌, length, refl, sym, ◌∙◌, subst, arith}
use Rattle.std.specs.Prelude.{nat_lt, nat_le, ◌||◌, ◌&&◌, Ok, Err}
use Rattle.std.specs.Cmp.{IsStrictWeakOrder}
use Rattle.std.specs.List.{AllByRecursion}
use Rattle.std.proofs.Math.Nat.{mul-le-mul_right}
use Rattle.std.proofs.lemmas.Bool.Decides.{nat_tests}
use Rattle.std.proofs.lemmas.Cmp.{nat_cmp_total}
use Rattle.std.proofs.lemmas.List.MinMax.{ranks_by}
use Rattle.std.proofs.lemmas.List.Sorted.{sum_by-IsPermutation}
use Rattle.id_table.specs.Sorting.{sorted}
use Rattle.id_table.proofs.Sorting.{InOrder, in_order_sorted}
use Rattle.id_table.proofs.Orders.{IsPermutation-sorted}
use Rattle.wind_base.specs.Limits.{greatest_word, longest_text_file, longest_chunk}
use Rattle.tick_file.specs.declared.event.Event.{Event}
use Rattle.tick_file.specs.declared.event.Event.TheVariants.{Tick, Rx, Irq}
use Rattle.tick_file.specs.Writing.{event_line, IsInRange, AreRecordable}
use Rattle.tick_file.proofs.Merging.{all_both, all_weaker, all_sorted}
use Rattle.tick_file.proofs.Writing.{written}
use Rattle.tick_family.specs.declared.fault.Fault.TheVariants.{TooManyMembers, TimeTooLate, TextTooLong}
use Rattle.tick_family.specs.declared.times.Times.{Times}
use Rattle.tick_family.specs.declared.entry.Entry.{Entry}
use Rattle.tick_family.specs.declared.entry.Entry.TheVariants.{Once, Every, Shift}
use Rattle.tick_family.specs.declared.extent.Extent.{Extent}
use Rattle.tick_family.specs.Times.{time_at}
use Rattle.tick_family.specs.Members.{choices, members_of, choice_of, shift_below, periodic, entry_events, chosen_events, earlier, member_events, member_text}
use Rattle.tick_family.specs.Reading.{most_members, text_length, is_late, greatest, start, last_events, extended, grown}
use Rattle.tick_family.specs.Inside.{in_range, IsEntry, is_accepted, are_accepted}
use Rattle.tick_family.specs.Laws.{IsChoice, IsTickFile, MemberLaw}
use Rattle.tick_family.proofs.ChoiceLemmas.{makes_choice}
use Rattle.tick_family.proofs.ReadingLemmas.{family_good}
use Rattle.tick_family.proofs.TextLemmas.{line_rises, length_more, length_both, length_recorded, late_every}

-- ---- one entry
-- a tick file can have the event at its time
abbrev pub IsFine : ℕ × Event → Type 0
IsFine e = (e.0 ≤ greatest_word) × (in_range e.1 ≡ true)

early_is : (n : ℕ) → nat_lt greatest_word n ≡ false → n ≤ greatest_word
early_is n h = grind (arith, nat_tests)

or_false : (b : Bool) → (b || false) ≡ false → b ≡ false
or_false true e = e
or_false false e = refl

-- a later choice is a later time
time_rises : (t : Times) (k l : ℕ) → k ≤ l → time_at t k ≤ time_at t l
time_rises t k l h = omega (arith, mul-le-mul_right t.step h)

periodic_fine : (s period : ℕ) (e : Event) (k count : ℕ) → (k + count) * period + s ≤ greatest_word → in_range e ≡ true → AllByRecursion IsFine (periodic s period e (suc k) count)
periodic_fine s period e k zero h r = tt
periodic_fine s period e k (suc count) h r =
    let le : suc k * period ≤ (k + suc count) * period = mul-le-mul_right period (omega arith) in
    let same : suc k + count ≡ k + suc count = omega arith in
    ((omega (arith, le, h), r), periodic_fine s period e (suc k) count (subst (λ n. n * period + s ≤ greatest_word) (sym same) h) r)

periodic_rises : (s t period : ℕ) (e : Event) (k count : ℕ) → s ≤ t → (k + count) * period + t ≤ greatest_word
    → text_length (periodic s period e (suc k) count) ≤ text_length (periodic t period e (suc k) count)
periodic_rises s t period e k zero h fits = omega arith
periodic_rises s t period e k (suc count) h fits =
    let le : suc k * period ≤ (k + suc count) * period = mul-le-mul_right period (omega arith) in
    let same : suc k + count ≡ k + suc count = omega arith in
    let rest = periodic_rises s t period e (suc k) count h (subst (λ n. n * period + t ≤ greatest_word) (sym same) fits) in
    let one = line_rises (suc k * period + s) (suc k * period + t) e (omega (arith, h)) (omega (arith, le, fits)) in
    omega (
      arith,
      one,
      rest,
      length_more (suc k * period + s, e) (periodic s period e (suc (suc k)) count),
      length_more (suc k * period + t, e) (periodic t period e (suc (suc k)) count),
    )

-- the events of an entry are fine, and no longer than in the last member
entry_fine : (s t : ℕ) (x : Entry) (k : ℕ) → IsEntry x → s ≤ t → t ≤ greatest_word → k < choices x → is_late (entry_events t x (greatest x)) ≡ false
    → AllByRecursion IsFine (entry_events s x k) × (text_length (entry_events s x k) ≤ text_length (entry_events t x (greatest x)))
entry_fine s t (Once times e) k h le fits inside early =
    let last = early_is (time_at times (times.count - 1) + t) (or_false (nat_lt greatest_word (time_at times (times.count - 1) + t)) early) in
    let rises = time_rises times k (times.count - 1) (omega (arith, inside)) in
    let one = line_rises (time_at times k + s) (time_at times (times.count - 1) + t) e (omega (arith, rises, le)) (omega (arith, last)) in (
      ((omega (arith, rises, le, last), h.event), tt),
      omega (arith, one, length_more (time_at times k + s, e) [], length_more (time_at times (times.count - 1) + t, e) []),
    )
entry_fine s t (Every period count e) k h le fits inside early =
    let last : count * period + t ≤ greatest_word = early_is (count * period + t) (sym (late_every t period e count fits) ∙ early) in
    let same : 0 + count ≡ count = omega arith in
    let from : (0 + count) * period + t ≤ greatest_word = subst (λ n. n * period + t ≤ greatest_word) (sym same) last in
    (periodic_fine s period e 0 count (omega (arith, from, le)) h.event, periodic_rises s t period e 0 count le from)
entry_fine s t (Shift times) k h le fits inside early = (tt, omega arith)

shift_rises : (s t : ℕ) (x : Entry) (k : ℕ) → IsEntry x → s ≤ t → t ≤ greatest_word → k < choices x
    → (shift_below s x k ≤ shift_below t x (greatest x)) × (shift_below t x (greatest x) ≤ greatest_word)
shift_rises s t (Once times e) k h le fits inside = (le, fits)
shift_rises s t (Every period count e) k h le fits inside = (le, fits)
shift_rises s t (Shift times) k h le fits inside = (time_rises times k (times.count - 1) (omega (arith, inside)), h.fits)

-- ---- all entries
both_hold : (a b : Bool) → (a && b) ≡ true → (a ≡ true) × (b ≡ true)
both_hold true b e = (refl, e)
both_hold false b e = absurd (cc)

accepted_tests : (a b c : Bool) (next : Extent) → is_accepted (cond a (Err TooManyMembers) (cond b (Err TimeTooLate) (cond c (Err TextTooLong) (Ok next)))) ≡ true → (b ≡ false) × (c ≡ false)
accepted_tests true b c next e = absurd (cc)
accepted_tests false true c next e = absurd (cc)
accepted_tests false false true next e = absurd (cc)
accepted_tests false false false next e = (refl, refl)

short_is : (n : ℕ) → nat_lt longest_text_file n ≡ false → n ≤ longest_text_file
short_is n h = grind (arith, nat_tests)

accepted_is : (extent : Extent) (x : Entry) → is_accepted (grown extent x) ≡ true → (is_late (last_events extent x) ≡ false) × (extent.bytes + text_length (last_events extent x) ≤ longest_text_file)
unfolding grown
accepted_is extent x e =
    let k = accepted_tests (nat_lt most_members (extent.members * choices x)) (is_late (last_events extent x)) (nat_lt longest_text_file (extent.bytes + text_length (last_events extent x))) (extended extent x) e in
    (k.0, short_is (extent.bytes + text_length (last_events extent x)) k.1)

all_fine : (xs : List Entry) (ks : List ℕ) (s : ℕ) (extent : Extent) → AllByRecursion IsEntry xs → are_accepted extent xs ≡ true → IsChoice xs ks
    → s ≤ extent.shift → extent.shift ≤ greatest_word → extent.bytes ≤ longest_text_file
    → AllByRecursion IsFine (chosen_events s xs ks) × (extent.bytes + text_length (chosen_events s xs ks) ≤ longest_text_file)
all_fine [] ks s extent hs ok choice le fits short = (tt, omega (arith, short))
all_fine (x ∷ xs) [] s extent hs ok choice le fits short = absurd choice
all_fine (x ∷ xs) (k ∷ ks) s extent hs ok choice le fits short =
    let both = both_hold (is_accepted (grown extent x)) (are_accepted (extended extent x) xs) ok in
    let accepted = accepted_is extent x both.0 in
    let here = entry_fine s extent.shift x k hs.0 le fits choice.0 accepted.0 in
    let shifts = shift_rises s extent.shift x k hs.0 le fits choice.0 in
    let rest = all_fine xs ks (shift_below s x k) (extended extent x) hs.1 both.1 choice.1 shifts.0 shifts.1 accepted.1 in (
      all_both IsFine (entry_events s x k) (chosen_events (shift_below s x k) xs ks) here.0 rest.0,
      omega (arith, here.1, rest.1, length_both (entry_events s x k) (chosen_events (shift_below s x k) xs ks)),
    )

-- ---- the events by time
pub order : IsStrictWeakOrder earlier
order = ranks_by nat_cmp_total (λ (e : ℕ × Event). e.0)

is_range : (e : Event) → in_range e ≡ true → IsInRange e
is_range Tick h = tt
is_range (Rx n) h = let k = both_hold (nat_le 1 n) (nat_le n longest_chunk) h in (grind (arith, nat_tests), grind (arith, nat_tests))
is_range (Irq slot) h = grind (arith, nat_tests)

not_earlier : (a b : ℕ × Event) → earlier a b ≡ false → b.0 ≤ a.0
not_earlier a b h = grind (arith, nat_tests)

recordable : (least : ℕ) (es : List (ℕ × Event)) → AllByRecursion (λ e. least ≤ e.0) es → InOrder earlier es → AllByRecursion IsFine es → AreRecordable least es
recordable least [] from o fine = tt
recordable least (e ∷ es) from o fine = (
  from.0,
  fine.0.0,
  is_range e.1 fine.0.1,
  recordable e.0 es (all_weaker (λ z. earlier z e ≡ false) (λ z. e.0 ≤ z.0) (λ z h. not_earlier z e h) es o.0) o.1 fine.1,
)

from_zero : (es : List (ℕ × Event)) → AllByRecursion (λ e. 0 ≤ e.0) es
from_zero [] = tt
from_zero (e ∷ es) = (omega arith, from_zero es)

member_fine : (xs : List Entry) (i : ℕ) → AllByRecursion IsEntry xs → are_accepted start xs ≡ true → i < members_of xs
    → AreRecordable 0 (member_events xs i) × (length (member_text xs i) ≤ longest_text_file)
unfolding member_events
member_fine xs i hs ok inside =
    let es = chosen_events 0 xs (choice_of xs i) in
    let k = all_fine xs (choice_of xs i) 0 start hs ok (makes_choice xs i inside) (omega arith) (omega arith) (omega arith) in
    let same = sum_by-IsPermutation (λ (e : ℕ × Event). length (event_line e.0 e.1) + 1) es (sorted earlier es) (IsPermutation-sorted earlier es) in (
      recordable 0 (sorted earlier es) (from_zero (sorted earlier es)) (in_order_sorted earlier order es) (all_sorted earlier IsFine es k.0),
      omega (arith, k.1, same, length_recorded (sorted earlier es)),
    )

pub is_tick_file : (xs : List Entry) (i : ℕ) → AllByRecursion IsEntry xs → are_accepted start xs ≡ true → i < members_of xs → IsTickFile xs i
is_tick_file xs i hs ok inside =
    let k = member_fine xs i hs ok inside in
    let w = written (member_events xs i) k.0 in
    record { valid = w.1; short = k.1; events = w.0 }

pub all_members : MemberLaw
all_members text xs i e inside = let good = family_good text xs e in is_tick_file xs i good.0 good.1 inside
