-- How long the tick file of a member is, and how late its events come.
use Rattle.std.proofs.Common.{◌≡◌, ℕ, zero, suc, ◌+◌, ◌-◌, ◌*◌, ◌/◌, ◌%◌, ◌^◌, ◌<◌, ◌≤◌, Bool, true, false, cond, List, [], ◌∷◌, ◌++◌, length, None, Some, refl, sym, ap, ◌∙◌, subst, arith, add-one}
use Rattle.std.specs.Prelude.{nat_lt, ◌||◌}
use Rattle.std.specs.Fmt.{decimal}
use Rattle.std.proofs.Math.Nat.{mul-le-mul_right, pow-suc}
use Rattle.std.proofs.lemmas.Nat.{mul-le}
use Rattle.std.proofs.lemmas.Bool.Decides.{nat_tests}
use Rattle.std.proofs.lemmas.Fmt.{decimal_by_steps, decimal_nonempty, length-decimal-le}
use Rattle.std.proofs.lemmas.List.{length-append, append_assoc, append-nil}
use Rattle.std.proofs.lemmas.List.Sums.{sum_by-cons, sum_by-append}
use Rattle.wind_base.specs.Limits.{greatest_word, longest_text_file}
use Rattle.tick_file.specs.declared.event.Event.{Event}
use Rattle.tick_file.specs.declared.event.Event.TheVariants.{Tick, Rx, Irq}
use Rattle.tick_file.specs.Writing.{event_line, recorded}
use Rattle.tick_family.specs.Members.{periodic}
use Rattle.tick_family.specs.Reading.{text_length, is_late}
use Rattle.tick_family.specs.Inside.{fitting}

-- ---- digits
abbrev IsBelowPower : ℕ → List ℕ → Type 0
IsBelowPower n ds = n < 10 ^ length ds

more_digits : (n : ℕ) (ds : List ℕ) → 10 ≤ n → IsBelowPower (n / 10) ds → IsBelowPower n (ds ++ ((48 + n % 10) ∷ []))
more_digits n ds h p =
    let e : length (ds ++ ((48 + n % 10) ∷ [])) ≡ suc (length ds) = length-append ds ((48 + n % 10) ∷ []) ∙ add-one (length ds) in
    subst (λ k. n < 10 ^ k) (sym e) (rw pow-suc (omega (arith, p)))

below_power : (n : ℕ) → n < 2 ^ 64 → n < 10 ^ length (decimal n)
below_power n h = decimal_by_steps IsBelowPower (λ k l. omega (arith, l)) more_digits n h

-- a greater number has no fewer digits
pub digits_rise : (m n : ℕ) → m ≤ n → n < 2 ^ 64 → length (decimal m) ≤ length (decimal n)
digits_rise m n h k = length-decimal-le (length (decimal n)) m (decimal_nonempty n k) (omega (arith, h, below_power n k)) (omega (arith, h, k))

-- and a later event has no shorter line
pub line_rises : (s t : ℕ) (e : Event) → s ≤ t → t < 2 ^ 64 → length (event_line s e) ≤ length (event_line t e)
line_rises s t Tick h k = omega (arith, digits_rise s t h k)
line_rises s t (Rx n) h k = simp (length-append) (omega (arith, digits_rise s t h k))
line_rises s t (Irq slot) h k = simp (length-append) (omega (arith, digits_rise s t h k))

-- ---- sums
pub length_more : (e : ℕ × Event) (es : List (ℕ × Event)) → text_length (e ∷ es) ≡ (length (event_line e.0 e.1) + 1) + text_length es
length_more e es = sum_by-cons (λ e. length (event_line e.0 e.1) + 1) e es

pub length_both : (es fs : List (ℕ × Event)) → text_length (es ++ fs) ≡ text_length es + text_length fs
length_both es fs = sum_by-append (λ e. length (event_line e.0 e.1) + 1) es fs

-- it is the length of the text
pub length_recorded : (es : List (ℕ × Event)) → length (recorded es) ≡ text_length es
length_recorded [] = refl
length_recorded (e ∷ es) =
    length-append (event_line e.0 e.1) (10 ∷ recorded es)
    ∙ omega (arith, length_more e es, length_recorded es)

-- ---- events one period apart
-- the first of them, and the others
pub periodic_step : (shift period : ℕ) (e : Event) (k count i : ℕ) → i < count
    → periodic shift period e k (count - i) ≡ (k * period + shift, e) ∷ periodic shift period e (k + 1) (count - (i + 1))
periodic_step shift period e k count i h =
    let one : count - i ≡ suc (count - (i + 1)) = omega (arith, h) in
    ap (periodic shift period e k) one ∙ ap (λ n. (k * period + shift, e) ∷ periodic shift period e n (count - (i + 1))) (sym (add-one k))

pub periodic_done : (shift period : ℕ) (e : Event) (k count : ℕ) → periodic shift period e k (count - count) ≡ []
periodic_done shift period e k count = let none : count - count ≡ 0 = omega arith in ap (periodic shift period e k) none

or_late : (a b : ℕ) → a ≤ b → (nat_lt greatest_word a || nat_lt greatest_word b) ≡ nat_lt greatest_word b
or_late a b h = grind (arith, nat_tests)

or_none : (b : Bool) → (b || false) ≡ b
or_none true = refl
or_none false = refl

late_more : (shift period : ℕ) (e : Event) (k count : ℕ) → is_late (periodic shift period e k (suc count)) ≡ nat_lt greatest_word ((k + count) * period + shift)
late_more shift period e k zero =
    let same : k ≡ k + 0 = omega arith in or_none (nat_lt greatest_word (k * period + shift)) ∙ ap (λ n. nat_lt greatest_word (n * period + shift)) same
late_more shift period e k (suc count) =
    let same : suc k + count ≡ k + suc count = omega arith in
    let le : k * period ≤ (k + suc count) * period = mul-le-mul_right period (omega arith) in
    ap (λ b. nat_lt greatest_word (k * period + shift) || b) (late_more shift period e (suc k) count ∙ ap (λ n. nat_lt greatest_word (n * period + shift)) same)
    ∙ or_late (k * period + shift) ((k + suc count) * period + shift) (omega (arith, le))

early_test : (n : ℕ) → n ≤ greatest_word → false ≡ nat_lt greatest_word n
early_test n h = grind (arith, nat_tests)

-- the last of them is the latest
pub late_every : (shift period : ℕ) (e : Event) (count : ℕ) → shift ≤ greatest_word → is_late (periodic shift period e 1 count) ≡ nat_lt greatest_word (count * period + shift)
late_every shift period e zero h = early_test (0 * period + shift) (omega (arith, h))
late_every shift period e (suc count) h = let same : 1 + count ≡ suc count = omega arith in late_more shift period e 1 count ∙ ap (λ n. nat_lt greatest_word (n * period + shift)) same

-- a product of two words fits
pub product_small : (a b : ℕ) → a ≤ greatest_word → b ≤ greatest_word → a * b ≤ 0xfffffffe00000001
product_small a b h k = mul-le a b greatest_word greatest_word h k

-- one more of the events, and its line
pub length_step : (shift period : ℕ) (e : Event) (count i bytes whole line : ℕ) → i < count
    → bytes + text_length (periodic shift period e (i + 1) (count - i)) ≡ whole → line ≡ length (event_line ((i + 1) * period + shift) e) + 1
    → bytes + line + text_length (periodic shift period e (i + 1 + 1) (count - (i + 1))) ≡ whole
length_step shift period e count i bytes whole line h sum is =
    let step = ap text_length (periodic_step shift period e (i + 1) count i h) ∙ length_more ((i + 1) * period + shift, e) (periodic shift period e (i + 1 + 1) (count - (i + 1))) in
    omega (arith, sum, is, step)

-- the same for the events themselves
pub push_step : (shift period : ℕ) (e : Event) (count i time : ℕ) (events more whole : List (ℕ × Event)) → i < count → time ≡ (i + 1) * period + shift → more ≡ events ++ (time, e) ∷ []
    → events ++ periodic shift period e (i + 1) (count - i) ≡ whole → more ++ periodic shift period e (i + 1 + 1) (count - (i + 1)) ≡ whole
push_step shift period e count i time events more whole h at pushed sum =
    let rest = periodic shift period e (i + 1 + 1) (count - (i + 1)) in
    ap (λ (v : List (ℕ × Event)). v ++ rest) pushed
    ∙ append_assoc events ((time, e) ∷ []) rest
    ∙ ap (λ (t : ℕ). events ++ (t, e) ∷ rest) at
    ∙ sym (ap (λ (v : List (ℕ × Event)). events ++ v) (periodic_step shift period e (i + 1) count i h))
    ∙ sum

pub push_end : (shift period : ℕ) (e : Event) (count : ℕ) (events whole : List (ℕ × Event)) → events ++ periodic shift period e (count + 1) (count - count) ≡ whole → events ≡ whole
push_end shift period e count events whole sum = sym (append-nil events) ∙ sym (ap (λ (v : List (ℕ × Event)). events ++ v) (periodic_done shift period e (count + 1) count)) ∙ sum

pub length_end : (shift period : ℕ) (e : Event) (count bytes whole : ℕ) → bytes + text_length (periodic shift period e (count + 1) (count - count)) ≡ whole → bytes ≡ whole
length_end shift period e count bytes whole sum =
    let none : text_length (periodic shift period e (count + 1) (count - count)) ≡ 0 = ap text_length (periodic_done shift period e (count + 1) count) in omega (arith, sum, none)

pub from_first : (shift period : ℕ) (e : Event) (count : ℕ) → periodic shift period e 1 (count - 0) ≡ periodic shift period e 1 count
from_first shift period e count = let same : count - 0 ≡ count = omega arith in ap (periodic shift period e 1) same

-- ---- a length that fits
pub fitting_none : (n : ℕ) → longest_text_file < n → fitting n ≡ None
fitting_none n h = let t : nat_lt longest_text_file n ≡ true = grind (arith, nat_tests) in ap (λ b. cond b None (Some n)) t

pub fitting_some : (n : ℕ) → n ≤ longest_text_file → fitting n ≡ Some n
fitting_some n h = let t : nat_lt longest_text_file n ≡ false = grind (arith, nat_tests) in ap (λ b. cond b None (Some n)) t
