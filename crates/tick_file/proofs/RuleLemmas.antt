-- The rules of a text: their numbers are bounded, and those of one line have the same event.
use Rattle.std.proofs.Common.{◌≡◌, ℕ, ◌+◌, ◌-◌, ◌^◌, ◌≤◌, Bool, true, false, not, cond, List, [], ◌∷◌, ◌++◌, map, Option, None, Some, length, refl, sym, ap, ◌∙◌, arith}
use Rattle.std.specs.Prelude.{nat_le, nat_lt, ◌&&◌, ◌||◌, codes}
use Rattle.std.specs.Str.{bytes_eq}
use Rattle.std.specs.Str.Parse.{digits_value}
use Rattle.std.specs.List.{AllByRecursion, All, list_all}
use Rattle.std.specs.declared.cmp.Reverse.{Reverse}
use Rattle.std.proofs.lemmas.Bool.Decides.{nat_tests}
use Rattle.std.proofs.lemmas.List.Elements.{All-from_recursion}
use Rattle.wind_base.specs.Decimal.{decimal_value, number_within, is_numeral}
use Rattle.wind_base.specs.Limits.{greatest_word, longest_chunk, most_slots}
use Rattle.tick_file.specs.declared.event.Event.TheVariants.{Tick, Rx, Irq}
use Rattle.tick_file.specs.declared.event.Rule.{Rule}
use Rattle.tick_file.specs.declared.event.Rule.TheVariants.{At, Every}
use Rattle.tick_file.specs.declared.event.Said.{Said}
use Rattle.tick_file.specs.declared.event.Said.TheVariants.{Nothing, Says, Outside}
use Rattle.tick_file.specs.declared.pending.Pending.{Pending}
use Rattle.tick_file.specs.Grammar.{is_blank, is_comment, word_number, first_word, after_word, of_both, of_three, tick_at, rx_at, every_at, irq_at, irqs_at, tick_rule, rx_rule, every_rule, irq_rule, irqs_rule, rule_of, by_rule, said}
use Rattle.tick_file.specs.Lines.{Numbered, rule_at, rules_from, rules_of, tick_lines}
use Rattle.tick_file.specs.Schedule.{brings_bytes, event_of}
use Rattle.tick_file.specs.Inside.{pending_at, pending_of, waiting_of, IsSound, Agree}
use Rattle.tick_file.proofs.Merging.{all_both, all_weaker}

-- a number of the file
abbrev Small : ℕ → Type 0
Small n = n ≤ 2 ^ 32 - 1

abbrev SmallIf : Option ℕ → Type 0
SmallIf None = Unit {0}
SmallIf (Some n) = Small n

within_small : (ds : List ℕ) → SmallIf (number_within greatest_word ds)
within_small ds = elim (nat_le (digits_value 10 ds) greatest_word) as (λ b. nat_le (digits_value 10 ds) greatest_word ≡ b → SmallIf (cond b (Some (digits_value 10 ds)) None)) [ true ↦ λ e. grind (arith, nat_tests) | false ↦ λ e. tt ] refl

decimal_small : (text : List ℕ) → SmallIf (decimal_value greatest_word text)
unfolding decimal_value
decimal_small text = elim (is_numeral text) as (λ b. SmallIf (cond b (number_within greatest_word text) None)) [ true ↦ within_small text | false ↦ tt ]

number_small : (text : List ℕ) → SmallIf (word_number text)
number_small text = elim (nat_le (length text) 10) as (λ b. SmallIf (cond b (decimal_value greatest_word text) None)) [ true ↦ decimal_small text | false ↦ tt ]

-- the numbers of a rule
abbrev pub IsBounded : Rule → Type 0
IsBounded (At time event) = Small time
IsBounded (Every period count event) = (Small period × Small count) × (1 ≤ count)

abbrev BoundedIf : Option Rule → Type 0
BoundedIf None = Unit {0}
BoundedIf (Some rule) = IsBounded rule

abbrev BoundedSaid : Said → Type 0
BoundedSaid Nothing = Unit {0}
BoundedSaid (Says rule) = IsBounded rule
BoundedSaid Outside = Unit {0}

tick_bounded : (o : Option ℕ) → SmallIf o → BoundedIf (tick_at o)
tick_bounded None h = tt
tick_bounded (Some n) h = h

both_bounded : (f : ℕ → ℕ → Option Rule) → ((a b : ℕ) → Small a → Small b → BoundedIf (f a b)) → (o p : Option ℕ) → SmallIf o → SmallIf p → BoundedIf (of_both f o p)
both_bounded f h None None a b = tt
both_bounded f h None (Some m) a b = tt
both_bounded f h (Some n) None a b = tt
both_bounded f h (Some n) (Some m) a b = h n m a b

rx_bounded : (t k : ℕ) → Small t → Small k → BoundedIf (rx_at t k)
rx_bounded t k a b = elim (nat_le 1 k && nat_le k longest_chunk) as (λ c. BoundedIf (cond c (Some (At t (Rx k))) None)) [ true ↦ a | false ↦ tt ]

every_bounded : (p c : ℕ) → Small p → Small c → BoundedIf (every_at p c)
every_bounded p c a b =
    elim (nat_le 1 p && nat_le 1 c) as (λ d. (nat_le 1 p && nat_le 1 c) ≡ d → BoundedIf (cond d (Some (Every p c Tick)) None)) [
      | true ↦ λ e. let some : 1 ≤ c = grind (arith, nat_tests) in ((a, b), some)
      | false ↦ λ e. tt
    ] refl

three_bounded : (f : ℕ → ℕ → ℕ → Option Rule) → ((a b c : ℕ) → Small a → Small b → Small c → BoundedIf (f a b c)) → (o p q : Option ℕ) → SmallIf o → SmallIf p → SmallIf q → BoundedIf (of_three f o p q)
three_bounded f h None p q a b c = tt
three_bounded f h (Some n) p q a b c = both_bounded (f n) (λ m k d e. h n m k a d e) p q b c

irq_bounded : (t s : ℕ) → Small t → Small s → BoundedIf (irq_at t s)
irq_bounded t s a b = elim (nat_lt s most_slots) as (λ c. BoundedIf (cond c (Some (At t (Irq s))) None)) [ true ↦ a | false ↦ tt ]

irqs_bounded : (p c s : ℕ) → Small p → Small c → Small s → BoundedIf (irqs_at p c s)
irqs_bounded p c s a b d =
    elim (nat_le 1 p && nat_le 1 c && nat_lt s most_slots) as (λ t. (nat_le 1 p && nat_le 1 c && nat_lt s most_slots) ≡ t → BoundedIf (cond t (Some (Every p c (Irq s))) None)) [
      | true ↦ λ e. let some : 1 ≤ c = grind (arith, nat_tests) in ((a, b), some)
      | false ↦ λ e. tt
    ] refl

pick_bounded : (b : Bool) (o p : Option Rule) → BoundedIf o → BoundedIf p → BoundedIf (cond b o p)
pick_bounded true o p h k = h
pick_bounded false o p h k = k

rule_bounded : (line : List ℕ) → BoundedIf (rule_of line)
rule_bounded line =
    let rest = after_word line in
    let first = number_small (first_word rest) in
    let second = number_small (after_word rest) in
    pick_bounded (bytes_eq (first_word line) (codes "tick")) (tick_rule rest) _ (tick_bounded (word_number rest) (number_small rest))
    (pick_bounded (bytes_eq (first_word line) (codes "rx")) (rx_rule rest) _ (both_bounded rx_at rx_bounded (word_number (first_word rest)) (word_number (after_word rest)) first second)
    (pick_bounded (bytes_eq (first_word line) (codes "every")) (every_rule rest) _ (both_bounded every_at every_bounded (word_number (first_word rest)) (word_number (after_word rest)) first second)
    (pick_bounded (bytes_eq (first_word line) (codes "irq")) (irq_rule rest) _ (both_bounded irq_at irq_bounded (word_number (first_word rest)) (word_number (after_word rest)) first second)
    (pick_bounded (bytes_eq (first_word line) (codes "irqs")) (irqs_rule rest) None
    (three_bounded irqs_at irqs_bounded (word_number (first_word rest)) (word_number (first_word (after_word rest))) (word_number (after_word (after_word rest)))
    first (number_small (first_word (after_word rest))) (number_small (after_word (after_word rest)))) tt))))

by_rule_bounded : (o : Option Rule) → BoundedIf o → BoundedSaid (by_rule o)
by_rule_bounded None h = tt
by_rule_bounded (Some rule) h = h

said_bounded : (line : List ℕ) → BoundedSaid (said line)
unfolding said
said_bounded line = by (list_all is_blank line || is_comment line) (by_rule (rule_of line)) (by_rule_bounded (rule_of line) (rule_bounded line))
  where
    by : (b : Bool) (s : Said) → BoundedSaid s → BoundedSaid (cond b Nothing s)
    by true s h = tt
    by false s h = h

-- each rule of some lines is bounded, and of a line from n on
abbrev IsFrom : ℕ → Numbered → Type 0
IsFrom n r = IsBounded r.rule × (n ≤ r.line)

from_line : (n : ℕ) (s : Said) → BoundedSaid s → AllByRecursion (IsFrom n) (rule_at n s)
from_line n Nothing h = tt
from_line n (Says rule) h = ((h, omega arith), tt)
from_line n Outside h = tt

all_from : (n : ℕ) (lines : List (List ℕ)) → AllByRecursion (IsFrom n) (rules_from n lines)
all_from n [] = tt
all_from n (line ∷ lines) =
    all_both (IsFrom n) (rule_at n (said line)) (rules_from (n + 1) lines) (from_line n (said line) (said_bounded line))
    (all_weaker (IsFrom (n + 1)) (IsFrom n) (λ r h. (h.0, omega (arith, h.1))) (rules_from (n + 1) lines) (all_from (n + 1) lines))

pub rules_bounded : (text : List ℕ) → All (λ r. IsBounded r.rule) (rules_of text)
unfolding rules_of
rules_bounded text =
    let rs = rules_from 1 (tick_lines text) in
    All-from_recursion (λ r. IsBounded r.rule) rs (all_weaker (IsFrom 1) (λ r. IsBounded r.rule) (λ r h. h.0) rs (all_from 1 (tick_lines text)))

-- ---- the rules as they are stored
sound_at : (n : ℕ) (rule : Rule) → IsBounded rule → IsSound (pending_at n rule)
sound_at n (At time event) h = let t : time ≤ 2 ^ 32 - 1 = h in record { some = omega arith; numbers = omega arith; apart = omega arith; times = omega arith }
sound_at n (Every period count event) h = record { some = omega (arith, h.1); numbers = omega (arith, h.0.1); apart = h.0.0; times = omega (arith, h.0.0) }

all_sound : (rs : List Numbered) → AllByRecursion (λ r. IsBounded r.rule) rs → AllByRecursion (λ (p : Reverse Pending). IsSound p.0) (map waiting_of rs)
all_sound [] h = tt
all_sound (r ∷ rs) h = (sound_at r.line r.rule h.0, all_sound rs h.1)

pub rules_sound : (text : List ℕ) → All (λ (p : Reverse Pending). IsSound p.0) (map waiting_of (rules_of text))
unfolding rules_of
rules_sound text =
    let rs = rules_from 1 (tick_lines text) in
    All-from_recursion (λ p. IsSound p.0) (map waiting_of rs) (all_sound rs (all_weaker (IsFrom 1) (λ r. IsBounded r.rule) (λ r h. h.0) rs (all_from 1 (tick_lines text))))

-- two rules of the same line have the same event
abbrev AreAlike : Numbered → Numbered → Type 0
AreAlike r s = Agree (pending_of r) (pending_of s)

line_kept : (n : ℕ) (rule : Rule) → (pending_at n rule).line ≡ n
line_kept n (At time event) = refl
line_kept n (Every period count event) = refl

apart : (r s : Numbered) → r.line + 1 ≤ s.line → (pending_of r).line ≡ (pending_of s).line → ⊥
apart r s h e = omega (arith, line_kept r.line r.rule, line_kept s.line s.rule, e)

module _ {X : Type 0} where
  all_two : (P Q R : X → Type 0) → ((x : X) → P x → Q x → R x) → (xs : List X) → AllByRecursion P xs → AllByRecursion Q xs → AllByRecursion R xs
  all_two P Q R f [] ps qs = tt
  all_two P Q R f (x ∷ xs) ps qs = (f x ps.0 qs.0, all_two P Q R f xs ps.1 qs.1)

  all_map : {Y : Type 0} (f : X → Y) (P : Y → Type 0) (xs : List X) → AllByRecursion (λ x. P (f x)) xs → AllByRecursion P (map f xs)
  all_map f P [] h = tt
  all_map f P (x ∷ xs) h = (h.0, all_map f P xs h.1)

abbrev AllAlike : List Numbered → Type 0
AllAlike rs = AllByRecursion (λ r. AllByRecursion (AreAlike r) rs) rs

alike_more : (x : Numbered) (rs : List Numbered) → AllByRecursion (IsFrom (x.line + 1)) rs → AllAlike rs → AllAlike (x ∷ rs)
alike_more x rs later h = (
  ((λ e. refl), all_weaker (IsFrom (x.line + 1)) (AreAlike x) (λ s k e. absurd (apart x s k.1 e)) rs later),
  all_two (IsFrom (x.line + 1)) (λ r. AllByRecursion (AreAlike r) rs) (λ r. AllByRecursion (AreAlike r) (x ∷ rs)) (λ r k l. ((λ e. absurd (apart x r k.1 (sym e))), l)) rs later h,
)

alike_line : (n : ℕ) (s : Said) (rs : List Numbered) → AllByRecursion (IsFrom (n + 1)) rs → AllAlike rs → AllAlike (rule_at n s ++ rs)
alike_line n Nothing rs later h = h
alike_line n (Says rule) rs later h = alike_more (record { line = n; rule = rule }) rs later h
alike_line n Outside rs later h = h

all_alike : (n : ℕ) (lines : List (List ℕ)) → AllAlike (rules_from n lines)
all_alike n [] = tt
all_alike n (line ∷ lines) = alike_line n (said line) (rules_from (n + 1) lines) (all_from (n + 1) lines) (all_alike (n + 1) lines)

pub rules_agree : (text : List ℕ) → All (λ (p : Reverse Pending). All (λ (q : Reverse Pending). Agree p.0 q.0) (map waiting_of (rules_of text))) (map waiting_of (rules_of text))
unfolding rules_of
rules_agree text =
    let rs = rules_from 1 (tick_lines text) in
    let ps = map waiting_of rs in
    All-from_recursion (λ p. All (λ q. Agree p.0 q.0) ps) ps
    (all_map waiting_of (λ p. All (λ q. Agree p.0 q.0) ps) rs
    (all_weaker (λ r. AllByRecursion (AreAlike r) rs) (λ r. All (λ q. Agree (pending_of r) q.0) ps)
    (λ r h. All-from_recursion (λ q. Agree (pending_of r) q.0) ps (all_map waiting_of (λ q. Agree (pending_of r) q.0) rs h))
    rs (all_alike 1 (tick_lines text))))

-- input comes on demand if no stored rule brings bytes
pub on_demand_kept : (rs : List Numbered) → list_all (λ (p : Reverse Pending). not (brings_bytes p.0.event)) (map waiting_of rs) ≡ list_all (λ r. not (brings_bytes (event_of r.rule))) rs
on_demand_kept [] = refl
on_demand_kept (r ∷ rs) =
    ap (λ e. not (brings_bytes e) && list_all (λ (p : Reverse Pending). not (brings_bytes p.0.event)) (map waiting_of rs)) (by r.line r.rule)
    ∙ ap (λ b. not (brings_bytes (event_of r.rule)) && b) (on_demand_kept rs)
  where
    by : (n : ℕ) (rule : Rule) → (pending_at n rule).event ≡ event_of rule
    by n (At time event) = refl
    by n (Every period count event) = refl
