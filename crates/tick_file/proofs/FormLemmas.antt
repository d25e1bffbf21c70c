-- What a line says, by the grammar's own words.
use Rattle.std.proofs.Common.{◌≡◌, ℕ, suc, ◌+◌, ◌<◌, ◌≤◌, Bool, true, false, cond, not, List, [], ◌∷◌, ◌++◌, length, take, drop, Option, None, Some, refl, sym, ap, ◌∙◌, subst, arith}
use Rattle.std.specs.Prelude.{nat_le, nat_lt, ◌&&◌, ◌||◌, ◌==◌, ◌⊎◌, codes}
use mathlib.Core.Logic.{inl, inr, ⊎_elim}
use Rattle.std.specs.Char.{is_ascii_digit}
use Rattle.std.specs.Str.{bytes_eq}
use Rattle.std.specs.Str.Parse.{digits_value}
use Rattle.std.specs.List.{list_all, prefix_len}
use Rattle.std.proofs.lemmas.Bool.Decides.{nat_tests}
use Rattle.std.proofs.lemmas.List.{take-append-drop}
use Rattle.std.proofs.Math.Seq.{take-append_seam, drop-append_seam}
use Rattle.std.proofs.lemmas.Option.{same_Some}
use Rattle.std.proofs.lemmas.Slice.Eq.{bytes_eq-Decides}
use Rattle.wind_base.specs.Decimal.{decimal_value, number_within, is_numeral}
use Rattle.wind_base.specs.Limits.{greatest_word, longest_chunk, most_slots}
use Rattle.tick_file.specs.declared.event.Event.TheVariants.{Tick, Rx, Irq}
use Rattle.tick_file.specs.declared.event.Rule.{Rule}
use Rattle.tick_file.specs.declared.event.Rule.TheVariants.{At, Every}
use Rattle.tick_file.specs.declared.event.Said.TheVariants.{Nothing, Says}
use Rattle.tick_file.specs.Grammar.{is_blank, is_comment, word_length, gap_length, word_number, first_word, after_gap, after_word, of_both, of_three, tick_at, rx_at, every_at, irq_at, irqs_at, tick_rule, rx_rule, every_rule, irq_rule, irqs_rule, rule_of, by_rule, said}
use Rattle.tick_file.specs.Forms.{IsGap, IsNumber, HasOne, HasTwo, HasThree, IsLineOf, IsSilent, GrammarLaw}

-- ---- numbers
module _ {A : Type 0} where
  some_cond : (b : Bool) (o : Option A) (x : A) → cond b o None ≡ Some x → (b ≡ true) × (o ≡ Some x)
  some_cond true o x e = (refl, e)
  some_cond false o x e = absurd (cc)

number_is : (text : List ℕ) (n : ℕ) → word_number text ≡ Some n → IsNumber n text
unfolding decimal_value
number_is text n e =
    let a = some_cond (nat_le (length text) 10) (decimal_value greatest_word text) n e in
    let b = some_cond (is_numeral text) (number_within greatest_word text) n a.1 in
    let c = some_cond (nat_le (digits_value 10 text) greatest_word) (Some (digits_value 10 text)) n b.1 in
    let value : digits_value 10 text ≡ n = same_Some (digits_value 10 text) n c.1 in
    let numeral : is_numeral text ≡ true = b.0 in
    let fits : nat_le (length text) 10 ≡ true = a.0 in
    let within : nat_le (digits_value 10 text) greatest_word ≡ true = c.0 in
    record { some = grind (arith, nat_tests); few = grind (arith, nat_tests); decimal = grind (arith, nat_tests); value = value; small = grind (arith, nat_tests) }

number_back : (text : List ℕ) (n : ℕ) → IsNumber n text → word_number text ≡ Some n
unfolding decimal_value
number_back text n is =
    let few : length text ≤ 10 = is.few in
    let some : 1 ≤ length text = is.some in
    let value : digits_value 10 text ≡ n = is.value in
    let small : n ≤ greatest_word = is.small in
    let fits : nat_le (length text) 10 ≡ true = grind (arith, nat_tests) in
    let full : (length text == 0) ≡ false = grind (arith, nat_tests) in
    let numeral : is_numeral text ≡ true = ap (λ b. not b && list_all is_ascii_digit text) full ∙ is.decimal in
    let within : nat_le (digits_value 10 text) greatest_word ≡ true = grind (arith, nat_tests) in
    ap (λ b. cond b (decimal_value greatest_word text) None) fits
    ∙ ap (λ b. cond b (number_within greatest_word text) None) numeral
    ∙ ap (λ b. cond b (Some (digits_value 10 text)) None) within
    ∙ ap Some value

-- ---- tests
both_hold : (a b : Bool) → (a && b) ≡ true → (a ≡ true) × (b ≡ true)
both_hold true b e = (refl, e)
both_hold false b e = absurd (cc)

one_more : (n : ℕ) → 1 + n ≡ suc n
one_more n = omega arith

-- ---- the elements at the beginning of a list that pass a test
module _ {X : Type 0} (p : X → Bool) where
  -- the list ends here, or its first does not pass
  abbrev Stops : List X → Type 0
  Stops [] = Unit {0}
  Stops (x ∷ xs) = p x ≡ false

  prefix_passes : (xs : List X) → list_all p (take (prefix_len p xs) xs) ≡ true
  prefix_passes [] = refl
  prefix_passes (x ∷ xs) =
      elim (p x) as (λ b. p x ≡ b → list_all p (take (cond b (1 + prefix_len p xs) 0) (x ∷ xs)) ≡ true) [
        | true ↦ λ e. ap (λ n. list_all p (take n (x ∷ xs))) (one_more (prefix_len p xs)) ∙ ap (λ b. b && list_all p (take (prefix_len p xs) xs)) e ∙ prefix_passes xs
        | false ↦ λ e. refl
      ] refl

  prefix_stops : (xs : List X) → Stops (drop (prefix_len p xs) xs)
  prefix_stops [] = tt
  prefix_stops (x ∷ xs) =
      elim (p x) as (λ b. p x ≡ b → Stops (drop (cond b (1 + prefix_len p xs) 0) (x ∷ xs))) [
        | true ↦ λ e. subst (λ n. Stops (drop n (x ∷ xs))) (sym (one_more (prefix_len p xs))) (prefix_stops xs)
        | false ↦ λ e. e
      ] refl

  prefix_at : (xs ys : List X) → list_all p xs ≡ true → Stops ys → prefix_len p (xs ++ ys) ≡ length xs
  prefix_at [] [] h s = refl
  prefix_at [] (y ∷ ys) h s = ap (λ b. cond b (1 + prefix_len p ys) 0) s
  prefix_at (x ∷ xs) ys h s =
      let k = both_hold (p x) (list_all p xs) h in
      ap (λ b. cond b (1 + prefix_len p (xs ++ ys)) 0) k.0 ∙ ap (λ n. 1 + n) (prefix_at xs ys k.1 s) ∙ one_more (length xs)

  -- so these are the first of two lists, and the second comes after them
  prefix_taken : (xs ys : List X) → list_all p xs ≡ true → Stops ys → take (prefix_len p (xs ++ ys)) (xs ++ ys) ≡ xs
  prefix_taken xs ys h s = ap (λ n. take n (xs ++ ys)) (prefix_at xs ys h s) ∙ take-append_seam xs ys

  rest_at : (xs ys : List X) → list_all p xs ≡ true → Stops ys → drop (prefix_len p (xs ++ ys)) (xs ++ ys) ≡ ys
  rest_at xs ys h s = ap (λ n. drop n (xs ++ ys)) (prefix_at xs ys h s) ∙ drop-append_seam xs ys

-- ---- words
-- a byte that isn't a blank, as in a word
abbrev other : ℕ → Bool
other b = not (is_blank b)

not_false : (b : Bool) → not b ≡ false → b ≡ true
not_false true e = refl
not_false false e = absurd (cc)

-- a digit isn't a blank
digit_other : (b : ℕ) → is_ascii_digit b ≡ true → is_blank b ≡ false
digit_other b e = grind (arith, nat_tests)

digits_other : (ds : List ℕ) → list_all is_ascii_digit ds ≡ true → list_all other ds ≡ true
digits_other [] e = refl
digits_other (d ∷ ds) e =
    let k = both_hold (is_ascii_digit d) (list_all is_ascii_digit ds) e in
    ap (λ b. not b && list_all other ds) (digit_other d k.0) ∙ digits_other ds k.1

-- a gap ends a word
gap_stops : (gap rest : List ℕ) → IsGap gap → Stops other (gap ++ rest)
gap_stops [] rest g = absurd (omega (arith, g.some))
gap_stops (b ∷ bs) rest g = ap not (both_hold (is_blank b) (list_all is_blank bs) g.blank).0

-- and digits end a gap
digits_stop : (ds rest : List ℕ) → list_all is_ascii_digit ds ≡ true → 1 ≤ length ds → Stops is_blank (ds ++ rest)
digits_stop [] rest e some = absurd (omega arith)
digits_stop (d ∷ ds) rest e some = digit_other d (both_hold (is_ascii_digit d) (list_all is_ascii_digit ds) e).0

-- the parts of a word, a gap and what begins with a digit
first_is : (word gap rest : List ℕ) → list_all other word ≡ true → IsGap gap → first_word (word ++ (gap ++ rest)) ≡ word
first_is word gap rest w g = prefix_taken other word (gap ++ rest) w (gap_stops gap rest g)

rest_is : (word gap rest : List ℕ) → list_all other word ≡ true → IsGap gap → Stops is_blank rest → after_word (word ++ (gap ++ rest)) ≡ rest
rest_is word gap rest w g s = ap after_gap (rest_at other word (gap ++ rest) w (gap_stops gap rest g)) ∙ rest_at is_blank gap rest g.blank s

-- a line is its first word, some blanks and what comes after them
abbrev gap_of : List ℕ → List ℕ
gap_of line = take (gap_length (drop (word_length line) line)) (drop (word_length line) line)

line_joins : (line : List ℕ) → line ≡ first_word line ++ (gap_of line ++ after_word line)
line_joins line =
    sym (take-append-drop (word_length line) line)
    ∙ ap (λ (xs : List ℕ). first_word line ++ xs) (sym (take-append-drop (gap_length (drop (word_length line) line)) (drop (word_length line) line)))

gap_some : (rest : List ℕ) → Stops other rest → 0 < length (after_gap rest) → 0 < length (take (gap_length rest) rest)
gap_some [] s h = absurd (omega (arith, h))
gap_some (b ∷ bs) s h =
    subst (λ n. 0 < length (take n (b ∷ bs)))
    (sym (ap (λ c. cond c (1 + prefix_len is_blank bs) 0) (not_false (is_blank b) s) ∙ one_more (prefix_len is_blank bs))) (omega arith)

gap_is : (line : List ℕ) → 0 < length (after_word line) → IsGap (gap_of line)
gap_is line h = record {
  some = gap_some (drop (word_length line) line) (prefix_stops other line) h;
  blank = prefix_passes is_blank (drop (word_length line) line);
}

-- ---- from what is read to the grammar's words
rest_some : (rest : List ℕ) → 1 ≤ length (first_word rest) → 0 < length rest
rest_some [] h = absurd (omega arith)
rest_some (b ∷ bs) h = omega arith

has_one : (line word : List ℕ) (n : ℕ) → first_word line ≡ word → word_number (after_word line) ≡ Some n → HasOne word n line
has_one line word n f e =
    let number = number_is (after_word line) n e in
    record {
      gap = gap_of line;
      digits = after_word line;
      apart = gap_is line number.some;
      number = number;
      is = line_joins line ∙ ap (λ (w : List ℕ). w ++ (gap_of line ++ after_word line)) f;
    }

has_two : (line word : List ℕ) (n m : ℕ) → first_word line ≡ word → word_number (first_word (after_word line)) ≡ Some n → word_number (after_word (after_word line)) ≡ Some m → HasTwo word n m line
has_two line word n m f e d =
    let rest = after_word line in
    let number = number_is (first_word rest) n e in
    let next_number = number_is (after_word rest) m d in
    record {
      gap = gap_of line;
      digits = first_word rest;
      next_gap = gap_of rest;
      next_digits = after_word rest;
      apart = gap_is line (rest_some rest number.some);
      number = number;
      next_apart = gap_is rest next_number.some;
      next_number = next_number;
      is = line_joins line
          ∙ ap (λ (w : List ℕ). w ++ (gap_of line ++ rest)) f
          ∙ ap (λ (xs : List ℕ). word ++ (gap_of line ++ xs)) (line_joins rest);
    }

has_three : (line word : List ℕ) (n m k : ℕ) → first_word line ≡ word → word_number (first_word (after_word line)) ≡ Some n → word_number (first_word (after_word (after_word line))) ≡ Some m
    → word_number (after_word (after_word (after_word line))) ≡ Some k → HasThree word n m k line
has_three line word n m k f e d g =
    let rest = after_word line in
    let number = number_is (first_word rest) n e in
    record {
      gap = gap_of line;
      digits = first_word rest;
      rest = rest;
      apart = gap_is line (rest_some rest number.some);
      number = number;
      others = has_two rest (first_word rest) m k refl d g;
      is = line_joins line ∙ ap (λ (w : List ℕ). w ++ (gap_of line ++ rest)) f;
    }

tick_is : (o : Option ℕ) (r : Rule) → tick_at o ≡ Some r → (t : ℕ) × (o ≡ Some t) × (At t Tick ≡ r)
tick_is None r e = absurd (cc)
tick_is (Some t) r e = (t, refl, same_Some (At t Tick) r e)

both_are : (f : ℕ → ℕ → Option Rule) (o p : Option ℕ) (r : Rule) → of_both f o p ≡ Some r → (a : ℕ) × (b : ℕ) × (o ≡ Some a) × (p ≡ Some b) × (f a b ≡ Some r)
both_are f None None r e = absurd (cc)
both_are f None (Some b) r e = absurd (cc)
both_are f (Some a) None r e = absurd (cc)
both_are f (Some a) (Some b) r e = (a, b, refl, refl, e)

three_are : (f : ℕ → ℕ → ℕ → Option Rule) (o p q : Option ℕ) (r : Rule) → of_three f o p q ≡ Some r
    → (a : ℕ) × (b : ℕ) × (c : ℕ) × (o ≡ Some a) × (p ≡ Some b) × (q ≡ Some c) × (f a b c ≡ Some r)
three_are f None p q r e = absurd (cc)
three_are f (Some a) p q r e = let k = both_are (f a) p q r e in (a, k.0, k.1, refl, k.2, k.3, k.4)

module _ (line : List ℕ) (r : Rule) where
  tick_line : (bytes_eq (first_word line) (codes "tick") ≡ true) × (tick_rule (after_word line) ≡ Some r) → IsLineOf r line
  tick_line h =
      let word = (bytes_eq-Decides (first_word line) (codes "tick")).0 h.0 in
      let k = tick_is (word_number (after_word line)) r h.1 in
      subst (λ q. IsLineOf q line) k.2 (has_one line (codes "tick") k.0 word k.1)

  rx_line : (bytes_eq (first_word line) (codes "rx") ≡ true) × (rx_rule (after_word line) ≡ Some r) → IsLineOf r line
  rx_line h =
      let word = (bytes_eq-Decides (first_word line) (codes "rx")).0 h.0 in
      let k = both_are rx_at (word_number (first_word (after_word line))) (word_number (after_word (after_word line))) r h.1 in
      let l = some_cond (nat_le 1 k.1 && nat_le k.1 longest_chunk) (Some (At k.0 (Rx k.1))) r k.4 in
      let test : (nat_le 1 k.1 && nat_le k.1 longest_chunk) ≡ true = l.0 in
      subst (λ q. IsLineOf q line) (same_Some (At k.0 (Rx k.1)) r l.1) (has_two line (codes "rx") k.0 k.1 word k.2 k.3, grind (arith, nat_tests), grind (arith, nat_tests))

  every_line : (bytes_eq (first_word line) (codes "every") ≡ true) × (every_rule (after_word line) ≡ Some r) → IsLineOf r line
  every_line h =
      let word = (bytes_eq-Decides (first_word line) (codes "every")).0 h.0 in
      let k = both_are every_at (word_number (first_word (after_word line))) (word_number (after_word (after_word line))) r h.1 in
      let l = some_cond (nat_le 1 k.0 && nat_le 1 k.1) (Some (Every k.0 k.1 Tick)) r k.4 in
      let test : (nat_le 1 k.0 && nat_le 1 k.1) ≡ true = l.0 in
      subst (λ q. IsLineOf q line) (same_Some (Every k.0 k.1 Tick) r l.1) (has_two line (codes "every") k.0 k.1 word k.2 k.3, grind (arith, nat_tests), grind (arith, nat_tests))

  irq_line : (bytes_eq (first_word line) (codes "irq") ≡ true) × (irq_rule (after_word line) ≡ Some r) → IsLineOf r line
  irq_line h =
      let word = (bytes_eq-Decides (first_word line) (codes "irq")).0 h.0 in
      let k = both_are irq_at (word_number (first_word (after_word line))) (word_number (after_word (after_word line))) r h.1 in
      let l = some_cond (nat_lt k.1 most_slots) (Some (At k.0 (Irq k.1))) r k.4 in
      let test : nat_lt k.1 most_slots ≡ true = l.0 in
      subst (λ q. IsLineOf q line) (same_Some (At k.0 (Irq k.1)) r l.1) (has_two line (codes "irq") k.0 k.1 word k.2 k.3, grind (arith, nat_tests))

  irqs_line : (bytes_eq (first_word line) (codes "irqs") ≡ true) × (irqs_rule (after_word line) ≡ Some r) → IsLineOf r line
  irqs_line h =
      let word = (bytes_eq-Decides (first_word line) (codes "irqs")).0 h.0 in
      let rest = after_word line in
      let k = three_are irqs_at (word_number (first_word rest)) (word_number (first_word (after_word rest))) (word_number (after_word (after_word rest))) r h.1 in
      let l = some_cond (nat_le 1 k.0 && nat_le 1 k.1 && nat_lt k.2 most_slots) (Some (Every k.0 k.1 (Irq k.2))) r k.6 in
      let test : (nat_le 1 k.0 && nat_le 1 k.1 && nat_lt k.2 most_slots) ≡ true = l.0 in
      subst (λ q. IsLineOf q line) (same_Some (Every k.0 k.1 (Irq k.2)) r l.1)
      (has_three line (codes "irqs") k.0 k.1 k.2 word k.3 k.4 k.5, grind (arith, nat_tests), grind (arith, nat_tests), grind (arith, nat_tests))

  -- the rule of the word that it tests, or one of those after it
  by_word : (b : Bool) (o p : Option Rule) → ((b ≡ true) × (o ≡ Some r) → IsLineOf r line) → (p ≡ Some r → IsLineOf r line) → cond b o p ≡ Some r → IsLineOf r line
  by_word true o p own others e = own (refl, e)
  by_word false o p own others e = others e

  rule_line : rule_of line ≡ Some r → IsLineOf r line
  rule_line =
      by_word (bytes_eq (first_word line) (codes "tick")) (tick_rule (after_word line)) _ tick_line
      (by_word (bytes_eq (first_word line) (codes "rx")) (rx_rule (after_word line)) _ rx_line
      (by_word (bytes_eq (first_word line) (codes "every")) (every_rule (after_word line)) _ every_line
      (by_word (bytes_eq (first_word line) (codes "irq")) (irq_rule (after_word line)) _ irq_line
      (by_word (bytes_eq (first_word line) (codes "irqs")) (irqs_rule (after_word line)) None irqs_line (λ e. absurd (cc))))))

  says_is : (b : Bool) (o : Option Rule) → cond b Nothing (by_rule o) ≡ Says r → o ≡ Some r
  says_is true o e = absurd (cc)
  says_is false None e = absurd (cc)
  says_is false (Some q) e = cc

  said_line : said line ≡ Says r → IsLineOf r line
  unfolding said
  said_line e = rule_line (says_is (list_all is_blank line || is_comment line) (rule_of line) e)

-- ---- and back
digits_begin : (ds : List ℕ) → list_all is_ascii_digit ds ≡ true → 1 ≤ length ds → Stops is_blank ds
digits_begin [] e some = absurd (omega arith)
digits_begin (d ∷ ds) e some = digit_other d (both_hold (is_ascii_digit d) (list_all is_ascii_digit ds) e).0

abbrev rule_by : List ℕ → List ℕ → Option Rule
rule_by word rest =
    cond (bytes_eq word (codes "tick")) (tick_rule rest)
    (cond (bytes_eq word (codes "rx")) (rx_rule rest)
    (cond (bytes_eq word (codes "every")) (every_rule rest)
    (cond (bytes_eq word (codes "irq")) (irq_rule rest)
    (cond (bytes_eq word (codes "irqs")) (irqs_rule rest) None))))

abbrev is_silent : List ℕ → Bool
is_silent line = list_all is_blank line || is_comment line

says : (line word rest : List ℕ) (r : Rule) → is_silent line ≡ false → first_word line ≡ word → after_word line ≡ rest → rule_by word rest ≡ Some r → said line ≡ Says r
unfolding said
says line word rest r loud f b e =
    ap (λ c. cond c Nothing (by_rule (rule_of line))) loud
    ∙ ap (λ w. by_rule (rule_by w (after_word line))) f
    ∙ ap (λ x. by_rule (rule_by word x)) b
    ∙ ap by_rule e

module _ (line word : List ℕ) (n m : ℕ) (h : HasTwo word n m line) (plain : list_all other word ≡ true) where
  more_stops : Stops is_blank (h.digits ++ (h.next_gap ++ h.next_digits))
  more_stops = digits_stop h.digits (h.next_gap ++ h.next_digits) h.number.decimal h.number.some

  two_first : first_word line ≡ word
  two_first = ap first_word h.is ∙ first_is word h.gap (h.digits ++ (h.next_gap ++ h.next_digits)) plain h.apart

  two_after : after_word line ≡ h.digits ++ (h.next_gap ++ h.next_digits)
  two_after = ap after_word h.is ∙ rest_is word h.gap (h.digits ++ (h.next_gap ++ h.next_digits)) plain h.apart more_stops

  two_number : word_number (first_word (h.digits ++ (h.next_gap ++ h.next_digits))) ≡ Some n
  two_number = ap word_number (first_is h.digits h.next_gap h.next_digits (digits_other h.digits h.number.decimal) h.next_apart) ∙ number_back h.digits n h.number

  two_next : word_number (after_word (h.digits ++ (h.next_gap ++ h.next_digits))) ≡ Some m
  two_next =
      ap word_number (rest_is h.digits h.next_gap h.next_digits (digits_other h.digits h.number.decimal) h.next_apart (digits_begin h.next_digits h.next_number.decimal h.next_number.some))
      ∙ number_back h.next_digits m h.next_number

module _ (line word : List ℕ) (n m k : ℕ) (h : HasThree word n m k line) (plain : list_all other word ≡ true) where
  number_plain : list_all other h.digits ≡ true
  number_plain = digits_other h.digits h.number.decimal

  rest_stops : Stops is_blank h.rest
  rest_stops =
      let two = h.others in
      subst (Stops is_blank) (sym two.is) (digits_stop h.digits (two.gap ++ (two.digits ++ (two.next_gap ++ two.next_digits))) h.number.decimal h.number.some)

  three_first : first_word line ≡ word
  three_first = ap first_word h.is ∙ first_is word h.gap h.rest plain h.apart

  three_behind : after_word line ≡ h.rest
  three_behind = ap after_word h.is ∙ rest_is word h.gap h.rest plain h.apart rest_stops

  three_number : word_number (first_word h.rest) ≡ Some n
  three_number = ap word_number (two_first h.rest h.digits m k h.others number_plain) ∙ number_back h.digits n h.number

  three_next : word_number (first_word (after_word h.rest)) ≡ Some m
  three_next = ap (λ x. word_number (first_word x)) (two_after h.rest h.digits m k h.others number_plain) ∙ two_number h.rest h.digits m k h.others number_plain

  three_last : word_number (after_word (after_word h.rest)) ≡ Some k
  three_last = ap (λ x. word_number (after_word x)) (two_after h.rest h.digits m k h.others number_plain) ∙ two_next h.rest h.digits m k h.others number_plain

line_says : (line : List ℕ) (r : Rule) → IsLineOf r line → said line ≡ Says r
line_says line (At t Tick) h =
    says line (codes "tick") h.digits (At t Tick) (ap is_silent h.is)
    (ap first_word h.is ∙ first_is (codes "tick") h.gap h.digits refl h.apart)
    (ap after_word h.is ∙ rest_is (codes "tick") h.gap h.digits refl h.apart (digits_begin h.digits h.number.decimal h.number.some))
    (ap tick_at (number_back h.digits t h.number))
line_says line (At t (Rx k)) h =
    let two = h.0 in
    let low : 1 ≤ k = h.1 in
    let high : k ≤ longest_chunk = h.2 in
    let test : (nat_le 1 k && nat_le k longest_chunk) ≡ true = grind (arith, nat_tests) in
    says line (codes "rx") (two.digits ++ (two.next_gap ++ two.next_digits)) (At t (Rx k)) (ap is_silent two.is) (two_first line (codes "rx") t k two refl) (two_after line (codes "rx") t k two refl)
    (ap (λ o. of_both rx_at o (word_number (after_word (two.digits ++ (two.next_gap ++ two.next_digits))))) (two_number line (codes "rx") t k two refl)
    ∙ ap (of_both rx_at (Some t)) (two_next line (codes "rx") t k two refl)
    ∙ ap (λ b. cond b (Some (At t (Rx k))) None) test)
line_says line (At t (Irq s)) h =
    let two = h.0 in
    let low : s < most_slots = h.1 in
    let test : nat_lt s most_slots ≡ true = grind (arith, nat_tests) in
    says line (codes "irq") (two.digits ++ (two.next_gap ++ two.next_digits)) (At t (Irq s)) (ap is_silent two.is) (two_first line (codes "irq") t s two refl) (two_after line (codes "irq") t s two refl)
    (ap (λ o. of_both irq_at o (word_number (after_word (two.digits ++ (two.next_gap ++ two.next_digits))))) (two_number line (codes "irq") t s two refl)
    ∙ ap (of_both irq_at (Some t)) (two_next line (codes "irq") t s two refl)
    ∙ ap (λ b. cond b (Some (At t (Irq s))) None) test)
line_says line (Every p c (Rx k)) h = absurd h
line_says line (Every p c (Irq s)) h =
    let three = h.0 in
    let some : 1 ≤ p = h.1 in
    let more : 1 ≤ c = h.2 in
    let low : s < most_slots = h.3 in
    let test : (nat_le 1 p && nat_le 1 c && nat_lt s most_slots) ≡ true = grind (arith, nat_tests) in
    says line (codes "irqs") three.rest (Every p c (Irq s)) (ap is_silent three.is) (three_first line (codes "irqs") p c s three refl) (three_behind line (codes "irqs") p c s three refl)
    (ap (λ o. of_three irqs_at o (word_number (first_word (after_word three.rest))) (word_number (after_word (after_word three.rest)))) (three_number line (codes "irqs") p c s three refl)
    ∙ ap (λ o. of_three irqs_at (Some p) o (word_number (after_word (after_word three.rest)))) (three_next line (codes "irqs") p c s three refl)
    ∙ ap (of_three irqs_at (Some p) (Some c)) (three_last line (codes "irqs") p c s three refl)
    ∙ ap (λ b. cond b (Some (Every p c (Irq s))) None) test)
line_says line (Every p c Tick) h =
    let two = h.0 in
    let some : 1 ≤ p = h.1 in
    let more : 1 ≤ c = h.2 in
    let test : (nat_le 1 p && nat_le 1 c) ≡ true = grind (arith, nat_tests) in
    says line (codes "every") (two.digits ++ (two.next_gap ++ two.next_digits)) (Every p c Tick) (ap is_silent two.is) (two_first line (codes "every") p c two refl) (two_after line (codes "every") p c two refl)
    (ap (λ o. of_both every_at o (word_number (after_word (two.digits ++ (two.next_gap ++ two.next_digits))))) (two_number line (codes "every") p c two refl)
    ∙ ap (of_both every_at (Some p)) (two_next line (codes "every") p c two refl)
    ∙ ap (λ b. cond b (Some (Every p c Tick)) None) test)

-- ---- lines that say nothing
either : (a b : Bool) → (a || b) ≡ true → (a ≡ true) ⊎ (b ≡ true)
either true b e = inl refl
either false b e = inr e

or_true : (a b : Bool) → b ≡ true → (a || b) ≡ true
or_true true b e = refl
or_true false b e = e

comment_is : (line : List ℕ) → is_comment line ≡ true → (more : List ℕ) × (line ≡ 35 ∷ more)
comment_is [] e = absurd (cc)
comment_is (b ∷ bs) e = let is : b ≡ 35 = grind (arith, nat_tests) in (bs, ap (λ x. x ∷ bs) is)

nothing_is : (b : Bool) (o : Option Rule) → cond b Nothing (by_rule o) ≡ Nothing → b ≡ true
nothing_is true o e = refl
nothing_is false None e = absurd (cc)
nothing_is false (Some q) e = absurd (cc)

silent_is : (line : List ℕ) → said line ≡ Nothing → IsSilent line
unfolding said
silent_is line e =
    ⊎_elim (λ h. inl h) (λ h. inr (comment_is line h)) (either (list_all is_blank line) (is_comment line) (nothing_is (is_silent line) (rule_of line) e))

silent_says : (line : List ℕ) → IsSilent line → said line ≡ Nothing
unfolding said
silent_says line h =
    ap (λ b. cond b Nothing (by_rule (rule_of line)))
    (⊎_elim (λ e. ap (λ b. b || is_comment line) e) (λ k. or_true (list_all is_blank line) (is_comment line) (ap is_comment k.1)) h)

pub grammar : GrammarLaw
grammar line = ((λ rule. (said_line line rule, line_says line rule)), (silent_is line, silent_says line))
