-- The grammar of a line on its own, apart from how a line is read.
use Rattle.std.specs.Prelude.{◌≡◌, ℕ, ◌<◌, ◌≤◌, ◌⊎◌, ◌↔◌, true, List, ◌∷◌, ◌++◌, length, codes}
use Rattle.std.specs.Char.{is_ascii_digit}
use Rattle.std.specs.List.{list_all}
use Rattle.std.specs.Str.Parse.{digits_value}
use Rattle.tick_file.specs.declared.event.Event.TheVariants.{Tick, Rx, Irq}
use Rattle.tick_file.specs.declared.event.Rule.{Rule}
use Rattle.tick_file.specs.declared.event.Rule.TheVariants.{At, Every}
use Rattle.tick_file.specs.declared.event.Said.TheVariants.{Nothing, Says}
use Rattle.wind_base.specs.Limits.{greatest_word, longest_chunk, most_slots}
use Rattle.tick_file.specs.Grammar.{is_blank, most_digits, said}

-- blanks and tabs, at least one
pub record IsGap (gap : List ℕ) : Type 0 where
  pub some : 0 < length gap
  pub blank : list_all is_blank gap ≡ true

-- 1 to 10 decimal digits that spell n, which is at most 4,294,967,295
pub record IsNumber (n : ℕ) (digits : List ℕ) : Type 0 where
  pub some : 1 ≤ length digits
  pub few : length digits ≤ most_digits
  pub decimal : list_all is_ascii_digit digits ≡ true
  pub value : digits_value 10 digits ≡ n
  pub small : n ≤ greatest_word

-- a word, a gap and a number
pub record HasOne (word : List ℕ) (n : ℕ) (line : List ℕ) : Type 0 where
  pub gap : List ℕ
  pub digits : List ℕ
  pub apart : IsGap gap
  pub number : IsNumber n digits
  pub is : line ≡ word ++ (gap ++ digits)

-- a word and two numbers, with a gap before each
pub record HasTwo (word : List ℕ) (n m : ℕ) (line : List ℕ) : Type 0 where
  pub gap : List ℕ
  pub digits : List ℕ
  pub next_gap : List ℕ
  pub next_digits : List ℕ
  pub apart : IsGap gap
  pub number : IsNumber n digits
  pub next_apart : IsGap next_gap
  pub next_number : IsNumber m next_digits
  pub is : line ≡ word ++ (gap ++ (digits ++ (next_gap ++ next_digits)))

-- a word and three numbers, with a gap before each
pub record HasThree (word : List ℕ) (n m k : ℕ) (line : List ℕ) : Type 0 where
  pub gap : List ℕ
  pub digits : List ℕ
  pub rest : List ℕ
  pub apart : IsGap gap
  pub number : IsNumber n digits
  -- the digits of the first number, and the two other numbers
  pub others : HasTwo digits m k rest
  pub is : line ≡ word ++ (gap ++ rest)

-- the lines that spell a rule; none asks for console bytes several times
abbrev pub IsLineOf : Rule → List ℕ → Type 0
IsLineOf (At time Tick) line = HasOne (codes "tick") time line
IsLineOf (At time (Rx bytes)) line = HasTwo (codes "rx") time bytes line × (1 ≤ bytes) × (bytes ≤ longest_chunk)
IsLineOf (At time (Irq slot)) line = HasTwo (codes "irq") time slot line × (slot < most_slots)
IsLineOf (Every period count Tick) line = HasTwo (codes "every") period count line × (1 ≤ period) × (1 ≤ count)
IsLineOf (Every period count (Rx bytes)) line = ⊥
IsLineOf (Every period count (Irq slot)) line = HasThree (codes "irqs") period count slot line × (1 ≤ period) × (1 ≤ count) × (slot < most_slots)

-- a line of only blanks and tabs, or one that begins with `#`
abbrev pub IsSilent : List ℕ → Type 0
IsSilent line = (list_all is_blank line ≡ true) ⊎ ((more : List ℕ) × (line ≡ 35 ∷ more))

-- a line says a rule exactly if it spells that rule, and nothing exactly if it is blank or a comment
abbrev pub GrammarLaw : Type 0
GrammarLaw = (line : List ℕ) → ((rule : Rule) → (said line ≡ Says rule) ↔ IsLineOf rule line) × ((said line ≡ Nothing) ↔ IsSilent line)
