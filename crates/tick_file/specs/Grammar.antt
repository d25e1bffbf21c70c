-- What one line of a tick file says.
use Rattle.std.specs.Prelude.{ℕ, Bool, false, ◌==◌, ◌&&◌, ◌||◌, nat_le, nat_lt, if◌then◌else◌, List, [], ◌∷◌, length, take, drop, Option, None, Some, codes}
use Rattle.std.specs.List.{list_all, position_or_len, prefix_len}
use Rattle.std.specs.Str.{bytes_eq}
use Rattle.wind_base.specs.Decimal.{decimal_value}
use Rattle.wind_base.specs.Limits.{greatest_word, longest_chunk, most_slots}
use Rattle.source_text.specs.Blanks.{is_blank as parts_words}
use Rattle.source_text.specs.declared.words.Blanks.TheVariants.{SpacesAndTabs}
use Rattle.tick_file.specs.declared.event.Event.TheVariants.{Tick, Rx, Irq}
use Rattle.tick_file.specs.declared.event.Rule.{Rule}
use Rattle.tick_file.specs.declared.event.Rule.TheVariants.{At, Every}
use Rattle.tick_file.specs.declared.event.Said.{Said}
use Rattle.tick_file.specs.declared.event.Said.TheVariants.{Nothing, Says, Outside}

-- a byte that separates words: a blank or a tab
abbrev pub is_blank : ℕ → Bool
is_blank b = parts_words SpacesAndTabs b

-- the length of the first word, and how many blanks and tabs the text begins with
abbrev pub word_length : List ℕ → ℕ
word_length text = position_or_len is_blank text

abbrev pub gap_length : List ℕ → ℕ
gap_length text = prefix_len is_blank text

-- the first word
abbrev pub first_word : List ℕ → List ℕ
first_word text = take (word_length text) text

-- what comes after the blanks at the beginning
abbrev pub after_gap : List ℕ → List ℕ
after_gap text = drop (gap_length text) text

-- what comes after the first word and the blanks after it
abbrev pub after_word : List ℕ → List ℕ
after_word text = after_gap (drop (word_length text) text)

-- the most digits of a number, and the 32-bit number that a text spells in 1 to that many digits
abbrev pub most_digits : ℕ
most_digits = 10

abbrev pub word_number : List ℕ → Option ℕ
word_number text = if nat_le (length text) most_digits then decimal_value greatest_word text else None

-- what is made of two numbers, if there are both
abbrev pub of_both : (ℕ → ℕ → Option Rule) → Option ℕ → Option ℕ → Option Rule
of_both f (Some a) (Some b) = f a b
of_both f _ _ = None

-- what is made of three numbers, if there are all three
abbrev pub of_three : (ℕ → ℕ → ℕ → Option Rule) → Option ℕ → Option ℕ → Option ℕ → Option Rule
of_three f (Some a) o p = of_both (f a) o p
of_three f None o p = None

-- after `tick`: the time
abbrev pub tick_at : Option ℕ → Option Rule
tick_at (Some time) = Some (At time Tick)
tick_at None = None

abbrev pub tick_rule : List ℕ → Option Rule
tick_rule text = tick_at (word_number text)

-- after `rx`: the time, and how many bytes, from 1 to the most of a chunk
abbrev pub rx_at : ℕ → ℕ → Option Rule
rx_at time bytes = if nat_le 1 bytes && nat_le bytes longest_chunk then Some (At time (Rx bytes)) else None

abbrev pub rx_rule : List ℕ → Option Rule
rx_rule text = of_both rx_at (word_number (first_word text)) (word_number (after_word text))

-- after `every`: the period and the number of ticks, each at least 1
abbrev pub every_at : ℕ → ℕ → Option Rule
every_at period count = if nat_le 1 period && nat_le 1 count then Some (Every period count Tick) else None

abbrev pub every_rule : List ℕ → Option Rule
every_rule text = of_both every_at (word_number (first_word text)) (word_number (after_word text))

-- after `irq`: the time, and the slot of the device that interrupts
abbrev pub irq_at : ℕ → ℕ → Option Rule
irq_at time slot = if nat_lt slot most_slots then Some (At time (Irq slot)) else None

abbrev pub irq_rule : List ℕ → Option Rule
irq_rule text = of_both irq_at (word_number (first_word text)) (word_number (after_word text))

-- after `irqs`: the period and the number of interrupts, each at least 1, and the slot of the device
abbrev pub irqs_at : ℕ → ℕ → ℕ → Option Rule
irqs_at period count slot = if nat_le 1 period && nat_le 1 count && nat_lt slot most_slots then Some (Every period count (Irq slot)) else None

abbrev pub irqs_rule : List ℕ → Option Rule
irqs_rule text = of_three irqs_at (word_number (first_word text)) (word_number (first_word (after_word text))) (word_number (after_word (after_word text)))

-- the rule of a line that is neither blank nor a comment
abbrev pub rule_of : List ℕ → Option Rule
rule_of line =
    if bytes_eq (first_word line) (codes "tick") then tick_rule (after_word line)
    else if bytes_eq (first_word line) (codes "rx") then rx_rule (after_word line)
    else if bytes_eq (first_word line) (codes "every") then every_rule (after_word line)
    else if bytes_eq (first_word line) (codes "irq") then irq_rule (after_word line)
    else if bytes_eq (first_word line) (codes "irqs") then irqs_rule (after_word line)
    else None

-- the line begins with `#`
abbrev pub is_comment : List ℕ → Bool
is_comment [] = false
is_comment (b ∷ bs) = b == 35

-- what a line says that has such a rule or none
abbrev pub by_rule : Option Rule → Said
by_rule (Some rule) = Says rule
by_rule None = Outside

-- what a line says
unfoldable pub said : List ℕ → Said
said line = if list_all is_blank line || is_comment line then Nothing else by_rule (rule_of line)
