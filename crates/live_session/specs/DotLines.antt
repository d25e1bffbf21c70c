-- The lines that are for the program and not for the board.
use Rattle.std.specs.Prelude.{ℕ, ◌-◌, Bool, false, ◌==◌, ◌&&◌, nat_le, if◌then◌else◌, List, [], ◌∷◌, length, take, drop, position, slice_index, Option, None, Some, unwrap_or, codes}
use Rattle.std.specs.Option.{option_and_then, option_map}
use Rattle.std.specs.Str.{bytes_eq}
use Rattle.wind_base.specs.Decimal.{decimal_value}
use Rattle.wind_base.specs.Limits.{most_steps}
use Rattle.tick_file.specs.declared.event.Event.TheVariants.{Tick, Irq}
use Rattle.live_session.specs.declared.dot_line.Series.{Series}
use Rattle.live_session.specs.declared.dot_line.DotLine.{DotLine}
use Rattle.live_session.specs.declared.dot_line.DotLine.TheVariants.{Ticks, Events, Run, Break, State, Save, Quit, Help, Unknown}

-- the line begins with `.`
abbrev pub is_dotted : List ℕ → Bool
is_dotted [] = false
is_dotted (b ∷ bs) = b == 46

-- the line without the 0x0A at its end
abbrev pub without_end : List ℕ → List ℕ
without_end line = if slice_index line (length line - 1) == 10 then take (length line - 1) line else line

-- what follows a word, if the text begins with it
abbrev pub text_after : List ℕ → List ℕ → Option (List ℕ)
text_after word text = if nat_le (length word) (length text) && bytes_eq (take (length word) text) word then Some (drop (length word) text) else None

-- the number that follows a word, if it is at most the greatest
abbrev pub number_after : ℕ → List ℕ → List ℕ → Option ℕ
number_after greatest word text = option_and_then (decimal_value greatest) (text_after word text)

-- the greatest period in units of board time, and the greatest slot
abbrev pub greatest_period : ℕ
greatest_period = 1000000

abbrev pub greatest_slot : ℕ
greatest_slot = 15

-- the first word of a text, up to a blank, and what follows it
abbrev pub word_len : List ℕ → ℕ
word_len text = unwrap_or (position (λ byte. byte == 32) text) (length text)

abbrev pub first_word : List ℕ → List ℕ
first_word text = take (word_len text) text

abbrev pub rest_of : List ℕ → List ℕ
rest_of text = drop (word_len text) text

-- `N every M`: the count, the period, and what follows them
pub record Spaced : Type 0 where
  pub count : ℕ
  pub period : ℕ
  pub rest : List ℕ

abbrev pub with_period : ℕ → ℕ → List ℕ → Option Spaced
with_period count period rest = if nat_le 1 period then Some (record { count = count; period = period; rest = rest }) else None

abbrev pub spaced_from : ℕ → List ℕ → Option Spaced
spaced_from count text = option_and_then (λ period. with_period count period (rest_of text)) (decimal_value greatest_period (first_word text))

abbrev pub spaced_of : List ℕ → Option Spaced
spaced_of text = option_and_then (λ count. option_and_then (spaced_from count) (text_after (codes " every ") (rest_of text))) (decimal_value most_steps (first_word text))

-- these events, of which nothing or a slot follows the period
abbrev pub ticks_of : Spaced → Option Series
ticks_of s = if length s.rest == 0 then Some (record { event = Tick; count = s.count; period = s.period }) else None

abbrev pub interrupts_of : Spaced → Option Series
interrupts_of s = option_map (λ slot. record { event = Irq slot; count = s.count; period = s.period }) (number_after greatest_slot (codes " ") s.rest)

-- an interrupt of a slot
abbrev pub interrupt : ℕ → Series
interrupt slot = record { event = Irq slot; count = 1; period = 1 }

-- the events that a line asks for: `.ticks N every M`, `.irqs N every M SLOT`, and `.irq SLOT`
abbrev pub ticks_asked : List ℕ → Option Series
ticks_asked line = option_and_then (λ text. option_and_then ticks_of (spaced_of text)) (text_after (codes ".ticks ") line)

abbrev pub interrupts_asked : List ℕ → Option Series
interrupts_asked line = option_and_then (λ text. option_and_then interrupts_of (spaced_of text)) (text_after (codes ".irqs ") line)

abbrev pub interrupt_asked : List ℕ → Option Series
interrupt_asked line = option_map interrupt (number_after greatest_slot (codes ".irq ") line)

-- what a line asks for that has one word
abbrev pub plain_line : List ℕ → DotLine
plain_line line =
    if bytes_eq line (codes ".break") then Break
    else if bytes_eq line (codes ".state") then State
    else if bytes_eq line (codes ".save") then Save
    else if bytes_eq line (codes ".quit") then Quit
    else if bytes_eq line (codes ".help") then Help
    else Unknown

abbrev pub or_events : Option Series → DotLine → DotLine
or_events (Some series) line = Events series
or_events None line = line

abbrev pub or_run : Option ℕ → List ℕ → DotLine
or_run (Some steps) line = Run steps
or_run None line = or_events (ticks_asked line) (or_events (interrupts_asked line) (or_events (interrupt_asked line) (plain_line line)))

abbrev pub or_ticks : Option ℕ → List ℕ → DotLine
or_ticks (Some ticks) line = Ticks ticks
or_ticks None line = or_run (number_after most_steps (codes ".run ") line) line

-- what a line asks for
abbrev pub dot_line_of : List ℕ → DotLine
dot_line_of line = or_ticks (number_after most_steps (codes ".ticks ") (without_end line)) (without_end line)
