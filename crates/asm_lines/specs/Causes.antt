-- Why a line is refused. A source text gives its lines, or the first refused line with its first cause.
use Rattle.std.specs.Prelude.{◌≡◌, ℕ, ◌+◌, ◌%◌, Bool, false, not, ◌==◌, ◌&&◌, ◌||◌, nat_lt, if◌then◌else◌, List, [], ◌∷◌, ◌++◌, length, map, Option, Some, None, Result, Ok, Err}
use Rattle.source_text.specs.Lines.{pieces}
use Rattle.ppc_word.specs.Rows.{are_fields}
use Rattle.ppc_text.specs.declared.line.Item.{Item}
use Rattle.ppc_text.specs.declared.line.Item.TheVariants as kinds
use Rattle.ppc_text.specs.declared.line.Line.{Line}
use Rattle.ppc_text.specs.Lines.{line_of}
use Rattle.asm_lines.specs.declared.error.Cause.{Cause}
use Rattle.asm_lines.specs.declared.error.Cause.TheVariants as causes
use Rattle.asm_lines.specs.declared.error.AsmErr.{AsmErr}
use Rattle.asm_lines.specs.declared.error.AsmErr.TheVariants as errors
use Rattle.asm_lines.specs.Items.{Placed, section_at, next, size}
use Rattle.asm_lines.specs.Names.{has_name, defined, mentions, first_names, labels, fixes}

-- the most bytes of a section: 1 MiB
abbrev pub longest_section : ℕ
longest_section = 0x100000

-- the most names, and the most relocations
abbrev pub most_names : ℕ
most_names = 65535

-- an instruction may come next: the section is text, and its size is a multiple of 4
abbrev pub takes_instruction : List Placed → Bool
takes_instruction ps = section_at ps == 0 && size 0 ps % 4 == 0

-- the item is an instruction, and none may come next
abbrev pub is_bad_place : List Placed → Item → Bool
is_bad_place ps (kinds.Instruction i) = not (takes_instruction ps)
is_bad_place ps _ = false

-- the item is an instruction whose word is outside the processor's table
abbrev pub is_bad_word : Item → Bool
is_bad_word (kinds.Instruction i) = not (are_fields i.row i.fields)
is_bad_word _ = false

-- an earlier line defines the label
abbrev pub is_twice : List Placed → Option (List ℕ) → Bool
is_twice ps (Some name) = has_name (defined ps) name
is_twice ps None = false

-- a section exceeds 1 MiB, or there are more than 65,535 names, labels or relocations
unfoldable pub is_too_large : List Placed → Bool
is_too_large ps =
    nat_lt longest_section (size 0 ps) || (nat_lt longest_section (size 1 ps)
    || (nat_lt most_names (length (first_names (mentions ps))) || (nat_lt most_names (length (labels ps))
    || nat_lt most_names (length (fixes 0 ps) + length (fixes 1 ps)))))

-- the first cause in an item, if there is one
unfoldable pub item_cause : List Placed → Item → Option Cause
item_cause ps item = if is_bad_place ps item then Some causes.BadPlace else (if is_bad_word item then Some causes.BadWord else None)

-- a cause, or else the other
abbrev pub cause_or : Option Cause → Option Cause → Option Cause
cause_or (Some cause) other = Some cause
cause_or None other = other

-- the first cause for which a line is refused after these lines
unfoldable pub cause_of : List Placed → Line → Option Cause
cause_of ps l =
    cause_or (item_cause ps l.item) (if is_twice ps l.label then Some causes.Twice
    else (if is_too_large (ps ++ next ps l ∷ []) then Some causes.TooLarge else None))

-- a refusal of line n, or else the other outcome
abbrev pub or_refused : ℕ → Option Cause → Result (List Placed) (ℕ × Cause) → Result (List Placed) (ℕ × Cause)
or_refused n (Some cause) other = Err (n, cause)
or_refused n None other = other

-- these lines, then those that follow, whose first has the number n; None stands for a line outside the grammar
abbrev pub judged : List Placed → ℕ → List (Option Line) → Result (List Placed) (ℕ × Cause)
judged ps n [] = Ok ps
judged ps n (None ∷ ls) = Err (n, causes.BadLine)
judged ps n (Some l ∷ ls) = or_refused n (cause_of ps l) (judged (ps ++ next ps l ∷ []) (n + 1) ls)

-- the lines of a source text with their sections, or the first refused line, counted from 1, with its first cause
unfoldable pub items : List ℕ → Result (List Placed) (ℕ × Cause)
items text = judged [] 1 (map line_of (pieces text))

-- an error is this refusal, or says that memory ran out
abbrev pub Tells : {A : Type 0} → Result A (ℕ × Cause) → AsmErr → Type 0
Tells found (errors.Bad n cause) = found ≡ Err (n, cause)
Tells found errors.NoMemory = Unit {0}
