-- Texts put piece by piece.
use Rattle.std.proofs.Common.{ℕ, ◌≤◌, List, Option, Some, None, refl, arith, take, drop, ◌^◌, ◌-◌, inl, inr}
use Rattle.std.proofs.lemmas.Bool.{cases_eq}
use Rattle.std.proofs.lemmas.List.{take-append-drop}
use Rattle.wind_outside.specs.Counts.{Rose}
use Rattle.wind_outside.specs.Appending.{AppendedPrefix}
pub use Rattle.generated_session.proofs.Appended.{appended_both, appended_none, cut_prefix}
use Rattle.wind_session.specs.Texts.{IsCutShort, IsText, memory_text, status_text}
use Rattle.wind_session.specs.Command.{CommandState}
use Rattle.wind_session.specs.declared.ending.Status.TheVariants as status

-- a count that rose has risen also later, and from an earlier one
pub rose_later : (a b c : ℕ) → Rose a b → b ≤ c → Rose a c
rose_later a b c (inl less) h = inl (omega arith)
rose_later a b c (inr most) h = inr most

pub rose_earlier : (a b c : ℕ) → a ≤ b → b ≤ c → Rose b c → Rose a c
rose_earlier a b c h k (inl less) = inl (omega arith)
rose_earlier a b c h k (inr most) =
    elim (cases_eq a (2 ^ 64 - 1)) [
      | inl same ↦ inr same
      | inr below ↦ inl (omega arith)
    ]

-- a prefix of a text was put, and a put failed
pub cut_short : (old new : Option (List ℕ)) (text : List ℕ) (rose : Type 0) → AppendedPrefix old new text → rose → IsCutShort old new text rose
cut_short old new text rose (n, gained) fault = record { prefix = take n text; rest = drop n text; whole = take-append-drop n text; gained = gained; fault = fault }

-- the text for memory that ran out is the same for all arguments
pub memory_is_text : (program : List ℕ) (command : Option CommandState) → IsText program command status.NoMemory (memory_text program)
unfolding status_text
memory_is_text program None = refl
memory_is_text program (Some c) = refl
