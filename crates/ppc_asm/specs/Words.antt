-- What the file of an assembled text says of each of its instructions.
use Rattle.std.specs.Prelude.{◌≡◌, ℕ, List, [], ◌∷◌, ◌++◌, take, drop, Some, Ok}
use Rattle.std.specs.Int.{from_be_bytes, w32}
use Rattle.elf_read.specs.Contents.{module_at}
use Rattle.elf_read.specs.declared.module.Body.{Body}
use Rattle.elf_read.specs.declared.module.Body.TheVariants.{Bytes, Size}
use Rattle.elf_read.specs.declared.module.Sect.{Sect}
use Rattle.ppc_word.specs.Rows.{row_of, fields_of}
use Rattle.ppc_text.specs.Blank.{IsBlank}
use Rattle.ppc_text.specs.declared.line.Instruction.{Instruction}
use Rattle.ppc_text.specs.declared.line.Item.TheVariants as kinds
use Rattle.asm_lines.specs.Items.{Placed, size}
use Rattle.asm_lines.specs.Causes.{items}

-- the bytes of a section; none if the file doesn't hold them
abbrev pub bytes_in : Body → List ℕ
bytes_in (Bytes bs) = bs
bytes_in (Size n) = []

-- the bytes of the first section
abbrev pub first_bytes : List Sect → List ℕ
first_bytes [] = []
first_bytes (s ∷ ss) = bytes_in s.body

-- the word in the four bytes at an offset of the first section of a file, the high byte first
abbrev pub word_at : List ℕ → ℕ → ℕ
word_at file offset = from_be_bytes w32 (take 4 (drop offset (first_bytes (module_at file).sections)))

-- the word decodes to the instruction that the line names: its row and its fields, with 0 in a relocated one
pub record DecodesTo (i : Instruction) (w : ℕ) : Type 0 where
  pub row : row_of w ≡ Some i.row
  pub fields : fields_of i.row w ≡ i.fields
  pub blank : IsBlank i.reference (fields_of i.row w)

-- for each instruction of the text, the word at its offset in the file's text decodes to it; its offset is the size of
-- the text before it
abbrev pub HasWords : List ℕ → List ℕ → Type 0
HasWords text file = (before after : List Placed) (p : Placed) (i : Instruction)
    → items text ≡ Ok (before ++ p ∷ after) → p.item ≡ kinds.Instruction i → DecodesTo i (word_at file (size 0 before))
