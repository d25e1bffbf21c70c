-- The law of instructions as text.
use Rattle.std.specs.Prelude.{◌≡◌, ℕ, List, [], ◌∷◌, Some, Ok, codes}
use Rattle.std.specs.List.{All}
use Rattle.std.specs.Int.{bytes_high_first}
use Rattle.elf_read.specs.declared.module.Module.{Module}
use Rattle.ppc_word.specs.declared.insn.Insn.{Insn}
use Rattle.ppc_word.specs.Insn.{word_of}
use Rattle.ppc_word.specs.Rows.{row_of, fields_of, word_with}
use Rattle.ppc_text.specs.declared.line.Item.{Item}
use Rattle.ppc_text.specs.declared.line.Item.TheVariants as kinds
use Rattle.ppc_text.specs.Shown.{text_of}
use Rattle.asm_lines.specs.Items.{Placed}
use Rattle.asm_lines.specs.Causes.{items}
use Rattle.ppc_asm.specs.Assembly.{section_of, assembly}

-- the module of one instruction: its word is all that `.text` has
abbrev pub module_with : Insn → Module
module_with i = record {
  sections = section_of (codes ".text") 6 (bytes_high_first 4 (word_of i)) ∷ section_of (codes ".data") 3 [] ∷ [];
  symbols = [];
  relocs = [];
}

-- the text of each instruction is assembled to its word
abbrev pub ShownLaw : Type 0
ShownLaw = (i : Insn) → assembly (text_of i) ≡ Ok (module_with i)

-- the word of an instruction decodes to it
abbrev pub Decodes : Item → Type 0
Decodes (kinds.Instruction i) = (row_of (word_with i.row i.fields) ≡ Some i.row) × (fields_of i.row (word_with i.row i.fields) ≡ i.fields)
Decodes _ = Unit {0}

-- the word of each instruction of a text that is assembled decodes to the instruction that its line names
abbrev pub DecodedLaw : Type 0
DecodedLaw = (text : List ℕ) (ps : List Placed) → items text ≡ Ok ps → All (λ p. Decodes p.item) ps
