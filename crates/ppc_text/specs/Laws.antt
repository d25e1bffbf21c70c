-- The law of instructions as text: reading an instruction's text gives the instruction.
use Rattle.std.specs.Prelude.{◌≡◌, ◌≢◌, Some, None}
use Rattle.std.specs.List.{All}
use Rattle.ppc_word.specs.declared.insn.Insn.{Insn}
use Rattle.ppc_text.specs.declared.line.Item.TheVariants as items
use Rattle.ppc_text.specs.declared.line.Line.{Line}
use Rattle.ppc_text.specs.Lines.{line_of}
use Rattle.ppc_text.specs.Shown.{text_of}

-- the line with this instruction and no label
abbrev pub line_with : Insn → Line
line_with i = record { label = None; item = items.Instruction (record { row = i.row; fields = i.fields; reference = None }) }

-- the text of each instruction is a line with this instruction and no label
abbrev pub ShownLaw : Type 0
ShownLaw = (i : Insn) → line_of (text_of i) ≡ Some (line_with i)

-- it has no line feed
abbrev pub LineLaw : Type 0
LineLaw = (i : Insn) → All (λ b. b ≢ 10) (text_of i)
