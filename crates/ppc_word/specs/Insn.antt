-- The word of an instruction.
use Rattle.std.specs.Prelude.{ℕ}
use Rattle.ppc_word.specs.declared.insn.Insn.{Insn}
use Rattle.ppc_word.specs.Rows.{word_with}

-- the word that has the instruction's fields in its form
abbrev pub word_of : Insn → ℕ
word_of i = word_with i.row i.fields
