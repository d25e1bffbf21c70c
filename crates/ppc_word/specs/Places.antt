-- The numbers of the index: places of the table by opcode, and by bits of the words of opcodes 19 and 31.
use Rattle.std.specs.Prelude.{ℕ, List}
use Rattle.ppc_word.specs.declared.index.TheConstants.{BY_OPCODE, BY_19, BY_31}

unfoldable pub by_opcode : List ℕ
by_opcode = BY_OPCODE

unfoldable pub by_19 : List ℕ
by_19 = BY_19

unfoldable pub by_31 : List ℕ
by_31 = BY_31
