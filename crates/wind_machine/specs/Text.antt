-- The texts that the board writes. All except the prompt are this project's own.
use Rattle.std.specs.Prelude.{ℕ, List, ◌++◌, false, codes}
use Rattle.std.specs.Fmt.{decimal, digits}
use Rattle.wind_base.specs.Texts.{hex_places}
use Rattle.ppc_core.specs.declared.trap.Trap.{Trap}
use Rattle.ppc_core.specs.declared.trap.Trap.TheVariants as traps
use Rattle.shell_eval.specs.declared.fault.EvalFault.{EvalFault}
use Rattle.shell_eval.specs.declared.fault.EvalFault.TheVariants as faults

-- the prompt, `-> `
abbrev pub prompt_text : List ℕ
prompt_text = codes "-> "

-- the line that reports the column of the first refused token
unfoldable pub syntax_text : ℕ → List ℕ
syntax_text column = codes "syntax error at column " ++ decimal column ++ codes "\n"

-- a word in eight hexadecimal digits
unfoldable pub eight_digits : ℕ → List ℕ
eight_digits v = hex_places 8 v

-- the line that reports a fault of evaluation
unfoldable pub fault_text : EvalFault → List ℕ
fault_text (faults.Undefined name) = codes "undefined symbol: " ++ name ++ codes "\n"
fault_text (faults.AccessAt at) = codes "access fault at 0x" ++ eight_digits at ++ codes "\n"
fault_text faults.DivideByZero = codes "divide by zero\n"
fault_text faults.NoRoom = codes "not enough memory\n"
fault_text faults.SymbolsFull = codes "symbol table full\n"

-- the word for the kind of an exception
abbrev pub kind_text : Trap → List ℕ
kind_text traps.Illegal = codes "illegal"
kind_text traps.Align = codes "alignment"
kind_text traps.Access = codes "access"
kind_text traps.TrapInsn = codes "trap"
kind_text traps.Sysc = codes "sysc"

-- a newline, the kind of an exception, and the name of its task
unfoldable pub cause_text : Trap → List ℕ → List ℕ
cause_text trap name = codes "\nexception " ++ kind_text trap ++ codes " in " ++ name

-- the task's id and an address, and the end of the line
unfoldable pub place_text : ℕ → ℕ → List ℕ
place_text id at = codes " (0x" ++ digits 16 false id ++ codes ") at 0x" ++ eight_digits at ++ codes "\n"

-- a routine's address, and the end of the line
unfoldable pub level_text : ℕ → List ℕ
level_text at = codes " at 0x" ++ eight_digits at ++ codes "\n"

-- the line that reports an exception of an interrupt routine
unfoldable pub routine_text : Trap → ℕ → List ℕ
routine_text trap at = cause_text trap (codes "interrupt") ++ level_text at

-- the line that reports an exception of the task with this name and id
unfoldable pub exception_text : Trap → List ℕ → ℕ → ℕ → List ℕ
exception_text trap name id at = cause_text trap name ++ place_text id at
