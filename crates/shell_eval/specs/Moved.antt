-- What the code answers, as evaluation sees it.
use Rattle.std.specs.Prelude.{ℕ, List, Result, Ok, Err}
use Rattle.shell_eval.specs.declared.fault.EvalFault.{EvalFault}
use Rattle.shell_eval.specs.declared.went.Went.{Went}
use Rattle.shell_eval.specs.declared.went.Went.TheVariants as went
use Rattle.shell_eval.specs.declared.code.Op.{Op}
use Rattle.shell_eval.specs.declared.code.Entry.{Entry}
use Rattle.shell_eval.specs.declared.step.Stepped.{Stepped}
use Rattle.shell_eval.specs.declared.step.Stepped.TheVariants as code
use Rattle.shell_eval.specs.State.{State}
use Rattle.shell_eval.specs.Words.{Tried, made}
use Rattle.shell_eval.specs.Pending.{Pending}
use Rattle.shell_eval.specs.Evaluate.{Evaluated, Value, Call, Fault, ended}
use Rattle.shell_eval.specs.Machine.{Effect, Puts, Asks, Fails, Moved, onward}

-- a word with the state left after it was made, or a fault
abbrev pub attempt : Result ℕ EvalFault → State → Tried
attempt (Ok n) s = made n s
attempt (Err f) s = Err f

-- what came of an operation, with the state and the entries that it left
abbrev pub effect_of : Stepped → State → List Entry → Effect
effect_of code.Goes s st = Puts s st
effect_of (code.Calls callee words) s st = Asks s callee words st
effect_of (code.Faults f) s st = Fails s f

-- the same with the code that it left
abbrev pub moved : Stepped → State → List Op → List Entry → Moved
moved stepped s c st = onward c (effect_of stepped s st)

-- the room for the entry that an operation leaves free if it doesn't go on
abbrev pub held : Stepped → ℕ
held code.Goes = 0
held (code.Calls callee words) = 1
held (code.Faults f) = 1

-- what came of an evaluation, with the state and the tree that it left
abbrev pub came : Went → State → Pending → Evaluated
came (went.Value n) s p = ended s (Value n)
came (went.Call callee words) s p = ended s (Call callee words p)
came (went.Fault f) s p = ended s (Fault f)
