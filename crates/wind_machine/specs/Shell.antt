-- What the shell does in each of its phases.
use Rattle.std.specs.Prelude.{ℕ, List, [], ◌∷◌, map, Option, None, Some, Bool, true, false, if◌then◌else◌}
use Rattle.std.specs.Option.{option_map}
use Rattle.wind_core.specs.Moves.{set_regs}
use Rattle.shell_parse.specs.Trees.{PlainStmt, Nothing}
use Rattle.shell_parse.specs.Reading.{Reading, Statements, Refused}
use Rattle.shell_eval.specs.State.{State as EvalState}
use Rattle.shell_eval.specs.Pending.{Pending, begun_stmt, filled}
use Rattle.shell_eval.specs.Evaluate.{Evaluated, Ending, Value, Call, Fault, Waiting, evaluate}
use Rattle.live_loading.specs.KernelWorldState.{WorldState}
use Rattle.id_table.specs.Idents.{shell_id}
use Rattle.live_loading.specs.KernelWorldStarting.{framed}
use Rattle.wind_machine.specs.State.{ShellState}
use Rattle.wind_machine.specs.Part.{Part, part_of, with_kern, writing}
use Rattle.wind_machine.specs.Task.{listening, stack_pointer, call_regs}
use Rattle.live_loading.specs.TextShowValue.{value_text}
use Rattle.wind_machine.specs.Text.{prompt_text, syntax_text, fault_text}
use Rattle.wind_machine.specs.declared.phase.Phase.TheVariants as phases

-- the shell without a line under evaluation, in phase Prompt
abbrev pub at_prompt : ShellState
at_prompt = record { phase = phases.Prompt; trees = [] }

-- the shell after its prompt: it reads a line if there is a finished one
abbrev pub prompted : Bool → ShellState → ShellState
prompted has_line s = if has_line then record s { phase = phases.Read } else s

-- whether these are the statements of a line without a token
abbrev pub is_nothing : List PlainStmt → Bool
is_nothing [] = true
is_nothing (Nothing ∷ []) = true
is_nothing _ = false

-- the tree of a statement, if it has a token
abbrev pub begun_tree : PlainStmt → Option Pending
begun_tree Nothing = None
begun_tree s = Some (begun_stmt s)

-- the shell with these statements: a line without a token leads back to the prompt
abbrev pub begun : List PlainStmt → ShellState
begun stmts = if is_nothing stmts then at_prompt else record { phase = phases.Eval; trees = map begun_tree stmts }

-- the shell after the reading of a line, and what that writes
abbrev pub shell_read : Reading → ShellState
shell_read (Statements stmts) = begun stmts
shell_read (Refused column) = at_prompt

abbrev pub read_text : Reading → List ℕ
read_text (Statements stmts) = []
read_text (Refused column) = syntax_text column

-- the shell after a statement, with these trees left
abbrev pub shell_with : List (Option Pending) → ShellState
shell_with [] = at_prompt
shell_with (p ∷ ps) = record { phase = phases.Eval; trees = p ∷ ps }

-- a value replaces the answer that the first tree awaits
abbrev pub fill_first : ℕ → List (Option Pending) → List (Option Pending)
fill_first value [] = []
fill_first value (p ∷ ps) = option_map (filled value) p ∷ ps

-- a call of the shell has returned with this value
abbrev pub returned : ℕ → ShellState → ShellState
returned value s = record { phase = phases.Eval; trees = fill_first value s.trees }

-- the shell writes the prompt, and waits for the console if there is no finished line
abbrev pub prompt_part : Bool → ShellState → WorldState → Part
prompt_part has_line shell w = part_of (prompted has_line shell) (writing (with_kern w (if has_line then w.kern else listening w.kern)) prompt_text)

-- the shell reads a line
abbrev pub read_part : Reading → WorldState → Part
read_part reading w = part_of (shell_read reading) (writing w (read_text reading))

-- the parts of the world that evaluation reads and changes, and the world with other ones
abbrev pub eval_state : WorldState → EvalState
eval_state w = record { symbols = w.symbols; pool = w.part; memory = record { ram = w.ram; slots = w.slots }; output = w.output }

abbrev pub with_eval : WorldState → EvalState → WorldState
with_eval w e = record w { symbols = e.symbols; part = e.pool; ram = e.memory.ram; slots = e.memory.slots; output = e.output }

-- the shell's task begins a call: its registers are those of a call, and the frame is in RAM (System V ABI,
-- PowerPC supplement, function calls)
abbrev pub calling : WorldState → ℕ → List ℕ → WorldState
calling w callee words = record w { kern = set_regs w.kern shell_id (call_regs w.board callee words); ram = framed w.ram stack_pointer words }

-- the first statement has come to this point, and these trees are left after it;
-- at its value, the value is written; at a call, the call begins; at a fault, its text is written, and the rest of
-- the line is dropped
abbrev pub came_to : Ending → List (Option Pending) → WorldState → Part
came_to (Value v) later w = part_of (shell_with later) (writing w (value_text v))
came_to (Call callee words p) later w = part_of (record { phase = phases.Call; trees = Some p ∷ later }) (calling w callee words)
came_to (Fault f) later w = part_of at_prompt (writing w (fault_text f))
came_to Waiting later w = part_of at_prompt w

abbrev pub evaluated_part : Evaluated → List (Option Pending) → WorldState → Part
evaluated_part e later w = came_to e.ending later (with_eval w e.state)

-- the shell goes on with its first statement; one without a token writes nothing
abbrev pub eval_part : List (Option Pending) → WorldState → Part
eval_part [] w = part_of at_prompt w
eval_part (None ∷ later) w = part_of (shell_with later) w
eval_part (Some p ∷ later) w = evaluated_part (evaluate (eval_state w) p) later w
