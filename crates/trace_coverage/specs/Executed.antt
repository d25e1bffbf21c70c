-- Which instructions a run executes, and what that covers.
use Rattle.std.specs.Prelude.{ℕ, Bool, false, if◌then◌else◌, List, Option, None, Some, is_some}
use Rattle.ppc_word.specs.Rows.{row_of}
use Rattle.board_bus.specs.Access.{fetched}
use Rattle.module_loader.specs.declared.module.LoadedModule.{LoadedModule}
use Rattle.kernel_world.specs.State.{WorldState}
use Rattle.kernel_world.specs.declared.actor.Actor.{Actor}
use Rattle.board_trace.specs.Before.{before_step}
use Rattle.wind_machine.specs.Processor.{bus_of, regs_of}
use Rattle.wind_machine.specs.State.{State}
use Rattle.wind_machine.specs.Run.{Answers, after}
use Rattle.board_trace.specs.declared.moment.BeforeStep.{BeforeStep}
use Rattle.trace_coverage.specs.Covered.{CoverageState}
use Rattle.trace_coverage.specs.Listed.{ListsExecuted, covered}

-- a word is an instruction of the table
abbrev pub is_instruction : Option ℕ → Bool
is_instruction None = false
is_instruction (Some word) = is_some (row_of word)

-- the address of the instruction that a step executes: a task or routine is at no gate, and the word at its program counter
-- can be fetched and is an instruction. A load that faults, a trap and a system call count
abbrev pub executed_by : BeforeStep → Option ℕ
executed_by b = if is_instruction b.word then b.at else None

-- the same of the next step of a state
abbrev pub executed_at : State → Option ℕ
executed_at s = executed_by (before_step s)

-- the address of a word, if the word is an instruction; and that of the word at which a task or routine is
abbrev pub if_instruction : Option ℕ → ℕ → Option ℕ
if_instruction word at = if is_instruction word then Some at else None

abbrev pub instruction_under : WorldState → Actor → Option ℕ
instruction_under w who = if_instruction (fetched (bus_of w) (regs_of w who).pc) (regs_of w who).pc

-- the modules after the first j steps from s, and the instruction that the next step executes
abbrev pub modules_after : Answers → State → ℕ → List (ℕ × LoadedModule)
modules_after said s j = (after said s j).world.modules.rows

abbrev pub executed_after : Answers → State → ℕ → Option ℕ
executed_after said s j = executed_at (after said s j)

-- the coverage of the first k steps from s
abbrev pub coverage_after : Answers → State → ℕ → CoverageState
coverage_after said s k = covered (modules_after said s) (executed_after said s) k

-- the law of every run
abbrev pub ListsRuns : Type 0
ListsRuns = (said : Answers) (s : State) → ListsExecuted (modules_after said s) (executed_after said s)
