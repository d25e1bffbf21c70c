-- The step of a task, and that of an interrupt routine. Each takes one unit of board time.
use Rattle.std.specs.Prelude.{◌≡◌, ℕ, ◌+◌, List, Option, Some, None, ◌==◌, if◌then◌else◌}
use Rattle.wind_base.specs.declared.gate.Gate.{Gate}
use Rattle.shell_parse.specs.Reading.{read_line}
use Rattle.con_line.specs.Lines.{has_line, first_line, line_dropped}
use Rattle.live_loading.specs.KernelWorldState.{WorldState}
use Rattle.id_table.specs.Idents.{shell_id}
use Rattle.live_loading.specs.KernelWorldActor.{Actor}
use Rattle.live_loading.specs.KernelWorldActor.TheVariants.{Task as by_task, Interrupt}
use Rattle.live_loading.specs.KernelCallsCalls.{file_wanted}
use Rattle.live_loading.specs.Said.{FileSaid}
use Rattle.live_loading.specs.Loading.{shell, load_call}
use Rattle.wind_machine.specs.State.{State}
use Rattle.wind_machine.specs.Reserving.{drop_others}
use Rattle.wind_machine.specs.Part.{Part, part_of, with_kern}
use Rattle.wind_machine.specs.Shell.{prompt_part, read_part, eval_part}
use Rattle.wind_machine.specs.Processor.{gate_under, without_own, actor_part}
use Rattle.wind_machine.specs.Events.{cleared, unreserved_world}
use Rattle.wind_machine.specs.declared.phase.Phase.{Phase}
use Rattle.wind_machine.specs.declared.phase.Phase.TheVariants as phases

-- the state after a step that leaves this part
abbrev pub after_part : State → Part → State
after_part s p = record s { shell = p.shell; world = p.world; time = s.time + 1; steps = s.steps + 1 }

-- ---- a task makes a step
-- the world at the beginning of the step: the output is empty, and no other task has a reservation
abbrev pub at_step_start : WorldState → ℕ → WorldState
at_step_start w who = cleared (with_kern w (drop_others w.kern who))

-- the world in which the task ran last
abbrev pub noted : WorldState → ℕ → WorldState
noted w who = with_kern w (record w.kern { last = Some who })

-- the state after its step: the task is noted as the one that ran last
abbrev pub stepped : State → ℕ → Part → State
stepped s who p = after_part s (part_of p.shell (noted p.world who))

abbrev pub shell_world : State → WorldState
shell_world s = at_step_start s.world shell_id

abbrev pub prompt_step : State → State
prompt_step s = stepped s shell_id (prompt_part (has_line s.console) s.shell (shell_world s))

-- the line that the shell reads is dropped from the console
abbrev pub read_step : State → State
read_step s = stepped (record s { console = line_dropped s.console }) shell_id (read_part (read_line (first_line s.console)) (shell_world s))

abbrev pub eval_step : State → State
eval_step s = stepped s shell_id (eval_part s.shell.trees (shell_world s))

-- what the task does at a gate, or an instruction
abbrev pub task_step : State → ℕ → State
task_step s who = stepped s who (actor_part s.shell (at_step_start s.world who) (by_task who))

-- the step of the shell's task, by the shell's phase
abbrev pub shell_step : Phase → State → State
shell_step phases.Prompt s = prompt_step s
shell_step phases.Read s = read_step s
shell_step phases.Eval s = eval_step s
shell_step phases.Call s = task_step s shell_id

-- the step of the task with this id
abbrev pub step_of : State → ℕ → State
step_of s who = if who == shell_id then shell_step s.shell.phase s else task_step s who

-- who makes instructions and kernel calls: every task and routine, but the shell's task only during a call of the shell
abbrev pub IsOnProcessor : Phase → Actor → Type 0
IsOnProcessor p (by_task who) = who ≡ shell_id → p ≡ phases.Call
IsOnProcessor p Interrupt = Unit {0}

-- ---- the load of a file, which is a step of the shell's task
-- the file that the shell's task needs: at the gate of ld, the file with the name that it hands in
abbrev pub file_at : Option Gate → WorldState → Option (List ℕ)
file_at None w = None
file_at (Some g) w = file_wanted g w shell

-- the shell's task needs a file only during a call
abbrev pub file_in : Phase → WorldState → Option (List ℕ)
file_in phases.Call w = file_at (gate_under w shell) w
file_in phase w = None

-- the file that the step of the task with this id needs; only the shell's task ever needs one
abbrev pub file_for : State → ℕ → Option (List ℕ)
file_for s who = if who == shell_id then file_in s.shell.phase s.world else None

-- the load, given the folder's answer about its file
abbrev pub load_step : FileSaid → State → List ℕ → State
load_step said s name = stepped s shell_id (part_of s.shell (without_own (load_call (shell_world s) name said) shell))

-- ---- an interrupt routine makes a step
-- all tasks' reservations are dropped
abbrev pub routine_step : State → State
routine_step s = after_part s (actor_part s.shell (cleared (unreserved_world s.world)) Interrupt)
