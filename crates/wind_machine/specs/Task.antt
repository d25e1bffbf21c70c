-- The shell's task, which the kernel calls tShell.
use Rattle.std.specs.Prelude.{ℕ, ◌+◌, ◌-◌, List, Option, None, Some, Bool, false, ◌||◌, is_some, if◌then◌else◌}
use Rattle.wind_base.specs.Limits.{wait_forever, pool_start, shell_stack_bytes, frame_bytes}
use Rattle.wind_base.specs.Boards.{board_rules}
use Rattle.wind_base.specs.Gates.{gate_address}
use Rattle.wind_base.specs.declared.board_kind.BoardKind.{BoardKind}
use Rattle.wind_base.specs.declared.gate.Gate.TheVariants as gates
use Rattle.wind_base.specs.declared.regs.Regs.{Regs}
use Rattle.id_table.specs.Sides.{console_side}
use Rattle.id_table.specs.declared.ident.Place.{Place}
use Rattle.task_block.specs.declared.task.Task.{Task}
use Rattle.wind_core.specs.State.{KernState, task_of}
use Rattle.wind_core.specs.Orders.{waits_at}
use Rattle.wind_core.specs.Moves.{pend, release, reset}
use Rattle.id_table.specs.Idents.{shell_id}
use Rattle.live_loading.specs.KernelWorldStarting.{starting_regs}

abbrev pub shell_task : KernState → Option Task
shell_task k = task_of k.tasks shell_id

-- the place at which it waits for the console
abbrev pub console_place : Place
console_place = record { side = console_side; id = shell_id }

abbrev pub is_at_console : Option Task → Bool
is_at_console None = false
is_at_console (Some t) = waits_at console_place t

abbrev pub waits_for_console : KernState → Bool
waits_for_console k = is_at_console (shell_task k)

-- the shell's task waits for something, or is delayed
abbrev pub is_held : Option Task → Bool
is_held None = false
is_held (Some t) = is_some t.wait || is_some t.wake

-- the shell's task begins to wait for the console
abbrev pub listening : KernState → KernState
listening k = pend k shell_id console_place false wait_forever

-- its wait or delay ends, if it has one
abbrev pub let_go : KernState → KernState
let_go k = if is_held (shell_task k) then release k shell_id else k

-- the shell's task is aborted: it has no wait, no delay, and none of its marks afterwards
abbrev pub aborted : KernState → KernState
aborted k = reset (let_go k) shell_id

-- r1 at the start of a call of the shell: one frame below the end of its task's stack
abbrev pub stack_pointer : ℕ
stack_pointer = pool_start + shell_stack_bytes - frame_bytes

-- the address to which a call of the shell returns
abbrev pub return_address : BoardKind → ℕ
return_address board = gate_address (board_rules board).gates_start gates.ShellReturn

-- its registers at a call
abbrev pub call_regs : BoardKind → ℕ → List ℕ → Regs
call_regs board callee words = starting_regs stack_pointer (return_address board) callee words
