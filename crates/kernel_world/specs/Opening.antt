-- The world at the start.
use Rattle.std.specs.Prelude.{ℕ, ◌+◌, ◌*◌, List, [], Option, None, false, replicate, codes}
use Rattle.wind_base.specs.Limits.{pool_start, shell_stack_bytes, most_slots, longest_chunk}
use Rattle.wind_base.specs.Boards.{board_rules}
use Rattle.wind_base.specs.Gates.{gates}
use Rattle.wind_base.specs.declared.board_kind.BoardKind.{BoardKind}
use Rattle.wind_base.specs.declared.profile.Profile.{Profile}
use Rattle.wind_outside.specs.Devices.{DeviceState}
use Rattle.task_block.specs.declared.task.NewTask.{NewTask}
use Rattle.mem_partition.specs.State.{PartState}
use Rattle.module_image.specs.Opening.{gate_symbols, opening_blocks}
use Rattle.module_loader.specs.Modules.{modules_on}
use Rattle.wind_core.specs.State.{KernState}
use Rattle.isr_watch.specs.State.{no_watch}
use Rattle.isr_watch.specs.Calls.{routine_return}
use Rattle.dev_irq.specs.declared.line.Line.{Line}
use Rattle.dev_irq.specs.State.{idle_line}
use Rattle.wind_core.specs.Moves.{spawn}
use Rattle.kernel_world.specs.Objects.{no_objects}
use Rattle.kernel_world.specs.State.{WorldState}
use Rattle.kernel_world.specs.Starting.{no_regs}
pub use Rattle.module_image.specs.Opening.{interrupt_stack}

-- the most that a step writes: each byte of a chunk echoes at most three bytes, and a newline may be supplied after it
abbrev pub most_output : ℕ
most_output = 3 * (longest_chunk + 1)

-- the shell's task: its stack begins where the pool does
abbrev pub shell_record : NewTask
shell_record = record { name = codes "tShell"; entry = 0; stack = pool_start; stack_size = shell_stack_bytes; pri = 1; regs = no_regs }

abbrev pub empty_kern : KernState
empty_kern = record { tasks = []; tick = 0; slice = 0; next_id = 1; lent = false; next_since = 0; last = None }

abbrev pub opening_kern : KernState
opening_kern = spawn empty_kern shell_record

-- the pool is the board's; the two stacks are its first blocks
abbrev pub opening_part : BoardKind → PartState
opening_part board = record {
  start = pool_start;
  end = (board_rules board).pool_end;
  room = (board_rules board).blocks;
  blocks = opening_blocks;
}

-- every slot is enabled, without a routine, and nothing is pending
unfoldable pub no_irqs : List Line
no_irqs = replicate most_slots idle_line

-- n zeros
unfoldable pub zeros : ℕ → List ℕ
zeros n = replicate n 0

-- the world at the start, over these devices, under a rule of inheritance, on a board of a kind
unfoldable pub opening_world : List (Option DeviceState) → Profile → BoardKind → WorldState
opening_world slots profile board = record {
  kern = opening_kern;
  objects = no_objects profile;
  part = opening_part board;
  symbols = gate_symbols (board_rules board).gates_start gates;
  modules = modules_on board [];
  ram = zeros (board_rules board).ram_bytes;
  slots = slots;
  irqs = no_irqs;
  output = [];
  names = 1;
  watch = no_watch (routine_return board);
  int_errno = 0;
  board = board;
}
