-- taskSpawn and sp.
use Rattle.std.specs.Prelude.{ℕ, ◌+◌, ◌-◌, max, List, [], ◌++◌, Option, None, Some, Result, Ok, Err, false, ◌==◌, nat_le, if◌then◌else◌, take, codes}
use Rattle.std.specs.Option.{option_map}
use Rattle.std.specs.Fmt.{decimal, digits}
use Rattle.wind_base.specs.Limits.{least_urgent, longest_short_name, frame_bytes}
use Rattle.wind_base.specs.Boards.{board_rules}
use Rattle.wind_base.specs.Gates.{gate_address}
use Rattle.wind_base.specs.declared.board_kind.BoardKind.{BoardKind}
use Rattle.wind_base.specs.declared.gate.Gate.TheVariants as gates
use Rattle.wind_base.specs.declared.errno.Errno.{Errno}
use Rattle.wind_base.specs.declared.errno.Errno.TheVariants as errors
use Rattle.task_block.specs.declared.task.NewTask.{NewTask}
use Rattle.mem_partition.specs.State.{PartState, alloc_of, after_alloc}
use Rattle.mem_partition.specs.Place.{grain, rounded}
use Rattle.mem_partition.specs.declared.block.Class.TheVariants.{Kernel}
use Rattle.mem_partition.specs.declared.block.PartErr.{PartErr}
use Rattle.wind_core.specs.State.{KernState}
use Rattle.wind_core.specs.Moves.{spawn, spawn_refusal}
use Rattle.kernel_world.specs.State.{WorldState}
use Rattle.kernel_world.specs.Starting.{starting_regs, framed}
use Rattle.board_mem.specs.Memory.{string_at}
use Rattle.call_rows.specs.Unless.{unless}
use Rattle.call_rows.specs.declared.spawning.Wanted.{Wanted}
use Rattle.kernel_world.specs.declared.reply.Reply.{Reply}
use Rattle.kernel_world.specs.declared.reply.Reply.TheVariants.{Answer, Refusal}

-- a stack has at least 512 bytes
abbrev pub least_stack : ℕ
least_stack = 512

-- the bytes that the partition is asked for, for a stack of n bytes; their block is the stack
abbrev pub stack_bytes : ℕ → ℕ
stack_bytes n = max n least_stack

-- r1 at the start of a task: one frame below the end of its stack's block
abbrev pub first_pointer : ℕ → ℕ → ℕ
first_pointer at n = at + rounded n - frame_bytes

-- the name of a task: the one that it is given, or a `t` followed by a number
abbrev pub task_name : Option (List ℕ) → ℕ → List ℕ
task_name None n = codes "t" ++ decimal n
task_name (Some name) n = name

-- the number that the next task without a name takes
abbrev pub names_after : Option (List ℕ) → ℕ → ℕ
names_after None n = n + 1
names_after (Some name) n = n

-- where a task returns to when its entry returns
abbrev pub task_return : BoardKind → ℕ
task_return board = gate_address (board_rules board).gates_start gates.TaskReturn

-- the task, with its stack at an address
abbrev pub started : BoardKind → Wanted → ℕ → ℕ → NewTask
started board s names at = record {
  name = task_name s.name names;
  entry = s.start;
  stack = at;
  stack_size = rounded (stack_bytes s.stack);
  pri = s.pri;
  regs = starting_regs (first_pointer at (stack_bytes s.stack)) (task_return board) s.start s.words;
}

-- what a spawn reads and may change; the board stays
pub record SpawnState : Type 0 where
  pub board : BoardKind
  pub kern : KernState
  pub part : PartState
  pub ram : List ℕ
  pub names : ℕ

abbrev pub spawn_parts : BoardKind → KernState → PartState → List ℕ → ℕ → SpawnState
spawn_parts board kern part ram names = record { board = board; kern = kern; part = part; ram = ram; names = names }

-- these parts of a world, and the world with other ones in their place
abbrev pub spawn_state : WorldState → SpawnState
spawn_state w = spawn_parts w.board w.kern w.part w.ram w.names

abbrev pub after_spawn : WorldState → SpawnState → WorldState
after_spawn w s = record w { kern = s.kern; part = s.part; ram = s.ram; names = s.names }

-- these parts after a spawn, and how its caller is answered
pub record SpawnRow : Type 0 where
  pub after : SpawnState
  pub reply : Reply

-- if the spawn is refused, nothing changes
abbrev pub no_spawn : SpawnState → Errno → SpawnRow
no_spawn w e = record { after = w; reply = Refusal e }

-- the stack is a Kernel block, and the task begins on it
abbrev pub spawned_on : SpawnState → Wanted → ℕ → SpawnState
spawned_on w s at = record {
  board = w.board;
  kern = spawn w.kern (started w.board s w.names at);
  part = after_alloc w.part (stack_bytes s.stack) grain Kernel;
  ram = framed w.ram (first_pointer at (stack_bytes s.stack)) s.words;
  names = names_after s.name w.names;
}

abbrev pub spawned_at : SpawnState → Wanted → Result ℕ PartErr → SpawnRow
spawned_at w s (Err e) = no_spawn w errors.NotEnoughMemory
spawned_at w s (Ok at) = record { after = spawned_on w s at; reply = Answer w.kern.next_id }

-- refused if no more tasks may live or no id is left, then if the partition has no room for the stack
abbrev pub spawned : SpawnState → Wanted → SpawnRow
spawned w s =
    unless (spawn_refusal w.kern) (no_spawn w) (spawned_at w s (alloc_of w.part (stack_bytes s.stack) grain))

-- or refused because the request was
abbrev pub spawned_if : SpawnState → Result Wanted Errno → SpawnRow
spawned_if w (Err e) = no_spawn w e
spawned_if w (Ok s) = spawned w s

-- ---- taskSpawn: a task with a name at an address, a priority, this many bytes of stack, an entry and ten arguments
-- the name that an address means: none at 0, else the first 31 bytes of the string there
abbrev pub name_at : List ℕ → ℕ → Option (Option (List ℕ))
name_at ram at = if at == 0 then Some None else option_map (λ name. Some (take longest_short_name name)) (string_at ram at)

abbrev pub named_wanted : ℕ → ℕ → ℕ → Option (Option (List ℕ)) → Option (List ℕ) → Result Wanted Errno
named_wanted priority stack start None arguments = Err errors.BadAddress
named_wanted priority stack start (Some name) None = Err errors.BadAddress
named_wanted priority stack start (Some name) (Some words) = Ok (record { name = name; pri = priority; stack = stack; start = start; words = words })

-- refused at a priority above 255; then if the name or an argument can't be read
abbrev pub task_wanted : List ℕ → ℕ → ℕ → ℕ → ℕ → Option (List ℕ) → Result Wanted Errno
task_wanted ram name priority stack start arguments =
    if nat_le priority least_urgent then named_wanted priority stack start (name_at ram name) arguments
    else Err errors.IllegalPriority

-- ---- sp: a task without a name, of priority 100, with a stack of 20,000 bytes, an entry and ten arguments
abbrev pub quick_priority : ℕ
quick_priority = 100

abbrev pub quick_stack : ℕ
quick_stack = 20000

-- refused if an argument can't be read
abbrev pub quick_wanted : ℕ → Option (List ℕ) → Result Wanted Errno
quick_wanted start None = Err errors.BadAddress
quick_wanted start (Some words) = Ok (record { name = None; pri = quick_priority; stack = quick_stack; start = start; words = words })

-- the line that reports a spawn
unfoldable pub spawn_text : ℕ → List ℕ → List ℕ
spawn_text id name = codes "task spawned: id = 0x" ++ digits 16 false id ++ codes ", name = " ++ name ++ codes "\n"

-- what sp writes: nothing, if it is refused
abbrev pub quick_text : ℕ → Reply → List ℕ
quick_text names (Answer id) = spawn_text id (task_name None names)
quick_text names r = []

-- the world after sp, which also writes the line
abbrev pub after_quick : WorldState → SpawnRow → WorldState
after_quick w r = record (after_spawn w r.after) { output = w.output ++ quick_text w.names r.reply }
