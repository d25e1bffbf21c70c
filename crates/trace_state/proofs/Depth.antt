-- How deep tasks and the board nest.
use Rattle.std.proofs.Common.{◌≡◌, ℕ, ◌+◌, ◌≤◌, Option, None, Some, sym, subst, arith}
use Rattle.wind_base.specs.declared.regs.Regs.{Regs}
use Rattle.task_block.specs.declared.task.Task.{Task}
use Rattle.kernel_world.specs.declared.objects.Objects.{Objects}
use Rattle.board_changes.specs.declared.awaited.Awaited.{Awaited}
use Rattle.board_reading.specs.BoardTraceRunning.{running_task}
use Rattle.board_reading.specs.BoardTraceWaited.{awaited_by}
use Rattle.board_reading.specs.WindMachineState.{State}
use Rattle.serde_json.specs.Data.{Data, depth}
use Rattle.serde_json.specs.Read.{max_depth}
use Rattle.trace_state.specs.Json.{number_of}
use Rattle.trace_state.specs.Board.{board_data, console_data, shell_data}
use Rattle.trace_state.specs.Memory.{block_data}
use Rattle.trace_state.specs.Modules.{module_data, symbol_data}
use Rattle.trace_state.specs.Objects.{mutex_data, queue_data, semaphore_data, watchdog_data}
use Rattle.trace_state.specs.Tasks.{awaited_id, registers_data, task_data, wait_data}
use Rattle.trace_state.proofs.Nesting.{block_within, devices_within, level_within, module_within, mutex_within, queue_within, ram_within, semaphore_within, symbol_within, watchdog_within}
use Rattle.trace_state.proofs.Shallow.{list_within, maybe_within, member_within, object_within}

wait_within : (o : Option Awaited) → depth (wait_data o) ≤ 2
wait_within None = omega arith
wait_within (Some object) = object_within _ 1 (member_within _ _ _ _ (maybe_within 1 (awaited_id object)) (member_within _ _ _ _ (omega arith) (omega arith)))

registers_within : (r : Regs) → depth (registers_data r) ≤ 2
registers_within r = object_within _ 1 (member_within _ _ _ _ (omega arith) (member_within _ _ _ _ (omega arith) (member_within _ _ _ _ (omega arith) (member_within _ _ _ _ (omega arith) (member_within _ _ _ _ (omega arith) (member_within _ _ _ _ (list_within 0 number_of r.gpr (λ x. omega arith)) (omega arith)))))))

task_within : (o : Objects) (t : Task) → depth (task_data o t) ≤ 3
task_within o t = object_within _ 2 (member_within _ _ _ _ (registers_within t.regs) (member_within _ _ _ _ (omega arith) (member_within _ _ _ _ (omega arith) (member_within _ _ _ _ (omega arith) (member_within _ _ _ _ (omega arith) (member_within _ _ _ _ (omega arith) (member_within _ _ _ _ (omega arith) (member_within _ _ _ _ (omega arith) (member_within _ _ _ _ (omega arith) (member_within _ _ _ _ (maybe_within 2 t.wake) (member_within _ _ _ _ (wait_within (awaited_by o t)) (member_within _ _ _ _ (omega arith) (member_within _ _ _ _ (omega arith) (member_within _ _ _ _ (omega arith) (member_within _ _ _ _ (omega arith) (omega arith))))))))))))))))

console_within : (s : State) → depth (console_data s) ≤ 4
console_within s = object_within _ 3 (member_within _ _ _ _ (omega arith) (omega arith))

shell_within : (s : State) → depth (shell_data s) ≤ 4
shell_within s = object_within _ 3 (member_within _ _ _ _ (omega arith) (omega arith))

more : (m n : ℕ) → m ≤ n → m ≤ n + 2
more m n h = omega (arith, h)

less : (m : ℕ) → m ≤ 1 → m ≤ 2
less m h = omega (arith, h)

-- a board nests five levels deep
pub board_within : (s : State) → depth (board_data s) ≤ 5
unfolding board_data
board_within s =
    let w = s.world in
    let tasks = list_within 3 (task_data w.objects) w.kern.tasks (task_within w.objects) in
    let semaphores = more _ 2 (list_within 1 (λ r. semaphore_data r.0 r.1) w.objects.semaphores (λ r. semaphore_within r.0 r.1)) in
    let mutexes = more _ 2 (list_within 1 (λ r. mutex_data r.0 r.1) w.objects.mutexes.rows (λ r. mutex_within r.0 r.1)) in
    let queues = more _ 2 (list_within 1 (λ r. queue_data r.0 r.1) w.objects.queues.queues (λ r. queue_within r.0 r.1)) in
    let watchdogs = more _ 2 (list_within 1 watchdog_data w.watch.watchdogs watchdog_within) in
    let modules = more _ 2 (list_within 1 (λ r. module_data r.0 r.1) w.modules.rows (λ r. module_within r.0 r.1)) in
    let symbols = more _ 2 (list_within 1 symbol_data w.symbols symbol_within) in
    let blocks = more _ 2 (list_within 1 block_data w.part.blocks block_within) in
    let level = more _ 2 (less _ (level_within w.watch.level w.int_errno)) in
    object_within _ 4 (member_within _ _ _ _ (more _ 2 (devices_within w.irqs w.slots)) (member_within _ _ _ _ (more _ 2 (ram_within w.ram)) (member_within _ _ _ _ blocks (member_within _ _ _ _ symbols (member_within _ _ _ _ modules (member_within _ _ _ _ watchdogs (member_within _ _ _ _ queues (member_within _ _ _ _ mutexes (member_within _ _ _ _ semaphores (member_within _ _ _ _ level (member_within _ _ _ _ tasks (member_within _ _ _ _ (shell_within s) (member_within _ _ _ _ (console_within s) (member_within _ _ _ _ (maybe_within 4 (running_task w)) (member_within _ _ _ _ (maybe_within 4 w.kern.last) (member_within _ _ _ _ (omega arith) (member_within _ _ _ _ (omega arith) (member_within _ _ _ _ (omega arith) (omega arith)))))))))))))))))))

-- so it can be read back
pub is_shallow : (d : Data) (s : State) → d ≡ board_data s → depth d ≤ max_depth
is_shallow d s is = let P : Data → Type 0 = λ x. depth x ≤ max_depth in let low = board_within s in subst P (sym is) (omega (arith, low))
