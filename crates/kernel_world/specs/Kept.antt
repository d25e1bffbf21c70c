-- The invariant of the world: it holds at the start, and every call keeps it.
use Rattle.std.specs.Prelude.{◌≡◌, ℕ, ◌+◌, ◌^◌, ◌<◌, ◌≤◌, List, [], ◌∷◌, length, map, false, Option, Some, IsSome}
use Rattle.std.specs.List.{All, AllPairs}
use Rattle.wind_base.specs.Limits.{pool_start, interrupt_stack_bytes, most_modules, most_symbols}
use Rattle.wind_base.specs.Boards.{board_rules}
use Rattle.wind_base.specs.declared.board_kind.BoardKind.{BoardKind}
use Rattle.id_table.specs.Records.{Rising}
use Rattle.id_table.specs.Rows.{IdsBelow, row_id}
use Rattle.mem_partition.specs.Place.{rounded}
use Rattle.mem_partition.specs.State.{PartState, IsPart, own_block}
use Rattle.mem_partition.specs.declared.block.Class.TheVariants.{Kernel}
use Rattle.module_loader.specs.declared.module.LoadedModule.{LoadedModule}
use Rattle.module_loader.specs.Holding.{AreHeld, held_by, occurs}
use Rattle.task_block.specs.declared.task.Task.{Task}
use Rattle.wind_core.specs.State.{KernState, IsKern}
use Rattle.isr_watch.specs.State.{WatchState, IsWatch}
use Rattle.isr_watch.specs.Calls.{routine_return}
use Rattle.isr_watch.specs.Laws.{AllBelow}
use Rattle.kernel_world.specs.Objects.{KeepsObjects, DepthsWithin}
use Rattle.kernel_world.specs.State.{WorldState, choice_of}
use Rattle.module_image.specs.Opening.{interrupt_stack, stack_block}
use Rattle.kernel_world.specs.LiveIds.{KeepsIds}

-- the pool is the board's
pub record KeepsPool (board : BoardKind) (p : PartState) : Type 0 where
  pub blocks : IsPart p
  pub start : p.start ≡ pool_start
  pub end : p.end ≡ (board_rules board).pool_end
  pub room : p.room ≡ (board_rules board).blocks

-- a stack: its address, and its size in bytes
pub record Stack : Type 0 where
  pub addr : ℕ
  pub size : ℕ

-- the stack of a task
abbrev pub stack_of : Task → Stack
stack_of t = record { addr = t.stack; size = t.stack_size }

-- the stack of interrupt routines
abbrev pub routine_stack : Stack
routine_stack = record { addr = interrupt_stack; size = interrupt_stack_bytes }

-- the stacks of the live tasks, by rising id
abbrev pub task_stacks : KernState → List Stack
task_stacks k = map stack_of k.tasks

-- the stack is a Kernel block of its size, rounded up
abbrev pub IsStack : PartState → Stack → Type 0
IsStack p s = own_block p.blocks s.addr Kernel ≡ Some (stack_block s.addr (rounded s.size))

-- two stacks begin at different addresses
abbrev pub AreApart : Stack → Stack → Type 0
AreApart a b = a.addr ≡ b.addr → ⊥

-- these stacks are Kernel blocks of their sizes, and no two are the same
pub record AreStacks (p : PartState) (stacks : List Stack) : Type 0 where
  pub kernels : All (IsStack p) stacks
  pub apart : AllPairs AreApart stacks

-- the interrupt stack and those of the live tasks are Kernel blocks of their sizes, all distinct
abbrev pub KeepsStacks : KernState → PartState → Type 0
KeepsStacks k p = AreStacks p (routine_stack ∷ task_stacks k)

-- no more modules live than may, and their ids rise and are below the next one;
-- those of their segments that have a block are distinct Kernel blocks of their sizes, and none is a stack
pub record AreLoaded (next : ℕ) (stacks : List Stack) (p : PartState) (modules : List (ℕ × LoadedModule)) : Type 0 where
  pub few : length modules ≤ most_modules
  pub rising : Rising row_id modules
  pub below : IdsBelow next modules
  pub held : AreHeld modules p
  pub apart : All (λ s. occurs s.addr (held_by modules) ≡ 0) stacks

-- the same for the world's modules, with the interrupt stack and the stacks of the live tasks
abbrev pub KeepsLoaded : KernState → PartState → List (ℕ × LoadedModule) → Type 0
KeepsLoaded k p modules = AreLoaded k.next_id (routine_stack ∷ task_stacks k) p modules

-- the watchdogs keep their own invariant, each has an id below the next one, and routines return to the board's gate
pub record KeepsWatch (board : BoardKind) (next : ℕ) (s : WatchState) : Type 0 where
  pub watch : IsWatch s
  pub ids : AllBelow next s
  pub link : s.link ≡ routine_return board

pub record KeepsWorld (w : WorldState) : Type 0 where
  pub kern : IsKern w.kern
  -- the kernel has its ids
  pub home : w.kern.lent ≡ false
  pub objects : KeepsObjects w.board w.kern w.objects
  pub pool : KeepsPool w.board w.part
  pub stacks : KeepsStacks w.kern w.part
  pub modules : KeepsLoaded w.kern w.part w.modules.rows
  -- modules are placed as on this board
  pub kind : w.modules.board ≡ w.board
  pub ram : length w.ram ≡ (board_rules w.board).ram_bytes
  pub symbols : length w.symbols ≤ most_symbols
  pub watch : KeepsWatch w.board w.kern.next_id w.watch
  pub ids : KeepsIds w

-- the invariant of a world, whatever devices are in its slots
abbrev pub IsWorld : WorldState → Type 0
IsWorld w = KeepsWorld (record w { slots = [] })

-- only this task may have a reservation (Power ISA, lwarx and stwcx.)
abbrev pub ReservedBy : Option ℕ → KernState → Type 0
ReservedBy who k = All (λ t. IsSome t.regs.reserve → who ≡ Some t.id) k.tasks

-- the task has locked the scheduler at most n times, and is safe at most n times
abbrev pub HasCounts : ℕ → Task → Type 0
HasCounts n t = (t.locks ≤ n) × (t.safe ≤ n)

abbrev pub CountsWithin : ℕ → KernState → Type 0
CountsWithin n k = All (HasCounts n) k.tasks

-- no count of a task or of a mutex is above n
abbrev pub Within : ℕ → WorldState → Type 0
Within n w = CountsWithin n w.kern × DepthsWithin n w.objects

-- the counters are far below their limits
pub record Early (w : WorldState) : Type 0 where
  pub sinces : w.kern.next_since < 2 ^ 60
  pub ticks : w.kern.tick < 2 ^ 60
  pub locks : All (λ t. t.locks < 2 ^ 60) w.kern.tasks
  pub safes : All (λ t. t.safe < 2 ^ 60) w.kern.tasks
  pub depths : All (λ r. r.1.depth < 2 ^ 60) w.objects.mutexes.rows
  pub names : w.names < 2 ^ 60
  pub starts : w.watch.next_start < 2 ^ 60

abbrev pub IsEarly : WorldState → Type 0
IsEarly w = Early (record w { slots = [] })

-- the most order numbers that one call hands out
abbrev pub call_sinces : ℕ
call_sinces = 1024

-- from one world to another within a step: the invariant holds; counts stay within n; no task has a reservation that
-- had none; the tick count is the same; at most d order numbers, m numbers for names and m numbers for starts of
-- watchdogs were handed out; what was chosen at the start is the same
pub record StepKeeps (w v : WorldState) (n d m : ℕ) : Type 0 where
  pub kept : IsWorld v
  pub within : Within n v
  pub last : v.kern.last ≡ w.kern.last
  pub reserves : (who : Option ℕ) → ReservedBy who w.kern → ReservedBy who v.kern
  pub sinces : v.kern.next_since ≤ w.kern.next_since + d
  pub count : v.kern.tick ≡ w.kern.tick
  pub names : v.names ≤ w.names + m
  pub starts : v.watch.next_start ≤ w.watch.next_start + m
  pub choice : choice_of v ≡ choice_of w
