-- What a contract sees of the world of the kernel's calls.
use Rattle.std.specs.Prelude.{ℕ, List, Option}
use Rattle.wind_base.specs.declared.board_kind.BoardKind.{BoardKind}
use Rattle.wind_base.specs.declared.profile.Profile.{Profile}
use Rattle.wind_outside.specs.Devices.{DeviceState}
use Rattle.mem_partition.specs.State.{PartState}
use Rattle.symbol_table.specs.declared.symbol.Symbol.{Symbol}
use Rattle.module_loader.specs.Modules.{LoadedModules}
use Rattle.wind_core.specs.State.{KernState}
use Rattle.isr_watch.specs.State.{WatchState}
use Rattle.dev_irq.specs.declared.line.Line.{Line}
use Rattle.kernel_world.specs.declared.objects.Objects.{Objects}

-- all that a kernel call may read or change
pub record WorldState : Type 0 where
  -- the kernel's tasks and counters
  pub kern : KernState
  -- its semaphores, mutexes and message queues
  pub objects : Objects
  -- the memory partition
  pub part : PartState
  -- the symbols, in order of adding
  pub symbols : List Symbol
  -- the live modules, by rising id, and the kind of board for which they are placed
  pub modules : LoadedModules
  -- the bytes of RAM, from address 0 on
  pub ram : List ℕ
  pub slots : List (Option DeviceState)
  -- the interrupt line of each slot
  pub irqs : List Line
  -- the bytes that the step has written
  pub output : List ℕ
  -- the number that the next task without a name takes
  pub names : ℕ
  -- the watchdogs, the active interrupt routine and the listed ones
  pub watch : WatchState
  -- the last error number at interrupt level
  pub int_errno : ℕ
  -- the kind of the board
  pub board : BoardKind

-- what is chosen at the start, and no call changes: the rule of inheritance, and the kind of board
pub record Choice : Type 0 where
  pub profile : Profile
  pub board : BoardKind

abbrev pub choice_of : WorldState → Choice
choice_of w = record { profile = w.objects.mutexes.profile; board = w.board }
