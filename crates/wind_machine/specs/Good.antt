-- The machine's invariant: it holds in the opening state, and every step keeps it.
use Rattle.std.specs.Prelude.{◌≡◌, ◌≢◌, ℕ, ◌+◌, ◌*◌, ◌^◌, ◌≤◌, List, []}
use Rattle.con_line.specs.Lines.{KeepsLines}
use Rattle.wind_core.specs.State.{Lives}
use Rattle.id_table.specs.Idents.{shell_id}
use Rattle.live_loading.specs.KernelWorldKept.{IsWorld, ReservedBy, Within}
use Rattle.live_loading.specs.KernelWorldSettling.{HasExact}
use Rattle.wind_machine.specs.State.{State}
use Rattle.wind_machine.specs.declared.phase.Phase.{Phase}
use Rattle.wind_machine.specs.declared.phase.Phase.TheVariants as phases

-- a shell that reads has a finished line to read
abbrev pub HasItsLine : Phase → List ℕ → Type 0
HasItsLine phase finished = phase ≡ phases.Read → finished ≢ []

-- the most order numbers that settling priorities hands out
abbrev pub settle_sinces : ℕ
settle_sinces = 256

-- the most order numbers that one step hands out
abbrev pub step_sinces : ℕ
step_sinces = 8192

-- the invariant but for exact priorities, with this many order numbers left
pub record Keeps (spare : ℕ) (s : State) : Type 0 where
  -- the edited line and the finished lines keep the console's invariant
  pub console : KeepsLines s.console.edited s.console.finished
  -- in phase Read there is a finished line
  pub read : HasItsLine s.shell.phase s.console.finished
  -- the kernel's tasks and objects, the partition, the stacks, RAM, the symbols and the watchdogs keep the world's
  -- invariant
  pub world : IsWorld s.world
  -- the shell's task lives
  pub shell : Lives s.world.kern shell_id
  -- whoever has a reservation ran last
  pub reserved : ReservedBy s.world.kern.last s.world.kern
  -- the counters are bounded by the steps made
  pub sinces : s.world.kern.next_since + spare ≤ step_sinces * (s.steps + 1)
  pub ticks : s.world.kern.tick ≤ s.steps
  pub within : Within s.steps s.world
  pub names : s.world.names ≤ s.steps + 1
  pub starts : s.world.watch.next_start ≤ s.steps
  -- board time exceeds the number of steps by at most the time of an event
  pub time : s.time ≤ 2 ^ 64 + s.steps

-- a state without its devices, which the invariant doesn't mention
abbrev pub bare : State → State
bare s = record s { world = record s.world { slots = [] } }

-- what a step's effect keeps, before priorities are settled
abbrev pub KeepsEffect : State → Type 0
KeepsEffect s = Keeps settle_sinces (bare s)

-- the invariant of a state without devices, with exact priorities
pub record KeepsExactly (s : State) : Type 0 where
  pub kept : Keeps 0 s
  -- each task has exactly the priority that it inherits
  pub exact : HasExact s.world

-- the invariant of a state, whatever devices are in its slots
abbrev pub Good : State → Type 0
Good s = KeepsExactly (bare s)
