-- What follows from the definitions of the calls alone.
use Rattle.std.specs.Prelude.{◌≡◌, ◌≢◌, ℕ, ◌+◌, ◌≤◌, ◌⊎◌, List, Option}
use Rattle.wind_base.specs.declared.board_kind.BoardKind.{BoardKind}
use Rattle.wind_base.specs.declared.gate.Gate.{Gate}
use Rattle.wind_outside.specs.Devices.{DeviceState}
use Rattle.wind_core.specs.State.{KernState, Lives, task_of}
use Rattle.task_safety.specs.Safety.{safe_of}
use Rattle.call_rows.specs.KernelWorldState.{WorldState, choice_of}
use Rattle.id_table.specs.Idents.{shell_id}
use Rattle.call_rows.specs.KernelWorldActors.{MayCall}
use Rattle.kernel_calls.specs.Calls.{call}
use Rattle.call_rows.specs.Ending.{ended}
use Rattle.wind_base.specs.declared.profile.Profile.{Profile}
use Rattle.call_rows.specs.KernelWorldOpening.{opening_world}
use Rattle.call_rows.specs.KernelWorldKept.{IsWorld, Within, ReservedBy, call_sinces, StepKeeps}
use Rattle.call_rows.specs.KernelWorldActor.{Actor}
use Rattle.call_rows.specs.KernelWorldActor.TheVariants.{Task}

-- a task that lives in one world and not in the next was not safe from deletion, or is the caller
abbrev pub OnlyUnsafeGo : WorldState → Actor → WorldState → Type 0
OnlyUnsafeGo w a v = (id : ℕ) → Lives w.kern id → (Lives v.kern id → ⊥) → (safe_of (task_of w.kern.tasks id) ≡ 0) ⊎ (a ≡ Task id)

-- from one world to another within one call: a step keeps what it must; no safe task but the caller is gone, and the
-- shell's task lives on
pub record Passes (w v : WorldState) (a : Actor) (n d m : ℕ) : Type 0 where
  pub steps : StepKeeps w v n d m
  pub open steps use *
  pub gone : OnlyUnsafeGo w a v
  pub shell : Lives w.kern shell_id → Lives v.kern shell_id

-- the world at the start has the invariant, under either rule of inheritance, on either board
abbrev pub OpeningLaw : Type 0
OpeningLaw = (slots : List (Option DeviceState)) (profile : Profile) (board : BoardKind) → IsWorld (opening_world slots profile board)

-- every call keeps the invariant, whoever makes it
abbrev pub CallLaw : Type 0
CallLaw = (g : Gate) (w : WorldState) (a : Actor) (n : ℕ) → IsWorld w → MayCall w.kern a → Within n w → Passes w (call g w a) a (n + 1) call_sinces 1

-- the end of a task keeps the invariant, and the other tasks live on
pub record Ends (w v : WorldState) (who n : ℕ) : Type 0 where
  pub kept : IsWorld v
  pub lives : (id : ℕ) → (id ≡ who → ⊥) → Lives w.kern id → Lives v.kern id
  pub within : Within n v
  pub reserves : (who : Option ℕ) → ReservedBy who w.kern → ReservedBy who v.kern
  pub sinces : v.kern.next_since ≤ w.kern.next_since + call_sinces
  pub count : v.kern.tick ≡ w.kern.tick
  pub names : v.names ≡ w.names
  pub starts : v.watch.next_start ≡ w.watch.next_start
  pub choice : choice_of v ≡ choice_of w

abbrev pub EndLaw : Type 0
EndLaw = (w : WorldState) (who n : ℕ) → IsWorld w → Within n w → Ends w (ended w who) who n

-- ---- what stays
-- the tasks but one, the tick count, the time slice, the order numbers and the task that ran last are as before
pub record KernStays (k j : KernState) (who : ℕ) : Type 0 where
  pub others : (id : ℕ) → id ≢ who → task_of j.tasks id ≡ task_of k.tasks id
  pub tick : j.tick ≡ k.tick
  pub slice : j.slice ≡ k.slice
  pub sinces : j.next_since ≡ k.next_since
  pub last : j.last ≡ k.last

-- these parts of the kernel, the objects, the watchdogs, the numbers for names, the last error number at interrupt
-- level and the kind of the board are as before
pub record ElseStays (w v : WorldState) (who : ℕ) : Type 0 where
  pub counters : KernStays w.kern v.kern who
  pub open counters use *
  pub objects : v.objects ≡ w.objects
  pub watch : v.watch ≡ w.watch
  pub names : v.names ≡ w.names
  pub int_errno : v.int_errno ≡ w.int_errno
  pub board : v.board ≡ w.board
