-- What contracts see of the environment.
use Rattle.std.specs.Prelude.{◌≡◌, ℕ, List, ◌+◌, ◌-◌, ◌*◌, ◌≤◌, min, length, Result, OnErr}
use Rattle.std.specs.declared.dyn_box.DynBox.{DynBox}
use Rattle.std.specs.declared.alloc.Global.{Global}
use Rattle.wind_outside.specs.declared.device.DeviceKind.{DeviceKind}
use Rattle.wind_outside.specs.declared.device.Device.{Ghosts}
use Rattle.wind_base.specs.Limits.{most_symbols}
use Rattle.wind_base.specs.OutBuf.{KeepsSpace}
use Rattle.board_bus.specs.Seen.{bus_by}
use Rattle.shell_eval.specs.declared.env.Env.{Env}
use Rattle.shell_eval.specs.declared.fault.EvalFault.{EvalFault}
use Rattle.shell_eval.specs.Words.{Tried}
use Rattle.shell_eval.specs.Moved.{attempt}
use Rattle.shell_eval.specs.State.{State, state_of}

-- the state of an environment, with each device seen by these two functions
abbrev pub seen_by : {I : Type 0} {X : I → Type 0} → (DynBox I Global X → DeviceKind) → (DynBox I Global X → List ℕ) → Env I X → State
seen_by kind_of words_of e = state_of e.syms.now e.part.now (bus_by kind_of words_of e.bus.now) e.out.now

-- the state of an environment, with each device seen as its kind and its words
abbrev pub seen : {I : Type 0} {X : I → Type 0} → ((i : I) → Ghosts (X i)) → Env I X → State
seen devices e = seen_by (λ d. (devices d.vtable).kind_of d.value) (λ d. (devices d.vtable).words_of d.value) e

-- the environment still borrows the same parts
pub record SameEnv {I : Type 0} {X : I → Type 0} (old new : Env I X) : Type 0 where
  pub syms : new.syms.ghost_name ≡ old.syms.ghost_name
  pub part : new.part.ghost_name ≡ old.part.ghost_name
  pub bus : new.bus.ghost_name ≡ old.bus.ghost_name
  pub out : new.out.ghost_name ≡ old.out.ghost_name

-- RAM has the same size, and the pool ends where it did
pub record SameSize {I : Type 0} {X : I → Type 0} (old new : Env I X) : Type 0 where
  pub memory : length new.bus.now.ram.bytes ≡ length old.bus.now.ram.bytes
  pub pool : new.part.now.end ≡ old.part.now.end

-- the bytes in the output and its free room together are at least as many as before
abbrev pub SpaceGrows : {I : Type 0} {X : I → Type 0} → Env I X → Env I X → Type 0
SpaceGrows old new = old.out.now.room + length old.out.now.bytes ≤ new.out.now.room + length new.out.now.bytes

-- the most bytes that an operation writes
abbrev pub most_announced : ℕ
most_announced = 300

-- the free room after an evaluation, in bytes
abbrev pub kept_free : ℕ
kept_free = 512

-- there is room for all that n operations can need, and for the free room after them; the pool is inside RAM
pub record Ready {I : Type 0} {X : I → Type 0} (n : ℕ) (e : Env I X) : Type 0 where
  pub symbols : min n (most_symbols - length e.syms.now.list) ≤ e.syms.now.spare
  pub output : n * most_announced + kept_free ≤ e.out.now.room
  pub pool : e.part.now.end ≤ length e.bus.now.ram.bytes

-- the symbols and the output stay, with their free room
pub record KeptParts {I : Type 0} {X : I → Type 0} (old new : Env I X) : Type 0 where
  pub syms : new.syms.now ≡ old.syms.now
  pub out : new.out.now ≡ old.out.now

-- a word or a fault, with the state left, is what this definition gives
abbrev pub Gives : {I : Type 0} {X : I → Type 0} → ((i : I) → Ghosts (X i)) → Result ℕ EvalFault → (State → Tried) → Env I X → Env I X → Type 0
Gives devices result tried old new = attempt result (seen devices new) ≡ tried (seen devices old)

-- the symbols and the output stay, and without a word everything does
pub record Stays {I : Type 0} {X : I → Type 0} (devices : (i : I) → Ghosts (X i)) (result : Result ℕ EvalFault) (old new : Env I X) : Type 0 where
  pub kept : OnErr result (seen devices new ≡ seen devices old)
  pub parts : KeptParts old new
  pub same : SameEnv old new
  pub size : SameSize old new

-- at most one symbol is added, and at most one announcement written
pub record AddsOne {I : Type 0} {X : I → Type 0} (old new : Env I X) : Type 0 where
  pub spare : length old.syms.now.list + old.syms.now.spare ≤ length new.syms.now.list + new.syms.now.spare
  pub list : length new.syms.now.list ≤ length old.syms.now.list + 1
  pub room : old.out.now.room ≤ new.out.now.room + most_announced
  pub space : KeepsSpace old.out.now new.out.now
  pub same : SameEnv old new
  pub size : SameSize old new
