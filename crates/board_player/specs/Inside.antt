-- The parts of a board as a state.
use Rattle.std.specs.Prelude.{ℕ, ◌+◌, ◌*◌, ◌≤◌, List, [], Option, length}
use Rattle.std.specs.declared.dyn_box.DynBox.{DynBox}
use Rattle.std.specs.declared.alloc.Global.{Global}
use Rattle.wind_base.specs.Limits.{longest_chunk}
use Rattle.wind_outside.specs.Devices.{DeviceState, slots_of}
use Rattle.wind_outside.specs.declared.device.Device.{Ghosts}
use Rattle.wind_outside.specs.declared.device.DeviceKind.{DeviceKind}
use Rattle.live_loading.specs.KernelWorldOpening.{most_output}
use Rattle.live_loading.specs.KernelWorldSeen.{world_with}
use Rattle.wind_machine.specs.State.{State}
use Rattle.board_player.specs.declared.parts.Parts.{Parts}

-- the parts, with these as their slots
abbrev pub parts_with : {I : Type 0} {X : I → Type 0} → List (Option DeviceState) → Parts I X → State
parts_with slots p = record {
  left = p.feed;
  console = p.console;
  shell = p.shell;
  world = world_with slots p.world;
  schedule = p.schedule;
  time = p.clock.time;
  steps = p.clock.steps;
}

-- the parts without slots
abbrev pub inside : {I : Type 0} {X : I → Type 0} → Parts I X → State
inside p = parts_with [] p

-- the parts, with each device seen by these two functions
abbrev pub parts_by : {I : Type 0} {X : I → Type 0} → (DynBox I Global X → DeviceKind) → (DynBox I Global X → List ℕ) → Parts I X → State
parts_by kind_of words_of p = parts_with (slots_of kind_of words_of p.world.bus.slots.items) p

-- the parts, with each device seen as its kind and its words
abbrev pub parts_seen : {I : Type 0} {X : I → Type 0} → ((i : I) → Ghosts (X i)) → Parts I X → State
parts_seen devices p = parts_by (λ d. (devices d.vtable).kind_of d.value) (λ d. (devices d.vtable).words_of d.value) p

-- the most order numbers that a chunk takes: two for each byte, and for a newline that is supplied
abbrev pub chunk_sinces : ℕ
chunk_sinces = 2 * (longest_chunk + 1)

-- each of the two buffers has room for what a step writes
pub record IsSpacious {I : Type 0} {X : I → Type 0} (p : Parts I X) : Type 0 where
  pub out : most_output ≤ p.world.out.room + length p.world.out.bytes
  pub spare : most_output ≤ p.spare.room + length p.spare.bytes
