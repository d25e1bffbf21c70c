-- A world as plain data.
use Rattle.std.specs.Prelude.{ℕ, List, Option}
use Rattle.std.specs.declared.dyn_box.DynBox.{DynBox}
use Rattle.std.specs.declared.alloc.Global.{Global}
use Rattle.wind_outside.specs.Devices.{DeviceState, slots_of}
use Rattle.wind_outside.specs.declared.device.Device.{Ghosts}
use Rattle.wind_outside.specs.declared.device.DeviceKind.{DeviceKind}
use Rattle.kernel_world.specs.State.{WorldState}
use Rattle.kernel_world.specs.declared.world.World.{World}

-- a world, with these as its slots
abbrev pub world_with : {I : Type 0} {X : I → Type 0} → List (Option DeviceState) → World I X → WorldState
world_with slots w = record {
  kern = w.kern;
  objects = w.objects;
  part = w.part;
  symbols = w.syms.list;
  modules = w.mods;
  ram = w.bus.ram.bytes;
  slots = slots;
  irqs = w.irqs;
  output = w.out.bytes;
  names = w.names;
  watch = w.watch;
  int_errno = w.int_errno;
  board = w.board;
}

-- a world, with each device seen by these two functions
abbrev pub world_by : {I : Type 0} {X : I → Type 0} → (DynBox I Global X → DeviceKind) → (DynBox I Global X → List ℕ) → World I X → WorldState
world_by kind_of words_of w = world_with (slots_of kind_of words_of w.bus.slots.items) w

-- a world, with each device seen as its kind and its words
abbrev pub world_seen : {I : Type 0} {X : I → Type 0} → ((i : I) → Ghosts (X i)) → World I X → WorldState
world_seen devices w = world_by (λ d. (devices d.vtable).kind_of d.value) (λ d. (devices d.vtable).words_of d.value) w
