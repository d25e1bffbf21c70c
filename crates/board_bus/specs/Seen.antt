-- The board's bus, with devices seen as plain data.
use Rattle.std.specs.Prelude.{ℕ, List}
use Rattle.std.specs.declared.dyn_box.DynBox.{DynBox}
use Rattle.std.specs.declared.alloc.Global.{Global}
use Rattle.wind_outside.specs.Devices.{slots_of}
use Rattle.wind_outside.specs.declared.device.Device.{Ghosts}
use Rattle.wind_outside.specs.declared.device.DeviceKind.{DeviceKind}
use Rattle.board_bus.specs.declared.bus.BoardBus.{BoardBus}
use Rattle.board_bus.specs.BusState.{BusState}

-- a bus, with devices seen through these functions
abbrev pub bus_by : {I : Type 0} {X : I → Type 0} → (DynBox I Global X → DeviceKind) → (DynBox I Global X → List ℕ) → BoardBus I X → BusState
bus_by kind_of words_of b = record { ram = b.ram.bytes; slots = slots_of kind_of words_of b.slots.items }

-- a bus, with a device seen as its kind and its words
abbrev pub bus_seen : {I : Type 0} {X : I → Type 0} → ((i : I) → Ghosts (X i)) → BoardBus I X → BusState
bus_seen devices b = bus_by (λ d. (devices d.vtable).kind_of d.value) (λ d. (devices d.vtable).words_of d.value) b
